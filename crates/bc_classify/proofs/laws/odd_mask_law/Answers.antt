use Rattle.bc_classify.proofs.Parities.{odd_masks}
use Rattle.bc_classify.proofs.laws.odd_mask_law.Goals as goal

pub returns : goal.returns
returns c = odd_masks c.args.s.now c.args.c.now c.requires.table c.law.ensures c.flip_law.ensures c.straight_cell_law.ensures
