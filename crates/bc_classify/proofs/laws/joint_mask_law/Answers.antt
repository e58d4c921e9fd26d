use Rattle.bc_classify.proofs.Joints.{joint_masks}
use Rattle.bc_classify.proofs.laws.joint_mask_law.Goals as goal

pub returns : goal.returns
returns c =
    joint_masks c.args.a.now c.args.b.now c.args.c.now c.requires.table c.law.ensures c.law-2.ensures c.flip_law.ensures c.flip_law-2.ensures c.straight_cell_law.ensures c.straight_cell_law-2.ensures
