use Rattle.bc_natural.proofs.PlaneTables.{alike_by_mask}
use Rattle.bc_classify.proofs.laws.odd_cell_law.Goals as goal

pub returns : goal.returns
returns c = λ p q off_p off_q e. c.cell_law3.ensures p q off_p off_q (alike_by_mask c.args.s.now c.args.t.now p q c.requires.table off_p off_q e)
