use Rattle.bc_natural.proofs.PlaneTables.{alike_by_mask}
use Rattle.bc_classify.proofs.Halves.{plane_mask_by_sides}
use Rattle.bc_classify.proofs.laws.side_cell_law.Goals as goal

pub returns : goal.returns
returns c = λ p q off_p off_q. (
  alike_by_mask c.args.s.now c.args.t.now p q c.requires.table off_p off_q,
  plane_mask_by_sides c.args.s.now c.args.t.now c.requires.table p q,
)
