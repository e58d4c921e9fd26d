use Rattle.std.proofs.Common.{sym, subst, inr}
use Rattle.bc_num.specs.Directions3.{IsLeading3}
use Rattle.bc_num.proofs.directions3.turned.Goals as goal

pub returns-then-is_turned-clause-leading : goal.returns-then-is_turned-clause-leading
returns-then-is_turned-clause-leading c = subst IsLeading3 (sym c.opposite.ensures) (c.is_turned.ensures.yes c.if-is_turned.true)

pub returns-then-is_turned-clause-either : goal.returns-then-is_turned-clause-either
returns-then-is_turned-clause-either c = inr c.opposite.ensures
