use Rattle.std.proofs.Common.{◌↔◌, IsTrue, subst, sym}
use Rattle.bc_tree.specs.Axis.{IsAxis3}
use Rattle.bc_tree.proofs.AxisTests.{axis3_test}
use Rattle.bc_tree.proofs.frame.Frame3.is_axis.Goals as goal

pub returns-clause-axis : goal.returns-clause-axis
returns-clause-axis c = subst (λ b. IsTrue b ↔ IsAxis3 c.args.self.now.n) (sym c.is_axis3.ensures) (axis3_test c.args.self.now.n)
