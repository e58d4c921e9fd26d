use Rattle.std.proofs.Common.{◌↔◌, IsTrue, not, subst, sym, ap}
use Rattle.bc_tree.specs.Shape.{shape}
use Rattle.bc_tree.specs.Holds.{HasFlat}
use Rattle.bc_tree.proofs.LeafKinds.{some_flat}
use Rattle.bc_tree.proofs.kind.has_flat.Goals as goal

pub returns-clause-flat : goal.returns-clause-flat
returns-clause-flat c = subst (λ b. IsTrue b ↔ HasFlat (shape c.args.t.now)) (sym (ap not c.all_solid.ensures)) (some_flat (shape c.args.t.now))
