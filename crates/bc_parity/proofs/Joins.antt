-- Edges of faces that have the same ends.
use Rattle.std.proofs.Common.{◌≡◌, Bool, true, ◌&&◌, inl, inr, sym, ◌∙◌, ap}
use Rattle.bc_solid.specs.Meshes.{Edge3, is_same3, joins}
use Rattle.bc_solid.proofs.Joins.{joins-cases}
use Rattle.bc_parity.proofs.Xors.{or_comm}

-- a test of edges that does not depend on the order of the ends
abbrev pub IsSymmetric : (Edge3 → Bool) → Type 0
IsSymmetric test = (e : Edge3) → test (record { from = e.to; to = e.from }) ≡ test e

pub joins-symmetric : (z : Edge3) → IsSymmetric (joins z)
joins-symmetric z e = or_comm (is_same3 z.from e.to && is_same3 z.to e.from) (is_same3 z.from e.from && is_same3 z.to e.to)

-- a symmetric test answers the same for two edges with the same ends
pub same_answer : (test : Edge3 → Bool) → IsSymmetric test → (y e : Edge3) → joins y e ≡ true → test y ≡ test e
same_answer test s y e h =
    elim (joins-cases y e h) [
      | inl x ↦ ap test (sym x)
      | inr x ↦ sym (s y) ∙ ap test (sym x)
    ]
