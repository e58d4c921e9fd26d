use Rattle.std.proofs.Common.{ℕ, ◌<◌}
use Rattle.bc_solid.specs.MeshFaults.{IsTwin}
use Rattle.bc_solid.proofs.outline.first_twin.Given as goal

abbrev pub invariant-loop-place : goal.invariant-loop-place
invariant-loop-place l = (j : ℕ) → j < l.place → IsTwin l.corners j → ⊥
