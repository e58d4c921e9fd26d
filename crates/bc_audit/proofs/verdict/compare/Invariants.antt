use Rattle.std.proofs.Common.{◌≡◌, ℕ, ◌<◌, Some, false, get_or}
use Rattle.std.specs.Prelude.{slice_get}
use Rattle.bc_parity.specs.Faces.{is_odd3_at}
use Rattle.bc_cells.specs.Cells.{Cell3}
use Rattle.bc_audit.proofs.verdict.compare.Given as goal

abbrev pub invariant-loop-i : goal.invariant-loop-i
invariant-loop-i l = (k : ℕ) (c : Cell3) → k < l.i → slice_get l.cells k ≡ Some c → is_odd3_at l.s c.inner ≡ get_or l.holds k false
