-- What a walk over cells finds: whether the parity at each inner point is what is given for the cell.
use Rattle.std.specs.Prelude.{◌≡◌, ◌≢◌, ℕ, List, Bool, false, Some, slice_get, get_or}
use Rattle.bc_num.specs.declared.p3.P3.{P3}
use Rattle.bc_num.specs.Points.{IsSamePoint3, IsReduced3}
use Rattle.bc_solid.specs.Facets.{Facet}
use Rattle.bc_parity.specs.Faces.{is_odd3_at}
use Rattle.bc_cells.specs.Cells.{Cell3}
use Rattle.bc_audit.specs.declared.verdict.Verdict.{Verdict}
use Rattle.bc_audit.specs.declared.verdict.Verdict.TheVariants.{Same, Differs}

-- cell i has another parity than is given, and p is the place of its inner point in lowest terms
pub record IsDifference (fs : List Facet) (cells : List Cell3) (holds : List Bool) (p : P3) : Type 0 where
  pub i : ℕ
  pub cell : Cell3
  pub at : slice_get cells i ≡ Some cell
  pub apart : is_odd3_at fs cell.inner ≢ get_or holds i false
  pub same : IsSamePoint3 cell.inner p
  pub reduced : IsReduced3 p

abbrev pub IsCompared : List Facet → List Cell3 → List Bool → Verdict → Type 0
IsCompared fs cells holds Same = (i : ℕ) (c : Cell3) → slice_get cells i ≡ Some c → is_odd3_at fs c.inner ≡ get_or holds i false
IsCompared fs cells holds (Differs p) = IsDifference fs cells holds p
