-- The cells of a mesh in two lists, inside and outside.
use Rattle.std.specs.Prelude.{◌≡◌, not, List, map, filter}
use Rattle.bc_num.specs.declared.p3.P3.{P3}
use Rattle.bc_solid.specs.Facets.{Facet, IsOff3}
use Rattle.bc_parity.specs.Faces.{is_odd3_at}
use Rattle.bc_natural.specs.Planes.{Planes, plane_mask}
use Rattle.bc_cells.specs.Cells.{Cell3}
use Rattle.bc_classify.specs.declared.split3.Marked3.{Marked3}
use Rattle.bc_classify.specs.declared.split3.Split3.{Split3}

-- the cell's mask, and a point that shows it
abbrev pub marked3 : Cell3 → Marked3
marked3 c = record { mask = c.mask; inner = c.inner }

-- each cell is in one of the lists, in order: inside where its inner point is odd
pub record IsSplit3 (fs : List Facet) (cells : List Cell3) (s : Split3) : Type 0 where
  pub inside : s.inside ≡ map marked3 (filter (λ c. is_odd3_at fs c.inner) cells)
  pub outside : s.outside ≡ map marked3 (filter (λ c. not (is_odd3_at fs c.inner)) cells)

-- points on no plane with equal masks are both odd or both even
abbrev pub OddCellLaw : List Facet → Planes → Type 0
OddCellLaw fs t = (p q : P3) → IsOff3 fs p → IsOff3 fs q → plane_mask t p ≡ plane_mask t q → is_odd3_at fs p ≡ is_odd3_at fs q
