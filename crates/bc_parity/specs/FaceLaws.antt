-- The laws of the parity of closed meshes, for points with numbers of any size.
use Rattle.std.specs.Prelude.{◌≡◌, ◌≢◌, ◌⊎◌, false, List, All, pos, ◌*ℤ◌, ◌<ℤ◌}
use Rattle.bc_num.specs.declared.p3.P3.{P3}
use Rattle.bc_num.specs.declared.box3.Box3.{Box3}
use Rattle.bc_num.specs.Measures.{turn}
use Rattle.bc_space.specs.declared.plane3.Plane3.{Plane3}
use Rattle.bc_space.specs.Planes.{plane_value}
use Rattle.bc_solid.specs.Meshes.{Edge3}
use Rattle.bc_solid.specs.Facets.{Facet, IsOnPlane, IsOff3, AreAlike3}
use Rattle.bc_solid.specs.Boxes3.{IsBoxOf3, IsOutside3}
use Rattle.bc_parity.specs.Faces.{shadow, shadow_point, is_odd3_at}

-- the plane has both ends of the edge
abbrev pub IsThrough : Plane3 → Edge3 → Type 0
IsThrough h e = IsOnPlane h e.from × IsOnPlane h e.to

abbrev pub IsVertical : Plane3 → Type 0
IsVertical h = h.c ≡ pos 0

-- p is strictly above a plane that is not vertical, and strictly below one
abbrev pub IsOver : P3 → Plane3 → Type 0
IsOver p h = pos 0 <ℤ (h.c *ℤ plane_value h p)

abbrev pub IsUnder : P3 → Plane3 → Type 0
IsUnder p h = (h.c *ℤ plane_value h p) <ℤ pos 0

-- over the line of an edge that is not vertical, a point that is on no plane of a face is above all of these planes through
-- the edge or below all of them, and none of them is vertical
abbrev pub PlaneLaw : List Facet → Type 0
PlaneLaw fs = (e : Edge3) (p : P3) → shadow e.from ≢ shadow e.to → turn (shadow e.from) (shadow e.to) (shadow_point p) ≡ pos 0 → IsOff3 fs p
    → All (λ f. IsThrough f.plane e → (IsVertical f.plane → ⊥) × IsOver p f.plane) fs
    ⊎ All (λ f. IsThrough f.plane e → (IsVertical f.plane → ⊥) × IsUnder p f.plane) fs

-- points on no plane of a face, with equal masks, have the same parity
abbrev pub CellLaw3 : List Facet → Type 0
CellLaw3 fs = (p q : P3) → IsOff3 fs p → IsOff3 fs q → AreAlike3 fs p q → is_odd3_at fs p ≡ is_odd3_at fs q

-- outside the closed box nothing is odd, also on the planes
abbrev pub OutsideLaw3 : List Facet → Type 0
OutsideLaw3 fs = (b : Box3) (p : P3) → IsBoxOf3 fs b → IsOutside3 b p → is_odd3_at fs p ≡ false
