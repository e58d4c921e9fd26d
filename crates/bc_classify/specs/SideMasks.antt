-- What equal masks tell: that two points are on the same sides of all that the table comes from.
use Rattle.std.specs.Prelude.{◌≡◌, ◌↔◌, List}
use Rattle.bc_num.specs.declared.p2.P2.{P2}
use Rattle.bc_num.specs.declared.p3.P3.{P3}
use Rattle.bc_solid.specs.declared.element.Element.{Element}
use Rattle.bc_solid.specs.HalfSpaces.{AreAlike}
use Rattle.bc_solid.specs.Facets.{Facet, IsOff3, AreAlike3}
use Rattle.bc_natural.specs.Curves.{Curves}
use Rattle.bc_natural.specs.Masks.{curve_mask}
use Rattle.bc_natural.specs.Planes.{Planes, plane_mask}

-- points have equal masks exactly where they are Above the same lines and discs of the elements
abbrev pub SideMaskLaw : List Element → Curves → Type 0
SideMaskLaw es t = (p q : P2) → (curve_mask t p ≡ curve_mask t q) ↔ AreAlike es p q

-- points on no plane have equal masks exactly where they are on the same sides of the faces' planes
abbrev pub SideCellLaw : List Facet → Planes → Type 0
SideCellLaw fs t = (p q : P3) → IsOff3 fs p → IsOff3 fs q → (plane_mask t p ≡ plane_mask t q) ↔ AreAlike3 fs p q
