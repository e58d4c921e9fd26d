-- Crossings of arcs, contours and faces, counted by hand.
use Rattle.std.proofs.Common.{◌≡◌, ℕ, ◌+◌, ◌<◌, true, false, List, [], ◌∷◌, refl, rules}
use Rattle.std.specs.Prelude.{unsigned_abs}
use lib.IntN.{ℤ, pos, negsuc}
use lib.Signed.{◌<ℤ◌}
use Rattle.bc_num.specs.declared.v2.V2.{V2}
use Rattle.bc_num.specs.declared.p2.P2.{P2}
use Rattle.bc_solid.specs.declared.element.Element.{Element}
use Rattle.bc_solid.specs.declared.element.Element.TheVariants.{Edge, Arc}
use Rattle.bc_num.specs.declared.v3.V3.{V3}
use Rattle.bc_num.specs.declared.p3.P3.{P3}
use Rattle.bc_space.specs.declared.plane3.Plane3.{Plane3}
use Rattle.bc_solid.specs.Facets.{Facet}
use Rattle.bc_parity.specs.Faces.{is_face_crossed, is_odd3_at}
use Rattle.bc_parity.specs.Crossings.{Arc as ArcOf, crossings_of_arc}
use Rattle.bc_parity.specs.ChordLaw.{arc_of}
use Rattle.bc_parity.specs.Sides.{is_on_arc_side}
use Rattle.bc_parity.specs.Odd.{crossings_in}
use Rattle.bc_parity.specs.StraightOdd.{straight_crossings_in}

abbrev at : ℤ → ℤ → V2
at x y = record { x = x; y = y }

abbrev origin : V2
origin = at (pos 0) (pos 0)

one : pos 0 <ℤ pos 1
one = search rules

two : pos 0 <ℤ pos 2
two = search rules

-- a whole point, and one over 2
abbrev whole : ℤ → ℤ → P2
whole x y = record { x = x; y = y; w = pos 1; positive = one }

abbrev half : ℤ → ℤ → P2
half x y = record { x = x; y = y; w = pos 2; positive = two }

-- the full circle of radius 5 round the origin
abbrev disc : ArcOf
disc = arc_of (at (pos 5) (pos 0)) (at (pos 5) (pos 0)) origin true

disc_inside : crossings_of_arc disc (whole (pos 0) (pos 0)) ≡ 1
disc_inside = refl

disc_above : crossings_of_arc disc (whole (pos 0) (pos 6)) ≡ 2
disc_above = refl

-- the column that touches the circle meets it at the left extreme, and not at the right one
disc_left : crossings_of_arc disc (whole (negsuc 4) (pos 8)) ≡ 2
disc_left = refl

disc_right : crossings_of_arc disc (whole (pos 5) (pos 8)) ≡ 0
disc_right = refl

-- (9/2, 2) is inside, (9/2, 5/2) is outside
disc_half : crossings_of_arc disc (half (pos 9) (pos 4)) ≡ 1
disc_half = refl

disc_half_out : crossings_of_arc disc (half (pos 9) (pos 5)) ≡ 2
disc_half_out = refl

-- the major arc from (5, 0) over the top to (0, -5), and the minor one, clockwise between the same ends
abbrev major : ArcOf
major = arc_of (at (pos 5) (pos 0)) (at (pos 0) (negsuc 4)) origin true

abbrev minor : ArcOf
minor = arc_of (at (pos 5) (pos 0)) (at (pos 0) (negsuc 4)) origin false

major_missed : crossings_of_arc major (whole (pos 0) (pos 0)) ≡ 0
major_missed = refl

minor_crossed : crossings_of_arc minor (whole (pos 0) (pos 0)) ≡ 1
minor_crossed = refl

major_side : is_on_arc_side major (whole (pos 0) (pos 0)) ≡ true
major_side = refl

minor_side : is_on_arc_side minor (whole (pos 0) (pos 0)) ≡ false
minor_side = refl

-- the lower half of the circle with a rim, from a column in which an edge and the arc meet
abbrev bowl : List Element
bowl =
    Arc (at (negsuc 4) (pos 0)) (at (pos 5) (pos 0)) origin true
    ∷ Edge (at (pos 5) (pos 0)) (at (pos 8) (pos 5))
    ∷ Edge (at (pos 8) (pos 5)) (at (negsuc 7) (pos 5))
    ∷ Edge (at (negsuc 7) (pos 5)) (at (negsuc 4) (pos 0))
    ∷ []

bowl_over : crossings_in bowl (whole (negsuc 4) (pos 8)) ≡ 2
bowl_over = refl

bowl_in : crossings_in bowl (whole (negsuc 4) (pos 3)) ≡ 1
bowl_in = refl

-- with its chord in place of the arc
bowl_straight : straight_crossings_in bowl (whole (pos 0) (negsuc 2)) ≡ 0
bowl_straight = refl

-- ---- faces

abbrev place : ℕ → ℕ → ℕ → V3
place x y z = record { x = pos x; y = pos y; z = pos z }

abbrev spot : ℤ → ℤ → ℤ → P3
spot x y z = record { x = x; y = y; z = z; w = pos 1; positive = one }

abbrev half_spot : ℤ → ℤ → ℤ → P3
half_spot x y z = record { x = x; y = y; z = z; w = pos 2; positive = two }

along_z : 0 < unsigned_abs (pos 0) + unsigned_abs (pos 0) + unsigned_abs (pos 1)
along_z = search rules

along_y : 0 < unsigned_abs (pos 0) + unsigned_abs (pos 1) + unsigned_abs (pos 0)
along_y = search rules

along_x : 0 < unsigned_abs (pos 1) + unsigned_abs (pos 0) + unsigned_abs (pos 0)
along_x = search rules

aslant : 0 < unsigned_abs (pos 1) + unsigned_abs (pos 1) + unsigned_abs (pos 1)
aslant = search rules

-- the planes z = 0, y = 0, x = 0 and x + y + z = 3
abbrev floor : Plane3
floor = record { a = pos 0; b = pos 0; c = pos 1; d = pos 0; normal = along_z }

abbrev front : Plane3
front = record { a = pos 0; b = pos 1; c = pos 0; d = pos 0; normal = along_y }

abbrev side : Plane3
side = record { a = pos 1; b = pos 0; c = pos 0; d = pos 0; normal = along_x }

abbrev slant : Plane3
slant = record { a = pos 1; b = pos 1; c = pos 1; d = pos 3; normal = aslant }

-- a tetrahedron at the origin
abbrev wall : Facet
wall = record { plane = side; corners = place 0 0 0 ∷ place 0 3 0 ∷ place 0 0 3 ∷ [] }

abbrev tetra : List Facet
tetra =
    record { plane = floor; corners = place 0 0 0 ∷ place 3 0 0 ∷ place 0 3 0 ∷ [] }
    ∷ record { plane = front; corners = place 0 0 0 ∷ place 3 0 0 ∷ place 0 0 3 ∷ [] }
    ∷ wall
    ∷ record { plane = slant; corners = place 3 0 0 ∷ place 0 3 0 ∷ place 0 0 3 ∷ [] }
    ∷ []

-- at (1/2, 1/2, 1/2), (1/2, 1/2, 5/2) and (1/2, 1/2, -1/2)
tetra_inside : is_odd3_at tetra (half_spot (pos 1) (pos 1) (pos 1)) ≡ true
tetra_inside = refl

tetra_above : is_odd3_at tetra (half_spot (pos 1) (pos 1) (pos 5)) ≡ false
tetra_above = refl

tetra_below : is_odd3_at tetra (half_spot (pos 1) (pos 1) (negsuc 0)) ≡ false
tetra_below = refl

-- over a vertical face
wall_missed : is_face_crossed wall (spot (pos 0) (pos 1) (pos 5)) ≡ false
wall_missed = refl

-- the two halves of a square, on either side of its rising diagonal, and on either side of its falling one
abbrev right_below : Facet
right_below = record { plane = floor; corners = place 0 0 0 ∷ place 2 0 0 ∷ place 2 2 0 ∷ [] }

abbrev left_above : Facet
left_above = record { plane = floor; corners = place 0 0 0 ∷ place 2 2 0 ∷ place 0 2 0 ∷ [] }

abbrev left_below : Facet
left_below = record { plane = floor; corners = place 0 0 0 ∷ place 2 0 0 ∷ place 0 2 0 ∷ [] }

abbrev right_above : Facet
right_above = record { plane = floor; corners = place 2 0 0 ∷ place 2 2 0 ∷ place 0 2 0 ∷ [] }

-- over the diagonal the ray crosses the half to the right
rising_right : is_face_crossed right_below (spot (pos 1) (pos 1) (pos 1)) ≡ true
rising_right = refl

rising_left : is_face_crossed left_above (spot (pos 1) (pos 1) (pos 1)) ≡ false
rising_left = refl

falling_right : is_face_crossed right_above (spot (pos 1) (pos 1) (pos 1)) ≡ true
falling_right = refl

falling_left : is_face_crossed left_below (spot (pos 1) (pos 1) (pos 1)) ≡ false
falling_left = refl

-- over the edges along the axes
lower_edge : is_face_crossed right_below (spot (pos 1) (pos 0) (pos 1)) ≡ true
lower_edge = refl

upper_edge : is_face_crossed left_above (spot (pos 1) (pos 2) (pos 1)) ≡ false
upper_edge = refl

left_edge : is_face_crossed left_above (spot (pos 0) (pos 1) (pos 1)) ≡ true
left_edge = refl

right_edge : is_face_crossed right_below (spot (pos 2) (pos 1) (pos 1)) ≡ false
right_edge = refl
