-- How the downward ray from a point of space crosses faces, and whether it crosses an odd number of them. The ray is moved
-- by an infinitesimal e in x and by e squared in y. (This project's own; comparisons of rational coordinates are made after
-- multiplying by the denominators.)
use Rattle.std.specs.Prelude.{Bool, IsTrue, not, ◌&&◌, ◌||◌, List, pos, ◌-ℤ◌, ◌*ℤ◌, int_lt}
use Rattle.std.specs.Ordering.{int_eq}
use Rattle.bc_num.specs.declared.v2.V2.{V2}
use Rattle.bc_num.specs.declared.v3.V3.{V3}
use Rattle.bc_num.specs.declared.p2.P2.{P2}
use Rattle.bc_num.specs.declared.p3.P3.{P3}
use Rattle.bc_num.specs.Measures.{turn}
use Rattle.bc_space.specs.declared.plane3.Plane3.{Plane3}
use Rattle.bc_space.specs.Planes.{plane_value}
use Rattle.bc_solid.specs.Meshes.{Edge3, edges}
use Rattle.bc_solid.specs.Facets.{Facet}
use Rattle.bc_parity.specs.Parity.{xor}
use Rattle.bc_parity.specs.Sums.{odd}
use Rattle.bc_parity.specs.Crossings.{has_passed, is_above_line}

-- seen from above
abbrev pub shadow : V3 → V2
shadow v = record { x = v.x; y = v.y }

abbrev pub shadow_point : P3 → P2
shadow_point p = record { x = p.x; y = p.y; w = p.w; positive = p.positive }

-- the line through a and b rises from left to right
abbrev pub rises : V2 → V2 → Bool
rises a b = int_lt (pos 0) ((b.x -ℤ a.x) *ℤ (b.y -ℤ a.y))

-- p is strictly above the line through a and b, or on it while it does not rise
abbrev pub is_above_or_on : V2 → V2 → P2 → Bool
is_above_or_on a b p = is_above_line a b p || int_eq (turn a b p) (pos 0) && not (rises a b)

-- the planar ray, moved by e in x and e squared in y, crosses the edge seen from above: exactly one of `a.x <= p.x` and
-- `b.x <= p.x` is true, and p is above the line or on it as said
abbrev pub is_edge_crossed : Edge3 → P3 → Bool
is_edge_crossed e p =
    xor (has_passed (shadow e.from) (shadow_point p)) (has_passed (shadow e.to) (shadow_point p))
    && is_above_or_on (shadow e.from) (shadow e.to) (shadow_point p)

-- the plane is not vertical, and p is strictly above it: its height over the plane, times p.w and the square of c, is above 0
abbrev pub is_over : Plane3 → P3 → Bool
is_over h p = int_lt (pos 0) (h.c *ℤ plane_value h p)

-- the ray crosses the face: p is over its plane, and an odd number of its edges seen from above are crossed
abbrev pub is_face_crossed : Facet → P3 → Bool
is_face_crossed f p = is_over f.plane p && odd (λ e. is_edge_crossed e p) (edges f.corners)

abbrev pub is_odd3_at : List Facet → P3 → Bool
is_odd3_at fs p = odd (λ f. is_face_crossed f p) fs

-- the ray from p crosses an odd number of faces
abbrev pub Odd3 : List Facet → P3 → Type 0
Odd3 fs p = IsTrue (is_odd3_at fs p)
