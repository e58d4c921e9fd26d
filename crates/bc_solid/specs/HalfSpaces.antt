-- The half-spaces that contours induce, and the points on none of their boundaries: the line of each edge, the line of
-- the chord of each arc that is no full circle, and the disc of each arc (after Shapiro and Vossler).
use Rattle.std.specs.Prelude.{◌≡◌, Bool, true, false, ◌&&◌, ◌||◌, List, [], ◌∷◌, ◌++◌, All, ℤ, pos, ◌*ℤ◌, int_lt, if◌then◌else◌}
use Rattle.std.specs.Ordering.{int_eq}
use Rattle.bc_num.specs.declared.v2.V2.{V2}
use Rattle.bc_num.specs.declared.p2.P2.{P2}
use Rattle.bc_num.specs.Measures.{square_distance, square_between, turn, is_same}
use Rattle.bc_solid.specs.declared.element.Element.{Element}
use Rattle.bc_solid.specs.declared.element.Element.TheVariants.{Edge, Arc}

-- the line through two places, or the disc round a place with a squared radius
pub data HalfSpace2 : Type 0 where
  Line : V2 → V2 → HalfSpace2
  Disc : V2 → ℤ → HalfSpace2

-- p is on the boundary
abbrev pub IsOn : HalfSpace2 → P2 → Type 0
IsOn (Line a b) p = turn a b p ≡ pos 0
IsOn (Disc c r2) p = square_distance c p ≡ r2 *ℤ (p.w *ℤ p.w)

-- the disc of an arc, behind the line of its chord where its ends differ
abbrev pub arc_half_spaces : V2 → V2 → V2 → List HalfSpace2
arc_half_spaces a b c = if is_same a b then Disc c (square_between c a) ∷ [] else Line a b ∷ Disc c (square_between c a) ∷ []

abbrev pub half_spaces_of : Element → List HalfSpace2
half_spaces_of (Edge a b) = Line a b ∷ []
half_spaces_of (Arc a b c ccw) = arc_half_spaces a b c

-- those of all elements, in order
abbrev pub half_spaces : List Element → List HalfSpace2
half_spaces [] = []
half_spaces (e ∷ es) = half_spaces_of e ++ half_spaces es

-- p is on the boundary of none of them
abbrev pub IsOff : List Element → P2 → Type 0
IsOff es p = All (λ h. IsOn h p → ⊥) (half_spaces es)

-- ---- sides

-- the line from a to b leads to the right, or straight up
abbrev pub leads_forth : V2 → V2 → Bool
leads_forth a b = int_lt a.x b.x || (int_eq a.x b.x && int_lt a.y b.y)

-- of a line that leads so (`true`) its left, of another one its right: by whether a point is left and right of it
abbrev pub above_by : Bool → Bool → Bool → Bool
above_by true left right = left
above_by false left right = right

-- p is Above: strictly left of the line, directed to the right or straight up; or strictly inside the disc
abbrev pub is_above : HalfSpace2 → P2 → Bool
is_above (Line a b) p = above_by (leads_forth a b) (int_lt (pos 0) (turn a b p)) (int_lt (turn a b p) (pos 0))
is_above (Disc c r2) p = int_lt (square_distance c p) (r2 *ℤ (p.w *ℤ p.w))

-- p and q are Above the same half-spaces: their masks are equal
abbrev pub AreAlike : List Element → P2 → P2 → Type 0
AreAlike es p q = All (λ h. is_above h p ≡ is_above h q) (half_spaces es)

-- ---- the same of the lines alone

abbrev pub is_line : HalfSpace2 → Bool
is_line (Line a b) = true
is_line (Disc c r2) = false

abbrev pub IsOffLines : List Element → P2 → Type 0
IsOffLines es p = All (λ h. is_line h ≡ true → IsOn h p → ⊥) (half_spaces es)

abbrev pub AreAlikeByLines : List Element → P2 → P2 → Type 0
AreAlikeByLines es p q = All (λ h. is_line h ≡ true → is_above h p ≡ is_above h q) (half_spaces es)
