-- What contours that are read keep: the range of their coordinates, and edges whose ends differ. That they are closed is
-- said in `Closed`; whether their arcs are round is not said here.
use Rattle.std.specs.Prelude.{◌≡◌, Bool, not, ◌&&◌, ◌||◌, nat_lt, List, [], ◌∷◌, All, ℤ, unsigned_abs}
use Rattle.std.specs.Coded.{Coded-set, coded×, coded_ℤ, ×_prop, Π_prop, Unit-prop}
use base.Stored.{coded_via}
use Rattle.bc_num.specs.declared.coord.TheConstants.{MOST_COORD}
use Rattle.bc_num.specs.declared.v2.V2.{V2}
use Rattle.bc_num.specs.Measures.{is_same}
use Rattle.bc_solid.specs.declared.element.Element.{Element}
use Rattle.bc_solid.specs.declared.element.Element.TheVariants.{Edge, Arc}
use Rattle.bc_solid.specs.Closed.{start_of, end_of, IsWay, IsContour}

-- no coordinate of an input
abbrev pub is_far : ℤ → Bool
is_far v = nat_lt MOST_COORD (unsigned_abs v)

-- one of the two is no coordinate
abbrev pub is_far_point : V2 → Bool
is_far_point p = is_far p.x || is_far p.y

-- places with coordinates of an input, and no edge from a place to itself
abbrev pub is_drawn : Element → Bool
is_drawn (Edge a b) = not (is_far_point a) && (not (is_far_point b) && not (is_same a b))
is_drawn (Arc a b c ccw) = not (is_far_point a) && (not (is_far_point b) && not (is_far_point c))

-- ---- that contours are closed is so in one way at most

pub V2-set : (a b : V2) → IsProp (a ≡ b)
V2-set = Coded-set (coded_via (coded× coded_ℤ coded_ℤ) (λ (p : V2). (p.x, p.y)) (λ a b e i. record { x = (e i).0; y = (e i).1 }))

pub IsWay-prop : (a : V2) (es : List Element) (z : V2) → IsProp (IsWay a es z)
IsWay-prop a [] z = V2-set a z
IsWay-prop a (e ∷ es) z = ×_prop (V2-set (start_of e) a) (IsWay-prop (end_of e) es z)

pub IsContour-prop : (es : List Element) → IsProp (IsContour es)
IsContour-prop [] = Unit-prop
IsContour-prop (e ∷ es) = IsWay-prop (end_of e) es (start_of e)

pub AreContours-prop : (contours : List (List Element)) → IsProp (All IsContour contours)
AreContours-prop contours = Π_prop λ k. Π_prop λ d. Π_prop λ within. IsContour-prop _
