-- How often the downward ray crosses the elements of contours, and whether that is an odd number.
use Rattle.std.specs.Prelude.{ℕ, ◌+◌, Bool, IsTrue, List, [], ◌∷◌}
use Rattle.bc_num.specs.declared.p2.P2.{P2}
use Rattle.bc_solid.specs.declared.element.Element.{Element}
use Rattle.bc_solid.specs.declared.element.Element.TheVariants.{Edge, Arc}
use Rattle.bc_parity.specs.Parity.{is_odd, count}
use Rattle.bc_parity.specs.Crossings.{is_crossed, crossings_of_arc}

abbrev pub crossings_of : Element → P2 → ℕ
crossings_of (Edge a b) p = count (is_crossed a b p)
crossings_of (Arc a b c ccw) p = crossings_of_arc (record { start = a; end = b; centre = c; ccw = ccw }) p

-- those of all elements
abbrev pub crossings_in : List Element → P2 → ℕ
crossings_in [] p = 0
crossings_in (e ∷ es) p = crossings_of e p + crossings_in es p

abbrev pub is_odd_at : List Element → P2 → Bool
is_odd_at es p = is_odd (crossings_in es p)

-- the ray from p crosses the elements an odd number of times
abbrev pub Odd : List Element → P2 → Type 0
Odd es p = IsTrue (is_odd_at es p)
