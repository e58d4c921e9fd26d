-- How often the downward ray crosses elements, with each arc replaced by its chord and each full circle by nothing.
use Rattle.std.specs.Prelude.{ℕ, ◌+◌, Bool, not, ◌&&◌, List, [], ◌∷◌}
use Rattle.bc_num.specs.declared.p2.P2.{P2}
use Rattle.bc_num.specs.Measures.{is_same}
use Rattle.bc_solid.specs.declared.element.Element.{Element}
use Rattle.bc_solid.specs.declared.element.Element.TheVariants.{Edge, Arc}
use Rattle.bc_parity.specs.Parity.{is_odd, count}
use Rattle.bc_parity.specs.Crossings.{is_crossed}

abbrev pub straight_crossings_of : Element → P2 → ℕ
straight_crossings_of (Edge a b) p = count (is_crossed a b p)
straight_crossings_of (Arc a b c ccw) p = count (not (is_same a b) && is_crossed a b p)

abbrev pub straight_crossings_in : List Element → P2 → ℕ
straight_crossings_in [] p = 0
straight_crossings_in (e ∷ es) p = straight_crossings_of e p + straight_crossings_in es p

abbrev pub is_straight_odd_at : List Element → P2 → Bool
is_straight_odd_at es p = is_odd (straight_crossings_in es p)
