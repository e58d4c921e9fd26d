-- Where the parity of an arc is not that of its chord.
use Rattle.std.specs.Prelude.{Bool, false, ◌&&◌, ◌||◌, List}
use Rattle.bc_num.specs.declared.p2.P2.{P2}
use Rattle.bc_num.specs.Measures.{is_same}
use Rattle.bc_solid.specs.declared.element.Element.{Element}
use Rattle.bc_solid.specs.declared.element.Element.TheVariants.{Edge, Arc}
use Rattle.bc_parity.specs.Crossings.{is_in_disc}
use Rattle.bc_parity.specs.Sides.{is_on_arc_side}
use Rattle.bc_parity.specs.ChordLaw.{arc_of}
use Rattle.bc_parity.specs.Sums.{odd}

-- p is in the disc of an arc and, if that is no full circle, on the arc's side of its chord
abbrev pub is_flipped : Element → P2 → Bool
is_flipped (Edge a b) p = false
is_flipped (Arc a b c ccw) p = is_in_disc (arc_of a b c ccw) p && (is_same a b || is_on_arc_side (arc_of a b c ccw) p)

-- this holds of an odd number of the elements
abbrev pub is_oddly_flipped : List Element → P2 → Bool
is_oddly_flipped es p = odd (λ e. is_flipped e p) es
