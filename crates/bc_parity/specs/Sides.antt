-- The side of its chord on which an arc lies.
use Rattle.std.specs.Prelude.{Bool, true, false, pos, int_lt}
use Rattle.bc_num.specs.declared.v2.V2.{V2}
use Rattle.bc_num.specs.declared.p2.P2.{P2}
use Rattle.bc_num.specs.Measures.{turn}
use Rattle.bc_parity.specs.Crossings.{Arc}

-- p is strictly left of the directed line from a to b
abbrev pub is_left : V2 → V2 → P2 → Bool
is_left a b p = int_lt (pos 0) (turn a b p)

-- p is strictly right of it
abbrev pub is_right : V2 → V2 → P2 → Bool
is_right a b p = int_lt (turn a b p) (pos 0)

-- of a counter-clockwise arc the right of its directed chord, of a clockwise one the left: by whether p is left and right
abbrev pub side_by : Bool → Bool → Bool → Bool
side_by true left right = right
side_by false left right = left

-- p is on the arc's side of its chord
abbrev pub is_on_arc_side : Arc → P2 → Bool
is_on_arc_side arc p = side_by arc.ccw (is_left arc.start arc.end p) (is_right arc.start arc.end p)
