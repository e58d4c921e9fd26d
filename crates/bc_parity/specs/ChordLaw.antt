-- The chord law: how the crossings of an arc go with those of its chord.
use Rattle.std.specs.Prelude.{◌≡◌, ◌≢◌, Bool, ◌&&◌, pos, ◌<ℤ◌}
use Rattle.bc_num.specs.declared.v2.V2.{V2}
use Rattle.bc_num.specs.declared.p2.P2.{P2}
use Rattle.bc_num.specs.Measures.{turn, square_distance}
use Rattle.bc_parity.specs.Parity.{xor, is_odd}
use Rattle.bc_parity.specs.Crossings.{Arc, is_crossed, crossings_of_arc, square_radius, is_in_disc}
use Rattle.bc_parity.specs.Sides.{is_on_arc_side}

-- from a to b round c
abbrev pub arc_of : V2 → V2 → V2 → Bool → Arc
arc_of a b c ccw = record { start = a; end = b; centre = c; ccw = ccw }

-- p is on the arc's circle
abbrev pub IsOnCircle : Arc → P2 → Type 0
IsOnCircle arc p = square_distance arc.centre p ≡ square_radius arc p

-- for points of any size
pub record ChordLaw (arc : Arc) : Type 0 where
  -- from a point on neither the circle nor the chord's line the arc's crossings are odd as the chord's are, flipped where
  -- the point is in the disc and on the arc's side of the chord
  pub chord : (p : P2) → (IsOnCircle arc p → ⊥) → turn arc.start arc.end p ≢ pos 0 → is_odd (crossings_of_arc arc p) ≡ xor (is_crossed arc.start arc.end p) (is_in_disc arc p && is_on_arc_side arc p)
  -- those of a full circle are odd where the point is in the disc
  pub circle : arc.start ≡ arc.end → (p : P2) → (IsOnCircle arc p → ⊥) → is_odd (crossings_of_arc arc p) ≡ is_in_disc arc p
  -- strictly outside the disc the arc's are odd as the chord's are, also on the chord's line
  pub past : (p : P2) → square_radius arc p <ℤ square_distance arc.centre p → is_odd (crossings_of_arc arc p) ≡ is_crossed arc.start arc.end p
