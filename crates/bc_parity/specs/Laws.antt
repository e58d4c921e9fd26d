-- The laws of the parity of closed contours, for points with numbers of any size.
use Rattle.std.specs.Prelude.{◌≡◌, false, List, All, ◌<ℤ◌}
use Rattle.bc_num.specs.declared.p2.P2.{P2}
use Rattle.bc_num.specs.declared.box2.Box2.{Box2}
use Rattle.bc_num.specs.Measures.{square_distance}
use Rattle.bc_solid.specs.declared.element.Element.{Element}
use Rattle.bc_solid.specs.declared.element.Element.TheVariants.{Edge, Arc}
use Rattle.bc_solid.specs.HalfSpaces.{IsOff, AreAlike, IsOffLines, AreAlikeByLines}
use Rattle.bc_solid.specs.Boxes.{IsBoxOf, IsOutside}
use Rattle.bc_parity.specs.Parity.{xor}
use Rattle.bc_parity.specs.Crossings.{square_radius}
use Rattle.bc_parity.specs.ChordLaw.{arc_of}
use Rattle.bc_parity.specs.Odd.{is_odd_at}
use Rattle.bc_parity.specs.StraightOdd.{is_straight_odd_at}
use Rattle.bc_parity.specs.Flips.{is_oddly_flipped}

-- points on none of the lines, and Above the same of them, have the same straight parity
abbrev pub StraightCellLaw : List Element → Type 0
StraightCellLaw es = (p q : P2) → IsOffLines es p → IsOffLines es q → AreAlikeByLines es p q → is_straight_odd_at es p ≡ is_straight_odd_at es q

-- points on no boundary, with equal masks, have the same parity
abbrev pub CellLaw : List Element → Type 0
CellLaw es = (p q : P2) → IsOff es p → IsOff es q → AreAlike es p q → is_odd_at es p ≡ is_odd_at es q

-- the parity of a point on no boundary is the straight one, flipped once for each arc in whose disc and on whose side of
-- the chord the point is, and once for each full circle in whose disc it is
abbrev pub FlipLaw : List Element → Type 0
FlipLaw es = (p : P2) → IsOff es p → is_odd_at es p ≡ xor (is_straight_odd_at es p) (is_oddly_flipped es p)

-- p is strictly outside the disc of an arc
abbrev pub IsAway : P2 → Element → Type 0
IsAway p (Edge a b) = Unit {0}
IsAway p (Arc a b c ccw) = square_radius (arc_of a b c ccw) p <ℤ square_distance c p

-- strictly outside all discs the parity is the straight one, also on the lines
abbrev pub AwayLaw : List Element → Type 0
AwayLaw es = (p : P2) → All (IsAway p) es → is_odd_at es p ≡ is_straight_odd_at es p

-- outside the closed box nothing is odd, also on the lines
abbrev pub OutsideLaw : List Element → Type 0
OutsideLaw es = (b : Box2) (p : P2) → IsBoxOf es b → IsOutside b p → is_odd_at es p ≡ false
