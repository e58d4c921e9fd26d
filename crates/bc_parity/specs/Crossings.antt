-- How the downward ray from a point, moved an infinitesimal step to the right, crosses segments and arcs. (This
-- project's own; comparisons of rational coordinates are made after multiplying by the denominators.)
use Rattle.std.specs.Prelude.{ℕ, ◌+◌, Bool, true, false, cond, not, ◌&&◌, ◌||◌, ℤ, pos, ◌-ℤ◌, ◌*ℤ◌, int_lt, int_le}
use Rattle.std.specs.Ordering.{int_eq}
use Rattle.bc_num.specs.declared.v2.V2.{V2}
use Rattle.bc_num.specs.declared.p2.P2.{P2}
use Rattle.bc_num.specs.Measures.{across, square_distance, square_between, turn, is_same}
use Rattle.bc_parity.specs.Parity.{xor, count}

-- ---- segments

-- `t.x <= p.x`
abbrev pub has_passed : V2 → P2 → Bool
has_passed t p = int_le (t.x *ℤ p.w) p.x

-- `p.x < t.x`
abbrev pub is_before : P2 → V2 → Bool
is_before p t = int_lt p.x (t.x *ℤ p.w)

-- p is strictly above the line through a and b: its height over the line, times p.w and the square of b.x - a.x, is
-- above 0
abbrev pub is_above_line : V2 → V2 → P2 → Bool
is_above_line a b p = int_lt (pos 0) ((b.x -ℤ a.x) *ℤ turn a b p)

-- the ray crosses the segment: exactly one of `a.x <= p.x` and `b.x <= p.x` is true, and p is strictly above the line
abbrev pub is_crossed : V2 → V2 → P2 → Bool
is_crossed a b p = xor (has_passed a p) (has_passed b p) && is_above_line a b p

-- ---- circles

-- part of a circle from its start to its end, counter-clockwise or clockwise; the whole circle where the two are the same
pub record Arc : Type 0 where
  pub start : V2
  pub end : V2
  pub centre : V2
  pub ccw : Bool

-- the circle's squared radius, times p.w squared
abbrev pub square_radius : Arc → P2 → ℤ
square_radius arc p = square_between arc.centre arc.start *ℤ (p.w *ℤ p.w)

-- p is strictly inside the disc
abbrev pub is_in_disc : Arc → P2 → Bool
is_in_disc arc p = int_lt (square_distance arc.centre p) (square_radius arc p)

-- p is strictly outside the disc
abbrev pub is_past_disc : Arc → P2 → Bool
is_past_disc arc p = int_lt (square_radius arc p) (square_distance arc.centre p)

-- the moved column meets the circle, in an upper and a lower point: with R the squared radius, `(p.x - c.x)^2 < R`, or
-- `(p.x - c.x)^2 = R` and `p.x < c.x`
abbrev pub meets_circle : Arc → P2 → Bool
meets_circle arc p =
    int_lt (across arc.centre p *ℤ across arc.centre p) (square_radius arc p)
    || (int_eq (across arc.centre p *ℤ across arc.centre p) (square_radius arc p) && is_before p arc.centre)

-- p is above the upper point of its column: strictly outside the disc, and `p.y > c.y`
abbrev pub is_above_upper : Arc → P2 → Bool
is_above_upper arc p = is_past_disc arc p && int_lt (arc.centre.y *ℤ p.w) p.y

-- p is above the lower point of its column: strictly inside the disc, or above the upper point
abbrev pub is_above_lower : Arc → P2 → Bool
is_above_lower arc p = is_in_disc arc p || is_above_upper arc p

-- ---- the order along the circle, counter-clockwise from the right extreme: first the upper half, the points with
-- `y >= c.y`, by falling x, then the lower half by rising x

pub data Half : Type 0 where
  upper : Half
  lower : Half

-- the half by whether `y >= c.y`
abbrev pub half_by : Bool → Half
half_by true = upper
half_by false = lower

abbrev pub half_of : Arc → V2 → Half
half_of arc t = half_by (int_le arc.centre.y t.y)

-- s comes before e: by their halves, and whether x falls and rises from s to e
abbrev pub comes_first : Half → Half → Bool → Bool → Bool
comes_first upper upper falls rises = falls
comes_first upper lower falls rises = true
comes_first lower upper falls rises = false
comes_first lower lower falls rises = rises

abbrev pub is_first : Arc → V2 → V2 → Bool
is_first arc s e = comes_first (half_of arc s) (half_of arc e) (int_lt e.x s.x) (int_lt s.x e.x)

-- the column's upper point comes before t: by t's half, and whether `p.x < t.x`
abbrev pub upper_first : Half → Bool → Bool
upper_first lower before = true
upper_first upper true = false
upper_first upper false = true

-- the column's lower point comes before t: by t's half, and whether `p.x < t.x`
abbrev pub lower_first : Half → Bool → Bool
lower_first upper before = false
lower_first lower true = true
lower_first lower false = false

-- ---- arcs

-- the start s and the end e, exchanged for a clockwise arc
abbrev pub first_end : Arc → V2
first_end arc = cond arc.ccw arc.start arc.end

abbrev pub last_end : Arc → V2
last_end arc = cond arc.ccw arc.end arc.start

-- a point q of the circle is on the arc from s to e: by whether `s = e`, whether s comes before e, and whether q comes
-- before s and before e
abbrev pub lies_on : Bool → Bool → Bool → Bool → Bool
lies_on true order to_s to_e = true
lies_on false true to_s to_e = not to_s && to_e
lies_on false false to_s to_e = not to_s || to_e

-- the column's upper point is on the arc from s to e
abbrev pub has_upper : Arc → V2 → V2 → P2 → Bool
has_upper arc s e p = lies_on (is_same s e) (is_first arc s e) (upper_first (half_of arc s) (is_before p s)) (upper_first (half_of arc e) (is_before p e))

-- the column's lower point is on the arc from s to e
abbrev pub has_lower : Arc → V2 → V2 → P2 → Bool
has_lower arc s e p = lies_on (is_same s e) (is_first arc s e) (lower_first (half_of arc s) (is_before p s)) (lower_first (half_of arc e) (is_before p e))

-- how often the ray crosses the arc: at the column's points that are on the arc and that p is above
abbrev pub crossings_of_arc : Arc → P2 → ℕ
crossings_of_arc arc p =
    count (meets_circle arc p && (has_upper arc (first_end arc) (last_end arc) p && is_above_upper arc p))
    + count (meets_circle arc p && (has_lower arc (first_end arc) (last_end arc) p && is_above_lower arc p))
