-- The table of cases, over tests alone: which half each end stands in, how x goes from s to e, and whether the column has passed them.
use Rattle.std.proofs.Common.{◌≡◌, ◌+◌, Bool, true, false, not, ◌&&◌, refl}
use Rattle.bc_parity.specs.Parity.{xor, count, is_odd}
use Rattle.bc_parity.specs.Crossings.{Half, upper, lower, comes_first, upper_first, lower_first, lies_on}
use Rattle.bc_solid.specs.HalfSpaces.{above_by}

abbrev pub is_upper : Half → Bool
is_upper upper = true
is_upper lower = false

-- the column's lower point is on the arc from s to e where the chord is crossed, flipped where p is right of the chord
abbrev pub Claim : Half → Half → Bool → Bool → Bool → Bool → Bool → Bool → Bool → Bool → Type 0
Claim hs he falls rises to_s to_e past_s past_e left right =
    lies_on false (comes_first hs he falls rises) (lower_first hs to_s) (lower_first he to_e) ≡ xor (xor past_s past_e && above_by rises left right) right

-- the claim at tests that give these answers
pub at : (hs he hs' he' : Half) {f r ts te ps pe l g f' r' ts' te' ps' pe' l' g' : Bool} → hs ≡ hs' → he ≡ he' → f ≡ f' → r ≡ r' → ts ≡ ts' → te ≡ te' → ps ≡ ps' → pe ≡ pe' → l ≡ l' → g ≡ g' → Claim hs' he' f' r' ts' te' ps' pe' l' g' → Claim hs he f r ts te ps pe l g
at hs he hs' he' i j a b c d e f g h row = rw (i, j, a, b, c, d, e, f, g, h) row

pub s_e_p : (hs he : Half) → Claim hs he false true false false true true (not (is_upper he)) (is_upper he)
s_e_p upper upper = refl
s_e_p upper lower = refl
s_e_p lower upper = refl
s_e_p lower lower = refl

pub e_s_p : (hs he : Half) → Claim hs he true false false false true true (is_upper hs) (not (is_upper hs))
e_s_p upper upper = refl
e_s_p upper lower = refl
e_s_p lower upper = refl
e_s_p lower lower = refl

pub p_s_e : (hs he : Half) → Claim hs he false true true true false false (not (is_upper hs)) (is_upper hs)
p_s_e upper upper = refl
p_s_e upper lower = refl
p_s_e lower upper = refl
p_s_e lower lower = refl

pub p_e_s : (hs he : Half) → Claim hs he true false true true false false (is_upper he) (not (is_upper he))
p_e_s upper upper = refl
p_e_s upper lower = refl
p_e_s lower upper = refl
p_e_s lower lower = refl

-- p between the ends' columns: whichever side it is on
pub s_p_e : (hs he : Half) (right : Bool) → Claim hs he false true false true true false (not right) right
s_p_e upper upper true = refl
s_p_e upper upper false = refl
s_p_e upper lower true = refl
s_p_e upper lower false = refl
s_p_e lower upper true = refl
s_p_e lower upper false = refl
s_p_e lower lower true = refl
s_p_e lower lower false = refl

pub e_p_s : (hs he : Half) (right : Bool) → Claim hs he true false true false false true (not right) right
e_p_s upper upper true = refl
e_p_s upper upper false = refl
e_p_s upper lower true = refl
e_p_s upper lower false = refl
e_p_s lower upper true = refl
e_p_s lower upper false = refl
e_p_s lower lower true = refl
e_p_s lower lower false = refl

-- both ends in one column
pub under_p : Claim upper lower false false false false true true true false
under_p = refl

pub over_p : Claim lower upper false false false false true true false true
over_p = refl

pub p_under : Claim upper lower false false true true false false false true
p_under = refl

pub p_over : Claim lower upper false false true true false false true false
p_over = refl

-- ---- outside: how often the column meets the arc, modulo 2

abbrev pub meetings : Half → Half → Bool → Bool → Bool → Bool
meetings hs he order to_s to_e =
    xor (lies_on false order (upper_first hs to_s) (upper_first he to_e)) (lies_on false order (lower_first hs to_s) (lower_first he to_e))

pub evenly : (hs he : Half) (order to : Bool) → meetings hs he order to to ≡ false
evenly upper upper true true = refl
evenly upper upper true false = refl
evenly upper upper false true = refl
evenly upper upper false false = refl
evenly upper lower true true = refl
evenly upper lower true false = refl
evenly upper lower false true = refl
evenly upper lower false false = refl
evenly lower upper true true = refl
evenly lower upper true false = refl
evenly lower upper false true = refl
evenly lower upper false false = refl
evenly lower lower true true = refl
evenly lower lower true false = refl
evenly lower lower false true = refl
evenly lower lower false false = refl

pub once_rising : (hs he : Half) → meetings hs he (comes_first hs he false true) false true ≡ true
once_rising upper upper = refl
once_rising upper lower = refl
once_rising lower upper = refl
once_rising lower lower = refl

pub once_falling : (hs he : Half) → meetings hs he (comes_first hs he true false) true false ≡ true
once_falling upper upper = refl
once_falling upper lower = refl
once_falling lower upper = refl
once_falling lower lower = refl

-- ---- the count

pub counted_inside : (meets on_upper on_lower over_upper over_lower : Bool) → meets ≡ true → over_upper ≡ false → over_lower ≡ true → is_odd (count (meets && (on_upper && over_upper)) + count (meets && (on_lower && over_lower))) ≡ on_lower
counted_inside meets on_upper on_lower over_upper over_lower a b c = rw (a, b, c) (table on_upper on_lower)
  where
    table : (on_upper on_lower : Bool) → is_odd (count (true && (on_upper && false)) + count (true && (on_lower && true))) ≡ on_lower
    table true true = refl
    table true false = refl
    table false true = refl
    table false false = refl

pub counted_outside : (meets on_upper on_lower over_upper over_lower : Bool) → over_lower ≡ over_upper → is_odd (count (meets && (on_upper && over_upper)) + count (meets && (on_lower && over_lower))) ≡ ((meets && over_upper) && xor on_upper on_lower)
counted_outside meets on_upper on_lower over_upper over_lower a = rw a (table meets on_upper on_lower over_upper)
  where
    table : (m u l o : Bool) → is_odd (count (m && (u && o)) + count (m && (l && o))) ≡ ((m && o) && xor u l)
    table false u l o = refl
    table true true true true = refl
    table true true false true = refl
    table true false true true = refl
    table true false false true = refl
    table true true true false = refl
    table true true false false = refl
    table true false true false = refl
    table true false false false = refl
