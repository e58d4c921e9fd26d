-- Sides by the signs of values: lemmas for the proofs of the laws.
-- A proof, which an `impl` rests on: so it stands in specs/.
use Rattle.std.specs.Prelude.{◌≡◌, ◌≢◌, zero, suc, ℤ, pos, negsuc, ◌*ℤ◌, ◌≤ℤ◌, ◌<ℤ◌, refl}
use Rattle.std.proofs.Common.{ap, arith}
use Rattle.std.proofs.lemmas.Int.{ints}
use Rattle.bc_algebra.proofs.Order.{nonneg-mul}
use Rattle.bc_space.specs.declared.side.Side.TheVariants.{Below, On, Above}
use Rattle.bc_space.specs.Sides.{side_of_value}

pub not_below_value : (z : ℤ) → side_of_value z ≢ Below → pos 0 ≤ℤ z
not_below_value (pos n) h = omega (arith, ints)
not_below_value (negsuc n) h = absurd (h refl)

pub not_above_value : (z : ℤ) → side_of_value z ≢ Above → pos 0 ≤ℤ (negsuc 0 *ℤ z)
not_above_value (pos zero) h = omega (arith, ints)
not_above_value (pos (suc n)) h = absurd (h refl)
not_above_value (negsuc n) h = omega (arith, ints)

pub above_value : (z : ℤ) → side_of_value z ≡ Above → pos 0 <ℤ z
above_value (pos zero) h = cc
above_value (pos (suc n)) h = omega (arith, ints)
above_value (negsuc n) h = cc

pub below_value : (z : ℤ) → side_of_value z ≡ Below → pos 0 <ℤ (negsuc 0 *ℤ z)
below_value (pos zero) h = cc
below_value (pos (suc n)) h = cc
below_value (negsuc n) h = omega (arith, ints)

pub on_value : (z : ℤ) → side_of_value z ≡ On → z ≡ pos 0
on_value (pos zero) h = refl
on_value (pos (suc n)) h = cc
on_value (negsuc n) h = cc

pub zero_value : (z : ℤ) → z ≡ pos 0 → side_of_value z ≡ On
zero_value z e = ap side_of_value e

pub value_not_below : (z : ℤ) → pos 0 ≤ℤ (pos 1 *ℤ z) → side_of_value z ≢ Below
value_not_below (pos zero) h = λ e. cc
value_not_below (pos (suc n)) h = λ e. cc
value_not_below (negsuc n) h = absurd (omega (arith, ints, h))

pub value_not_above : (z : ℤ) → pos 0 ≤ℤ (negsuc 0 *ℤ z) → side_of_value z ≢ Above
value_not_above (pos zero) h = λ e. cc
value_not_above (pos (suc n)) h = absurd (omega (arith, ints, h))
value_not_above (negsuc n) h = λ e. cc

pub value_above : (z : ℤ) → pos 0 <ℤ (pos 1 *ℤ z) → side_of_value z ≡ Above
value_above (pos zero) h = absurd (omega (arith, ints, h))
value_above (pos (suc n)) h = refl
value_above (negsuc n) h = absurd (omega (arith, ints, h))

pub value_below : (z : ℤ) → pos 0 <ℤ (negsuc 0 *ℤ z) → side_of_value z ≡ Below
value_below (pos zero) h = absurd (omega (arith, ints, h))
value_below (pos (suc n)) h = absurd (omega (arith, ints, h))
value_below (negsuc n) h = refl

pub off_zero : (z : ℤ) → side_of_value z ≢ On → z ≢ pos 0
off_zero (pos zero) h = λ e. h refl
off_zero (pos (suc n)) h = λ e. cc
off_zero (negsuc n) h = λ e. cc

-- not strictly on the other side: the product of the values is not negative
pub agree : (v z : ℤ) → side_of_value v ≢ On → (side_of_value v ≡ Above → side_of_value z ≢ Below) → (side_of_value v ≡ Below → side_of_value z ≢ Above) → pos 0 ≤ℤ (v *ℤ z)
agree (pos zero) z off above below = absurd (off refl)
agree (pos (suc n)) z off above below = nonneg-mul (pos (suc n)) z (omega (arith, ints)) (not_below_value z (above refl))
agree (negsuc n) (pos zero) off above below = omega (arith, ints)
agree (negsuc n) (pos (suc k)) off above below = absurd (below refl refl)
agree (negsuc n) (negsuc k) off above below = omega (arith, ints)

pub agrees_above : (v z : ℤ) → pos 0 ≤ℤ (v *ℤ z) → side_of_value v ≡ Above → side_of_value z ≢ Below
agrees_above v (pos zero) h e = λ d. cc
agrees_above v (pos (suc k)) h e = λ d. cc
agrees_above (pos zero) (negsuc k) h e = cc
agrees_above (negsuc n) (negsuc k) h e = cc
agrees_above (pos (suc n)) (negsuc k) h e = absurd (omega (arith, ints, h))

pub agrees_below : (v z : ℤ) → pos 0 ≤ℤ (v *ℤ z) → side_of_value v ≡ Below → side_of_value z ≢ Above
agrees_below v (pos zero) h e = λ d. cc
agrees_below v (negsuc k) h e = λ d. cc
agrees_below (pos zero) (pos (suc k)) h e = cc
agrees_below (pos (suc n)) (pos (suc k)) h e = cc
agrees_below (negsuc n) (pos (suc k)) h e = absurd (omega (arith, ints, h))
