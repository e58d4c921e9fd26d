-- Uses of the size facts, at the forms that overflow goals and clauses of signed functions have: each value is converted to
-- bits and back on its way.
use Rattle.std.proofs.Common.{◌≡◌, ◌^◌, [], ◌∷◌, refl}
use lib.IntN.{ℤ, pos, ◌+ℤ◌, ◌-ℤ◌, ◌*ℤ◌}
use lib.Signed.{◌≤ℤ◌, ◌<ℤ◌}
use mir.Syntax.{w64, w128}
use mir.Val.{SFits, to_z, of_z}
use Rattle.bc_algebra.specs.Within.{IsWithin}
use Rattle.bc_algebra.proofs.Ring.{ring, quotes}
use Rattle.bc_algebra.proofs.Sizes.{smalls, small_within, fits, fits_from, plainly, within, tidy, tidy_lt, tidy_le}

-- a 64-bit number, read back
abbrev at64 : ℤ → ℤ
at64 z = to_z w64 (of_z w64 z)

-- a 128-bit number, read back
abbrev at128 : ℤ → ℤ
at128 z = to_z w128 (of_z w128 z)

-- ---- a term fits its type
-- the value of a line at a small point, in 128 bits
line-fits : (a b d x y w : ℤ) → IsWithin 2046 a → IsWithin 2046 b → IsWithin (2 ^ 22) d → IsWithin (2 ^ 60) x → IsWithin (2 ^ 60) y → IsWithin (2 ^ 40) w →
    SFits w128 (at128 (at128 (at128 (at64 a) *ℤ at128 x) +ℤ at128 (at128 (at64 b) *ℤ at128 y)) -ℤ at128 (at128 (at64 d) *ℤ at128 w))
line-fits a b d x y w ha hb hd hx hy hw = fits (search (smalls, ha, hb, hd, hx, hy, hw) depth 30) refl

-- a cast back to 64 bits
cast-fits : (a b : ℤ) → IsWithin (2 ^ 30) a → IsWithin (2 ^ 30) b → SFits w64 (at128 (at128 (at64 a) *ℤ at128 (at64 b)))
cast-fits a b ha hb = fits (search (smalls, ha, hb) depth 30) refl

-- a product that is known to be smaller than its factors say
product-fits : (a b : ℤ) → IsWithin (2 ^ 100) a → IsWithin (2 ^ 100) b → IsWithin (2 ^ 120) (a *ℤ b) → SFits w128 (at128 a *ℤ at128 b)
product-fits a b ha hb h =
    fits_from (search (smalls, ha, hb) depth 30) refl (fits (small_within _ _ h) refl)

-- ---- a bound
-- the determinant of two normals
determinant-within : (a b a' b' : ℤ) → IsWithin 2046 a → IsWithin 2046 b → IsWithin 2046 a' → IsWithin 2046 b' → IsWithin (2 ^ 23) (at64 (at64 a *ℤ at64 b') -ℤ at64 (at64 a' *ℤ at64 b))
determinant-within a b a' b' ha hb ha' hb' = within (search (smalls, ha, hb, ha', hb') depth 30) refl

-- ---- a value
-- the same expression without the conversions
difference-is : (a b : ℤ) → IsWithin 1023 a → IsWithin 1023 b → at64 (at64 a -ℤ at64 b) ≡ a -ℤ b
difference-is a b ha hb = plainly (search (smalls, ha, hb) depth 30) refl

-- another expression of the same value
square-is : (a b : ℤ) → IsWithin 1023 a → IsWithin 1023 b → at64 (at64 (at64 a -ℤ at64 b) *ℤ at64 (at64 a +ℤ at64 b)) ≡ a *ℤ a -ℤ b *ℤ b
square-is a b ha hb =
    tidy (search (smalls, ha, hb) depth 30) refl (ring (a ∷ b ∷ []) (search quotes depth 30) refl)

-- ---- an order
sum-below : (a b : ℤ) → IsWithin 1023 a → IsWithin 1023 b → pos 0 <ℤ (b -ℤ a) → at64 a <ℤ at64 b
sum-below a b ha hb h = tidy_lt (search (smalls, ha, hb) depth 30) refl h

sum-at_most : (a b : ℤ) → IsWithin 1023 a → IsWithin 1023 b → pos 0 ≤ℤ (b -ℤ a) → at64 a ≤ℤ at64 b
sum-at_most a b ha hb h = tidy_le (search (smalls, ha, hb) depth 30) refl h
