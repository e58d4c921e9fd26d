-- The sign of the greatest number along an axis can be turned, since the least one is below it.
use Rattle.std.proofs.Common.{◌≡◌, ap, ◌∙◌, arith, w64, to_z, of_z, FitsSigned}
use Rattle.std.proofs.lemmas.Int.{ints, to_z-of_z}
use lib.IntN.{ℤ, pos, ◌-ℤ◌, neg_ℤ}
use lib.Signed.{◌<ℤ◌}

turned : (l z : ℤ) → FitsSigned w64 l → FitsSigned w64 z → l <ℤ z → FitsSigned w64 (pos 0 -ℤ z)
turned l z f g h = omega (arith, ints, f, g)

minus : (z : ℤ) → pos 0 -ℤ z ≡ neg_ℤ z
minus z = omega (arith, ints)

pub turned_fits : (l z : ℤ) → FitsSigned w64 l → FitsSigned w64 z → l <ℤ z → FitsSigned w64 (pos 0 -ℤ to_z w64 (of_z w64 z))
turned_fits l z f g h = rw (to_z-of_z w64 z g) (turned l z f g h)

pub turned_is : (l z : ℤ) → FitsSigned w64 l → FitsSigned w64 z → l <ℤ z → to_z w64 (of_z w64 (pos 0 -ℤ to_z w64 (of_z w64 z))) ≡ neg_ℤ z
turned_is l z f g h =
    to_z-of_z w64 (pos 0 -ℤ to_z w64 (of_z w64 z)) (turned_fits l z f g h)
    ∙ ap (λ (v : ℤ). pos 0 -ℤ v) (to_z-of_z w64 z g)
    ∙ minus z
