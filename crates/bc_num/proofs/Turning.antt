-- The primitive vector of a vector, from the vector over its greatest common divisor.
use Rattle.std.proofs.Common.{◌≡◌, ◌≢◌, zero, suc, ◌⊎◌, inl, inr, ℕ, ◌<◌, [], ◌∷◌, arith, refl, sym, ap, ◌∙◌, subst}
use Rattle.std.proofs.lemmas.Int.{ints}
use lib.IntN.{ℤ, pos, negsuc, ◌*ℤ◌, neg_ℤ, nat_abs, *ℤ_comm, *ℤ-zero}
use lib.Signed.{◌<ℤ◌}
use Rattle.bc_algebra.proofs.Ring.{ring, quotes, by_one}
use Rattle.bc_algebra.specs.Within.{IsWithin}
use Rattle.bc_num.specs.declared.v2.V2.{V2}
use Rattle.bc_num.specs.Divides.{IsGcdOf}
use Rattle.bc_num.specs.Directions.{IsZero2, IsPrimitive2, IsLeading2, IsOverGcd2, IsPrimitiveOf2, opposite2}
use Rattle.bc_num.proofs.Dividing.{Divides_of-neg, coprime2, factor_no_larger, zero_of-Divides}

-- what is above 0 is not 0
pub not_zero : (g : ℤ) → pos 0 <ℤ g → g ≢ pos 0
not_zero g h e = absurd (omega (arith, ints))

-- a negation is 0 only where the number is
pub not_zero-neg : (g : ℤ) → pos 0 <ℤ g → neg_ℤ g ≢ pos 0
not_zero-neg g h e = absurd (omega (arith, ints))

-- over its greatest common divisor a vector is primitive
pub IsPrimitive2_of-over : (v u : V2) → IsOverGcd2 v u → IsPrimitive2 u
IsPrimitive2_of-over v u h = record {
  coprime = coprime2 v.x v.y h.divisor u.x u.y h.positive h.greatest (*ℤ_comm u.x h.divisor ∙ sym h.along_x) (*ℤ_comm u.y h.divisor ∙ sym h.along_y);
}

-- so is its opposite
IsPrimitive2-opposite : (u : V2) → IsPrimitive2 u → IsPrimitive2 (opposite2 u)
IsPrimitive2-opposite u h = record {
  coprime = λ d dx dy. h.coprime d (Divides_of-neg (pos d) u.x dx) (Divides_of-neg (pos d) u.y dy);
}

-- a product of two negations is the product
pub signs-cancel : (v g x : ℤ) → v ≡ g *ℤ x → v ≡ neg_ℤ g *ℤ neg_ℤ x
signs-cancel v g x e = by_one (pos 1) e (ring (v ∷ g ∷ x ∷ []) (search quotes depth 30) refl)

-- the vector over its greatest common divisor is the primitive one, where its first component that is not 0 is above 0
same : (v u : V2) → IsOverGcd2 v u → IsLeading2 u → IsPrimitiveOf2 v u
same v u h l = record {
  primitive = IsPrimitive2_of-over v u h;
  leading = l;
  times = h.divisor;
  some = not_zero h.divisor h.positive;
  along_x = h.along_x;
  along_y = h.along_y;
}

-- and its opposite is, where that holds of the opposite
turned : (v u : V2) → IsOverGcd2 v u → IsLeading2 (opposite2 u) → IsPrimitiveOf2 v (opposite2 u)
turned v u h l = record {
  primitive = IsPrimitive2-opposite u (IsPrimitive2_of-over v u h);
  leading = l;
  times = neg_ℤ h.divisor;
  some = not_zero-neg h.divisor h.positive;
  along_x = signs-cancel v.x h.divisor u.x h.along_x;
  along_y = signs-cancel v.y h.divisor u.y h.along_y;
}

-- the one of the two whose first component that is not 0 is above 0 is the primitive vector
pub IsPrimitiveOf2_of-over : (v u r : V2) → IsOverGcd2 v u → IsLeading2 r → (r ≡ u) ⊎ (r ≡ opposite2 u) → IsPrimitiveOf2 v r
IsPrimitiveOf2_of-over v u r h l (inl e) = subst (IsPrimitiveOf2 v) (sym e) (same v u h (subst IsLeading2 e l))
IsPrimitiveOf2_of-over v u r h l (inr e) = subst (IsPrimitiveOf2 v) (sym e) (turned v u h (subst IsLeading2 e l))

-- the greatest common divisor of a vector that is not zero is above 0
pub divisor_pos : (v : V2) (g : ℤ) → IsGcdOf v.x v.y g → ¬ IsZero2 v → pos 0 <ℤ g
divisor_pos v (pos zero) h n =
    absurd (n (record { along_x = zero_of-Divides v.x h.left; along_y = zero_of-Divides v.y h.right }))
divisor_pos v (pos (suc k)) h n = omega (arith, ints)
divisor_pos v (negsuc k) h n = absurd (let s = h.sign in omega (arith, ints))

-- and what is left over it is not zero
pub left_over : (v u : V2) → IsOverGcd2 v u → ¬ IsZero2 v → ¬ IsZero2 u
left_over v u h n z =
    n (record { along_x = h.along_x ∙ ap (λ x. h.divisor *ℤ x) z.along_x ∙ *ℤ-zero h.divisor; along_y = h.along_y ∙ ap (λ y. h.divisor *ℤ y) z.along_y ∙ *ℤ-zero h.divisor })

-- a component of a primitive vector is within each bound of that component of a vector along it
pub primitive_within : (n : ℕ) (v t x : ℤ) → t ≢ pos 0 → v ≡ t *ℤ x → IsWithin n v → IsWithin n x
primitive_within n v t x some e near =
    let size : 0 < nat_abs t = omega (arith, ints) in
    let least = factor_no_larger x t v size (*ℤ_comm x t ∙ sym e) in
    let most = near.within in
    record { within = omega arith }
