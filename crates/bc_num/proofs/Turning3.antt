-- The primitive vector of a vector of space, from the vector over its greatest common divisor.
use Rattle.std.proofs.Common.{◌≡◌, zero, suc, ◌⊎◌, inl, inr, arith, sym, ap, ◌∙◌, subst}
use Rattle.std.proofs.lemmas.Int.{ints}
use lib.IntN.{ℤ, pos, negsuc, ◌*ℤ◌, neg_ℤ, *ℤ_comm, *ℤ-zero}
use lib.Signed.{◌<ℤ◌}
use Rattle.bc_num.specs.declared.v3.V3.{V3}
use Rattle.bc_num.specs.Divides.{IsGcdOf3}
use Rattle.bc_num.specs.Directions3.{IsZero3, IsPrimitive3, IsLeading3, IsOverGcd3, IsPrimitiveOf3, opposite3}
use Rattle.bc_num.proofs.Turning.{not_zero, not_zero-neg, signs-cancel}
use Rattle.bc_num.proofs.Dividing.{Divides_of-neg, coprime3, zero_of-Divides}

-- over its greatest common divisor a vector is primitive
pub IsPrimitive3_of-over : (v u : V3) → IsOverGcd3 v u → IsPrimitive3 u
IsPrimitive3_of-over v u h = record {
  coprime = coprime3 v.x v.y v.z h.divisor u.x u.y u.z h.positive h.greatest (*ℤ_comm u.x h.divisor ∙ sym h.along_x) (*ℤ_comm u.y h.divisor ∙ sym h.along_y) (*ℤ_comm u.z h.divisor ∙ sym h.along_z);
}

-- so is its opposite
IsPrimitive3-opposite : (u : V3) → IsPrimitive3 u → IsPrimitive3 (opposite3 u)
IsPrimitive3-opposite u h = record {
  coprime = λ d dx dy dz. h.coprime d (Divides_of-neg (pos d) u.x dx) (Divides_of-neg (pos d) u.y dy) (Divides_of-neg (pos d) u.z dz);
}

-- the vector over its greatest common divisor is the primitive one, where its first component that is not 0 is above 0
same : (v u : V3) → IsOverGcd3 v u → IsLeading3 u → IsPrimitiveOf3 v u
same v u h l = record {
  primitive = IsPrimitive3_of-over v u h;
  leading = l;
  times = h.divisor;
  some = not_zero h.divisor h.positive;
  along_x = h.along_x;
  along_y = h.along_y;
  along_z = h.along_z;
}

-- and its opposite is, where that holds of the opposite
turned : (v u : V3) → IsOverGcd3 v u → IsLeading3 (opposite3 u) → IsPrimitiveOf3 v (opposite3 u)
turned v u h l = record {
  primitive = IsPrimitive3-opposite u (IsPrimitive3_of-over v u h);
  leading = l;
  times = neg_ℤ h.divisor;
  some = not_zero-neg h.divisor h.positive;
  along_x = signs-cancel v.x h.divisor u.x h.along_x;
  along_y = signs-cancel v.y h.divisor u.y h.along_y;
  along_z = signs-cancel v.z h.divisor u.z h.along_z;
}

-- the one of the two whose first component that is not 0 is above 0 is the primitive vector
pub IsPrimitiveOf3_of-over : (v u r : V3) → IsOverGcd3 v u → IsLeading3 r → (r ≡ u) ⊎ (r ≡ opposite3 u) → IsPrimitiveOf3 v r
IsPrimitiveOf3_of-over v u r h l (inl e) = subst (IsPrimitiveOf3 v) (sym e) (same v u h (subst IsLeading3 e l))
IsPrimitiveOf3_of-over v u r h l (inr e) = subst (IsPrimitiveOf3 v) (sym e) (turned v u h (subst IsLeading3 e l))

-- the greatest common divisor of a vector that is not zero is above 0
pub divisor_pos : (v : V3) (g : ℤ) → IsGcdOf3 v.x v.y v.z g → ¬ IsZero3 v → pos 0 <ℤ g
divisor_pos v (pos zero) h n =
    absurd (n (record { along_x = zero_of-Divides v.x h.first; along_y = zero_of-Divides v.y h.second; along_z = zero_of-Divides v.z h.third }))
divisor_pos v (pos (suc k)) h n = omega (arith, ints)
divisor_pos v (negsuc k) h n = absurd (let s = h.sign in omega (arith, ints))

-- and what is left over it is not zero
pub left_over : (v u : V3) → IsOverGcd3 v u → ¬ IsZero3 v → ¬ IsZero3 u
left_over v u h n z =
    n (record { along_x = h.along_x ∙ ap (λ x. h.divisor *ℤ x) z.along_x ∙ *ℤ-zero h.divisor; along_y = h.along_y ∙ ap (λ y. h.divisor *ℤ y) z.along_y ∙ *ℤ-zero h.divisor; along_z = h.along_z ∙ ap (λ y. h.divisor *ℤ y) z.along_z ∙ *ℤ-zero h.divisor })
