-- How far from 0 a term can be, and its value without the conversions to bits and back. A goal that a sum, a product or a cast
-- does not overflow is answered by `fits`, a value by `plainly` or `tidy`, a bound by `within`, each over `search smalls`.
use Rattle.std.proofs.Common.{◌≡◌, ℕ, suc, ◌+◌, ◌*◌, ◌^◌, ◌<◌, ◌≤◌, max, T, Bool, ltb, leb, true, false, ◌&&◌, ◌⊎◌, inl, inr, arith, refl, sym, ap, ◌∙◌, subst}
use Rattle.std.proofs.lemmas.Int.{to_z-of_z}
use Rattle.std.proofs.lemmas.Nat.{mul-le}
use Rattle.bc_algebra.specs.Within.{IsWithin}
use borrow.Author.Differences.{ints, up, down}
use lib.Dec.{ltb→lt, leb→le}
use lib.IntN.{ℤ, pos, negsuc, ◌+ℤ◌, ◌-ℤ◌, ◌*ℤ◌, neg_ℤ, nat_abs}
use lib.Signed.{◌≤ℤ◌, ◌<ℤ◌}
use mir.Syntax.{Width}
use mir.Val.{SFits, of_z, to_z, hbits}

-- `plain` is at least -low and at most high, and is z if the test `ok` holds, that each conversion on the way fits
pub record Small (z : ℤ) : Type 0 where
  pub plain : ℤ
  pub low : ℕ
  pub high : ℕ
  pub ok : Bool
  pub above : down plain ≤ low
  pub below : up plain ≤ high
  pub is : T ok → z ≡ plain

-- the first of two tests that both pass
pub both_left : (a b : Bool) → T (a && b) → T a
both_left true b t = tt
both_left false b t = t

-- the second of two tests that both pass
pub both_right : (a b : Bool) → T (a && b) → T b
both_right true b t = t
both_right false b t = absurd t

-- ---- sums, products, negation
-- no number is both above and below 0
one_side : (z : ℤ) → (up z ≡ 0) ⊎ (down z ≡ 0)
one_side (pos n) = inr refl
one_side (negsuc n) = inl refl

-- a sum is at most as far above 0 as its parts together
pub up-add : (a b : ℤ) (m n : ℕ) → up a ≤ m → up b ≤ n → up (a +ℤ b) ≤ m + n
up-add a b m n p q = let o = one_side (a +ℤ b) in omega (arith, ints)

-- a sum is at most as far below 0 as its parts together
pub down-add : (a b : ℤ) (m n : ℕ) → down a ≤ m → down b ≤ n → down (a +ℤ b) ≤ m + n
down-add a b m n p q = let o = one_side (a +ℤ b) in omega (arith, ints)

-- how far above 0 a product can be
pub up-mul : (a b : ℤ) (l m k n : ℕ) → down a ≤ l → up a ≤ m → down b ≤ k → up b ≤ n → up (a *ℤ b) ≤ max (m * n) (l * k)
up-mul (pos a) (pos b) l m k n p q r s = omega (arith, ints, mul-le a b m n q s)
up-mul (pos a) (negsuc b) l m k n p q r s = omega (arith, ints)
up-mul (negsuc a) (pos b) l m k n p q r s = omega (arith, ints)
up-mul (negsuc a) (negsuc b) l m k n p q r s = omega (arith, ints, mul-le (suc a) (suc b) l k p r)

-- how far below 0 a product can be
pub down-mul : (a b : ℤ) (l m k n : ℕ) → down a ≤ l → up a ≤ m → down b ≤ k → up b ≤ n → down (a *ℤ b) ≤ max (m * k) (l * n)
down-mul (pos a) (pos b) l m k n p q r s = omega (arith, ints)
down-mul (pos a) (negsuc b) l m k n p q r s = omega (arith, ints, mul-le a (suc b) m k q r)
down-mul (negsuc a) (pos b) l m k n p q r s = omega (arith, ints, mul-le (suc a) b l n p s)
down-mul (negsuc a) (negsuc b) l m k n p q r s = omega (arith, ints)

-- a negation is as far above 0 as the number is below it
pub up-neg : (a : ℤ) (m : ℕ) → down a ≤ m → up (neg_ℤ a) ≤ m
up-neg a m p = omega (arith, ints)

-- a negation is as far below 0 as the number is above it
pub down-neg : (a : ℤ) (m : ℕ) → up a ≤ m → down (neg_ℤ a) ≤ m
down-neg a m p = omega (arith, ints)

-- the facts of a sum
abbrev pub small-add : (a b : ℤ) → Small a → Small b → Small (a +ℤ b)
small-add a b p q = record {
  plain = p.plain +ℤ q.plain;
  low = p.low + q.low;
  high = p.high + q.high;
  ok = p.ok && q.ok;
  above = down-add p.plain q.plain p.low q.low p.above q.above;
  below = up-add p.plain q.plain p.high q.high p.below q.below;
  is = λ t. ap (λ z. z +ℤ b) (p.is (both_left p.ok q.ok t)) ∙ ap (λ z. p.plain +ℤ z) (q.is (both_right p.ok q.ok t));
}

-- the facts of a product
abbrev pub small-mul : (a b : ℤ) → Small a → Small b → Small (a *ℤ b)
small-mul a b p q = record {
  plain = p.plain *ℤ q.plain;
  low = max (p.high * q.low) (p.low * q.high);
  high = max (p.high * q.high) (p.low * q.low);
  ok = p.ok && q.ok;
  above = down-mul p.plain q.plain p.low p.high q.low q.high p.above p.below q.above q.below;
  below = up-mul p.plain q.plain p.low p.high q.low q.high p.above p.below q.above q.below;
  is = λ t. ap (λ z. z *ℤ b) (p.is (both_left p.ok q.ok t)) ∙ ap (λ z. p.plain *ℤ z) (q.is (both_right p.ok q.ok t));
}

-- the facts of a negation
abbrev pub small-neg : (a : ℤ) → Small a → Small (neg_ℤ a)
small-neg a p = record {
  plain = neg_ℤ p.plain;
  low = p.high;
  high = p.low;
  ok = p.ok;
  above = down-neg p.plain p.high p.below;
  below = up-neg p.plain p.low p.above;
  is = λ t. ap neg_ℤ (p.is t);
}

-- ---- a conversion to bits and back
-- what is at least -low and at most high fits the signed type of this width
abbrev pub fits_test : ℕ → ℕ → Width → Bool
fits_test low high w = leb low (2 ^ hbits w) && ltb high (2 ^ hbits w)

-- a term fits a signed type, where its range passes the test
pub fits_by : (w : Width) (z : ℤ) (s : Small z) → T (s.ok && fits_test s.low s.high w) → SFits w z
fits_by w z s t =
    let u = both_right s.ok (fits_test s.low s.high w) t in
    let l = leb→le s.low (2 ^ hbits w) (both_left (leb s.low (2 ^ hbits w)) (ltb s.high (2 ^ hbits w)) u) in
    let h = ltb→lt s.high (2 ^ hbits w) (both_right (leb s.low (2 ^ hbits w)) (ltb s.high (2 ^ hbits w)) u) in
    let e : z ≡ s.plain = s.is (both_left s.ok (fits_test s.low s.high w) t) in
    rw e (in_range w s.plain s.low s.high s.above s.below l h)
  where
    in_range : (w : Width) (z : ℤ) (l h : ℕ) → down z ≤ l → up z ≤ h → l ≤ 2 ^ hbits w → h < 2 ^ hbits w → SFits w z
    in_range w z l h p q r s = omega (arith, ints)

-- the facts of a term that is written to bits and read back
abbrev pub small-back : (w : Width) (z : ℤ) → Small z → Small (to_z w (of_z w z))
small-back w z s = record {
  plain = s.plain;
  low = s.low;
  high = s.high;
  ok = s.ok && fits_test s.low s.high w;
  above = s.above;
  below = s.below;
  is = λ t. to_z-of_z w z (fits_by w z s t) ∙ s.is (both_left s.ok (fits_test s.low s.high w) t);
}

-- ---- numerals, and facts at hand
-- the facts of a natural number
abbrev pub small-pos : (n : ℕ) → Small (pos n)
small-pos n = record { plain = pos n; low = 0; high = n; ok = true; above = omega arith; below = omega arith; is = λ t. refl }

-- the facts of a number below 0
abbrev pub small-negsuc : (n : ℕ) → Small (negsuc n)
small-negsuc n = record { plain = negsuc n; low = suc n; high = 0; ok = true; above = omega arith; below = omega arith; is = λ t. refl }

-- a number of size at most n is at most n above 0
pub up_within : (n : ℕ) (z : ℤ) → nat_abs z ≤ n → up z ≤ n
up_within n z p = let o = one_side z in omega (arith, ints)

-- a number of size at most n is at most n below 0
pub down_within : (n : ℕ) (z : ℤ) → nat_abs z ≤ n → down z ≤ n
down_within n z p = let o = one_side z in omega (arith, ints)

-- the facts of a number that is known to be within n
abbrev pub small_within : (n : ℕ) (z : ℤ) → IsWithin n z → Small z
small_within n z p = record { plain = z; low = n; high = n; ok = true; above = down_within n z p.within; below = up_within n z p.within; is = λ t. refl }

-- how far below 0 a number between two bounds can be, the lower one below 0
pub down_between : (z : ℤ) (l h : ℕ) → negsuc l ≤ℤ z → z ≤ℤ pos h → down z ≤ suc l
down_between z l h p q = let o = one_side z in omega (arith, ints)

-- how far above 0 a number between two bounds can be, the lower one below 0
pub up_between : (z : ℤ) (l h : ℕ) → negsuc l ≤ℤ z → z ≤ℤ pos h → up z ≤ h
up_between z l h p q = let o = one_side z in omega (arith, ints)

-- the facts of a number between two bounds, the lower one below 0
abbrev pub small_between : (z : ℤ) (l h : ℕ) → negsuc l ≤ℤ z → z ≤ℤ pos h → Small z
small_between z l h p q = record { plain = z; low = suc l; high = h; ok = true; above = down_between z l h p q; below = up_between z l h p q; is = λ t. refl }

-- a number between two bounds is not below 0, where the lower one is not
pub down_from : (z : ℤ) (l h : ℕ) → pos l ≤ℤ z → z ≤ℤ pos h → down z ≤ 0
down_from z l h p q = let o = one_side z in omega (arith, ints)

-- how far above 0 a number between two bounds can be, the lower one not below 0
pub up_from : (z : ℤ) (l h : ℕ) → pos l ≤ℤ z → z ≤ℤ pos h → up z ≤ h
up_from z l h p q = let o = one_side z in omega (arith, ints)

-- the facts of a number between two bounds, the lower one not below 0
abbrev pub small_from : (z : ℤ) (l h : ℕ) → pos l ≤ℤ z → z ≤ℤ pos h → Small z
small_from z l h p q = record { plain = z; low = 0; high = h; ok = true; above = down_from z l h p q; below = up_from z l h p q; is = λ t. refl }

-- for `search`, with the facts at hand
pub ruleset smalls = (small-back, small-add, small-mul, small-neg, small-pos, small-negsuc, small_within, small_between, small_from)

-- ---- what follows
-- a term does not overflow: `fits (search (smalls, c.requires) depth 30) refl`
pub fits : {w : Width} {z : ℤ} (s : Small z) → (s.ok && fits_test s.low s.high w) ≡ true → SFits w z
fits {w} {z} s t = fits_by w z s (subst T (sym t) tt)

-- a term equals itself without the conversions
pub plainly : {z : ℤ} (s : Small z) → s.ok ≡ true → z ≡ s.plain
plainly s t = s.is (subst T (sym t) tt)

-- a term does not overflow, where a lemma bounds its value
pub fits_from : {w : Width} {z : ℤ} (s : Small z) → s.ok ≡ true → SFits w s.plain → SFits w z
fits_from {w} {z} s t f = let e : z ≡ s.plain = plainly s t in rw e f

-- a term is within n, where its range is: `within (search (smalls, ..) depth 30) refl`
pub within : {n : ℕ} {z : ℤ} (s : Small z) → (s.ok && (leb s.low n && leb s.high n)) ≡ true → IsWithin n z
within {n} {z} s t =
    let u : T (s.ok && (leb s.low n && leb s.high n)) = subst T (sym t) tt in
    let v = both_right s.ok (leb s.low n && leb s.high n) u in
    let l = leb→le s.low n (both_left (leb s.low n) (leb s.high n) v) in
    let h = leb→le s.high n (both_right (leb s.low n) (leb s.high n) v) in
    let e : z ≡ s.plain = s.is (both_left s.ok (leb s.low n && leb s.high n) u) in
    rw e (record { within = near s.plain n s.low s.high s.above s.below l h })
  where
    near : (z : ℤ) (n l h : ℕ) → down z ≤ l → up z ≤ h → l ≤ n → h ≤ n → nat_abs z ≤ n
    near z n l h p q r s = let o = one_side z in omega (arith, ints)

-- an equation or an order whose sides hold conversions: `tidy (search (smalls, ..) depth 30) refl e`, where e is of the values
pub tidy : {a b : ℤ} (s : Small (a -ℤ b)) → s.ok ≡ true → s.plain ≡ pos 0 → a ≡ b
tidy {a} {b} s t e =
    let d : a -ℤ b ≡ pos 0 = plainly s t ∙ e in
    omega (arith, ints)

-- the same for a strict order
pub tidy_lt : {a b : ℤ} (s : Small (b -ℤ a)) → s.ok ≡ true → pos 0 <ℤ s.plain → a <ℤ b
tidy_lt {a} {b} s t h =
    let d = plainly s t in
    omega (arith, ints)

-- the same for an order
pub tidy_le : {a b : ℤ} (s : Small (b -ℤ a)) → s.ok ≡ true → pos 0 ≤ℤ s.plain → a ≤ℤ b
tidy_le {a} {b} s t h =
    let d = plainly s t in
    omega (arith, ints)
