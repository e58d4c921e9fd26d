-- Bezout's identity: the greatest common divisor of two numbers is a sum of multiples of them. So two points in lowest terms
-- that are the same have the same numbers, and so have two primitive vectors along one line.
use Rattle.std.proofs.Common.{◌≡◌, true, ℕ, zero, suc, ◌/◌, ◌%◌, ◌≤◌, ◌⊎◌, inl, inr, [], ◌∷◌, arith, refl, sym, ap, ◌∙◌}
use Rattle.std.proofs.lemmas.Int.{ints}
use lib.IntN.{ℤ, pos, negsuc, ◌+ℤ◌, ◌-ℤ◌, ◌*ℤ◌, neg_ℤ, nat_abs, *ℤ_comm}
use lib.Signed.{◌≤ℤ◌, ◌<ℤ◌}
use Rattle.bc_algebra.proofs.Ring.{ring, quotes, by_one, by_two, by_three}
use Rattle.bc_algebra.proofs.Order.{cancel_eq, pos_of-mul, mul_le}
use Rattle.bc_num.specs.declared.v2.V2.{V2}
use Rattle.bc_num.specs.declared.p2.P2.{P2}
use Rattle.bc_num.specs.Divides.{Divides}
use Rattle.bc_num.specs.Points.{IsSamePoint2, IsMultiple2, IsReduced2}
use Rattle.bc_num.specs.Directions.{IsPrimitive2, IsLeading2}
use Rattle.bc_num.proofs.Dividing.{Divides_trans}
use Rattle.bc_num.proofs.Same.{p2_same, v2_same}

-- a common divisor of a and b that is a sum of multiples of them
pub record Bezout (a b : ℤ) : Type 0 where
  pub divisor : ℕ
  pub left : Divides (pos divisor) a
  pub right : Divides (pos divisor) b
  pub s : ℤ
  pub t : ℤ
  pub is : s *ℤ a +ℤ t *ℤ b ≡ pos divisor

-- one step of Euclid's algorithm
step : (a b q m : ℤ) → a ≡ q *ℤ b +ℤ m → Bezout b m → Bezout a b
step a b q m e h = record {
  divisor = h.divisor;
  left = record {
    times = q *ℤ h.left.times +ℤ h.right.times;
    is = by_three (pos 1) q (pos 1) e h.left.is h.right.is (ring (a ∷ b ∷ q ∷ m ∷ h.left.times ∷ h.right.times ∷ pos h.divisor ∷ []) (search quotes depth 30) refl);
  };
  right = h.left;
  s = h.t;
  t = h.s -ℤ h.t *ℤ q;
  is = by_two h.t (pos 1) e h.is (ring (a ∷ b ∷ q ∷ m ∷ h.s ∷ h.t ∷ pos h.divisor ∷ []) (search quotes depth 30) refl);
}

euclid : (n a b : ℕ) → b ≤ n → Bezout (pos a) (pos b)
euclid n a zero h = record {
  divisor = a;
  left = record { times = pos 1; is = omega (arith, ints) };
  right = record { times = pos 0; is = omega (arith, ints) };
  s = pos 1;
  t = pos 0;
  is = omega (arith, ints);
}
euclid zero a (suc b) h = absurd (omega arith)
euclid (suc n) a (suc b) h =
    step (pos a) (pos (suc b)) (pos (a / suc b)) (pos (a % suc b)) (omega (arith, ints)) (euclid n (suc b) (a % suc b) (omega arith))

-- the first number negated
flip : (a b : ℤ) → Bezout a b → Bezout (neg_ℤ a) b
flip a b h = record {
  divisor = h.divisor;
  left = record {
    times = neg_ℤ h.left.times;
    is = by_one (neg_ℤ (pos 1)) h.left.is (ring (a ∷ h.left.times ∷ pos h.divisor ∷ []) (search quotes depth 30) refl);
  };
  right = h.right;
  s = neg_ℤ h.s;
  t = h.t;
  is = by_one (pos 1) h.is (ring (a ∷ b ∷ h.s ∷ h.t ∷ pos h.divisor ∷ []) (search quotes depth 30) refl);
}

-- the two numbers exchanged
turn : (a b : ℤ) → Bezout a b → Bezout b a
turn a b h = record {
  divisor = h.divisor;
  left = h.right;
  right = h.left;
  s = h.t;
  t = h.s;
  is = omega (arith, ints, h.is);
}

-- of any two numbers
pub bezout : (a b : ℤ) → Bezout a b
bezout (pos a) (pos b) = euclid b a b (omega arith)
bezout (negsuc a) (pos b) = flip (pos (suc a)) (pos b) (euclid b (suc a) b (omega arith))
bezout (pos a) (negsuc b) = turn (negsuc b) (pos a) (flip (pos (suc b)) (pos a) (euclid a (suc b) a (omega arith)))
bezout (negsuc a) (negsuc b) =
    flip (pos (suc a)) (negsuc b) (turn (negsuc b) (pos (suc a)) (flip (pos (suc b)) (pos (suc a)) (euclid (suc a) (suc b) (suc a) (omega arith))))

-- ---- points in lowest terms
-- factors that make 1 of three numbers
pub record MakesOne3 (x y w : ℤ) : Type 0 where
  pub u : ℤ
  pub v : ℤ
  pub t : ℤ
  pub one : u *ℤ x +ℤ v *ℤ y +ℤ t *ℤ w ≡ pos 1

-- the numbers of a point in lowest terms have such factors
pub MakesOne3_of-reduced : (p : P2) → IsReduced2 p → MakesOne3 p.x p.y p.w
MakesOne3_of-reduced p h =
    let a = bezout p.x p.y in
    let b = bezout (pos a.divisor) p.w in
    let one : b.divisor ≡ 1 =
    h.coprime b.divisor (Divides_trans (pos b.divisor) (pos a.divisor) p.x b.left a.left) (Divides_trans (pos b.divisor) (pos a.divisor) p.y b.left a.right) b.right in
    record {
      u = b.s *ℤ a.s;
      v = b.s *ℤ a.t;
      t = b.t;
      one = by_two b.s (pos 1) a.is (b.is ∙ ap pos one) (ring (p.x ∷ p.y ∷ p.w ∷ a.s ∷ a.t ∷ b.s ∷ b.t ∷ pos a.divisor ∷ []) (search quotes depth 30) (refl {a = true}));
    }

-- a point is a multiple of the same point in lowest terms
pub IsMultiple2_of-reduced : (p q : P2) → IsReduced2 q → IsSamePoint2 p q → IsMultiple2 p q
IsMultiple2_of-reduced p q h e =
    let f = MakesOne3_of-reduced q h in
    let k : ℤ = f.u *ℤ p.x +ℤ f.v *ℤ p.y +ℤ f.t *ℤ p.w in
    let w : p.w ≡ (f.u *ℤ p.x +ℤ f.v *ℤ p.y +ℤ f.t *ℤ p.w) *ℤ q.w =
    by_three (neg_ℤ p.w) (neg_ℤ f.u) (neg_ℤ f.v) f.one e.along_x e.along_y
    (ring (p.x ∷ p.y ∷ p.w ∷ q.x ∷ q.y ∷ q.w ∷ f.u ∷ f.v ∷ f.t ∷ []) (search quotes depth 30) (refl {a = true})) in
    record {
      times = k;
      positive = pos_of-mul k q.w q.positive (rw w at p.positive);
      along_x = scaled p.x q.x k p.w q.w q.positive e.along_x w;
      along_y = scaled p.y q.y k p.w q.w q.positive e.along_y w;
      along_w = w;
    }
  where
    scaled : (a b k v w : ℤ) → pos 0 <ℤ w → a *ℤ w ≡ b *ℤ v → v ≡ k *ℤ w → a ≡ k *ℤ b
    scaled a b k v w h e f =
        cancel_eq a (k *ℤ b) w h (by_two (pos 1) b e f (ring (a ∷ b ∷ k ∷ v ∷ w ∷ []) (search quotes depth 30) refl))

-- the same point the other way round
pub IsSamePoint2_sym : (p q : P2) → IsSamePoint2 p q → IsSamePoint2 q p
IsSamePoint2_sym p q e = record { along_x = sym e.along_x; along_y = sym e.along_y }

-- a number above 0 is no larger than a multiple of it that is above 0
pub factor_le : (a b k : ℤ) → pos 0 <ℤ b → pos 0 <ℤ k → a ≡ k *ℤ b → b ≤ℤ a
factor_le a b k hb hk e =
    let m : (pos 1 *ℤ b) ≤ℤ (k *ℤ b) = mul_le (pos 1) k b (omega (arith, ints)) (omega (arith, ints)) in
    omega (arith, ints)

-- two points in lowest terms that are the same have the same numbers
pub reduced_same : (p q : P2) → IsReduced2 p → IsReduced2 q → IsSamePoint2 p q → p ≡ q
reduced_same p q hp hq e =
    let m = IsMultiple2_of-reduced p q hq e in
    let n = IsMultiple2_of-reduced q p hp (IsSamePoint2_sym p q e) in
    let a : q.w ≤ℤ p.w = factor_le p.w q.w m.times q.positive m.positive m.along_w in
    let b : p.w ≤ℤ q.w = factor_le q.w p.w n.times p.positive n.positive n.along_w in
    let w : p.w ≡ q.w = omega (arith, ints) in
    p2_same p q (number p.x q.x p.w q.w q.positive e.along_x w) (number p.y q.y p.w q.w q.positive e.along_y w) w
  where
    number : (a b v w : ℤ) → pos 0 <ℤ w → a *ℤ w ≡ b *ℤ v → v ≡ w → a ≡ b
    number a b v w h e f = cancel_eq a b w h (by_two (pos 1) b e f (ring (a ∷ b ∷ v ∷ w ∷ []) (search quotes depth 30) refl))

-- ---- primitive vectors
-- two vectors along one line, the first primitive: the second is a multiple of it
multiple_of-primitive : (u v : V2) → IsPrimitive2 u → u.x *ℤ v.y ≡ u.y *ℤ v.x → (k : ℤ) × (v.x ≡ k *ℤ u.x) × (v.y ≡ k *ℤ u.y)
multiple_of-primitive u v h e =
    let b = bezout u.x u.y in
    let one : b.s *ℤ u.x +ℤ b.t *ℤ u.y ≡ pos 1 = b.is ∙ ap pos (h.coprime b.divisor b.left b.right) in (
      b.s *ℤ v.x +ℤ b.t *ℤ v.y,
      by_two (neg_ℤ v.x) (neg_ℤ b.t) one e (ring (u.x ∷ u.y ∷ v.x ∷ v.y ∷ b.s ∷ b.t ∷ []) (search quotes depth 30) refl),
      by_two (neg_ℤ v.y) b.s one e (ring (u.x ∷ u.y ∷ v.x ∷ v.y ∷ b.s ∷ b.t ∷ []) (search quotes depth 30) refl),
    )

-- a number of size 1 is 1 or -1
unit : (k : ℤ) → nat_abs k ≡ 1 → (k ≡ pos 1) ⊎ (k ≡ negsuc 0)
unit (pos n) e = inl (ap pos e)
unit (negsuc n) e = inr (ap negsuc (omega arith))

-- the size of a factor divides
size_divides : (k u v : ℤ) → v ≡ k *ℤ u → Divides (pos (nat_abs k)) v
size_divides (pos n) u v e = record { times = u; is = e ∙ *ℤ_comm (pos n) u }
size_divides (negsuc n) u v e = record { times = neg_ℤ u; is = e ∙ sign-moved (pos (suc n)) u }
  where
    sign-moved : (m u : ℤ) → neg_ℤ m *ℤ u ≡ neg_ℤ u *ℤ m
    sign-moved m u = ring (m ∷ u ∷ []) (search quotes depth 30) refl

-- vectors of opposite directions are not both leading
not_both : (u v : V2) → IsLeading2 u → IsLeading2 v → v.x ≡ negsuc 0 *ℤ u.x → v.y ≡ negsuc 0 *ℤ u.y → ⊥
not_both u v (inl a) (inl b) ex ey = absurd (omega (arith, ints))
not_both u v (inl a) (inr b) ex ey = absurd (omega (arith, ints, b.0))
not_both u v (inr a) (inl b) ex ey = absurd (omega (arith, ints, a.0))
not_both u v (inr a) (inr b) ex ey = absurd (omega (arith, ints, a.1, b.1))

-- two primitive vectors along one line, each with its first non-zero component above 0, are equal
pub primitive_same : (u v : V2) → IsPrimitive2 u → IsPrimitive2 v → IsLeading2 u → IsLeading2 v → u.x *ℤ v.y ≡ u.y *ℤ v.x → u ≡ v
primitive_same u v hu hv lu lv e =
    let m = multiple_of-primitive u v hu e in
    let k = m.0 in
    let one : nat_abs k ≡ 1 = hv.coprime (nat_abs k) (size_divides k u.x v.x m.1) (size_divides k u.y v.y m.2) in
    elim (unit k one) [
      | inl f ↦ sym (equal u v (m.1 ∙ ap (λ z. z *ℤ u.x) f) (m.2 ∙ ap (λ z. z *ℤ u.y) f))
      | inr f ↦ absurd (not_both u v lu lv (m.1 ∙ ap (λ z. z *ℤ u.x) f) (m.2 ∙ ap (λ z. z *ℤ u.y) f))
    ]
  where
    equal : (u v : V2) → v.x ≡ pos 1 *ℤ u.x → v.y ≡ pos 1 *ℤ u.y → v ≡ u
    equal u v ex ey =
        let x : v.x ≡ u.x = omega (arith, ints) in
        let y : v.y ≡ u.y = omega (arith, ints) in
        v2_same v u x y
