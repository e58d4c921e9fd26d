-- Each point has a form in lowest terms, and only one: by Bezout's identity.
use Rattle.std.proofs.Common.{◌≡◌, [], ◌∷◌, arith, refl, sym, subst}
use Rattle.std.proofs.lemmas.Int.{ints}
use lib.IntN.{ℤ, pos, ◌+ℤ◌, ◌*ℤ◌, neg_ℤ}
use lib.Signed.{◌<ℤ◌}
use Rattle.bc_algebra.proofs.Ring.{ring, quotes, by_two, by_three}
use Rattle.bc_algebra.proofs.Order.{cancel_eq, pos_of-mul}
use Rattle.bc_num.specs.declared.p2.P2.{P2}
use Rattle.bc_num.specs.declared.p3.P3.{P3}
use Rattle.bc_num.specs.Divides.{IsGcdOf, IsGcdOf3, IsGcdOf4}
use Rattle.bc_num.specs.Points.{IsSamePoint2, IsReduced2, IsSamePoint3, IsReduced3}
use Rattle.bc_num.proofs.Dividing.{IsGcdOf3_of-two, IsGcdOf4_of-pairs, pos_divisor}
use Rattle.bc_num.proofs.Combining.{Bezout, bezout, reduced_same}
use Rattle.bc_num.proofs.Combining3.{reduced_same3}
use Rattle.bc_num.proofs.Lowest.{IsOver2, IsOver3, IsSamePoint2_of-over, IsReduced2_of-over, IsSamePoint3_of-over, IsReduced3_of-over}

-- a common divisor that is a sum of multiples is the greatest
pub IsGcdOf_of-bezout : (a b : ℤ) (h : Bezout a b) → IsGcdOf a b (pos h.divisor)
IsGcdOf_of-bezout a b h = record {
  left = h.left;
  right = h.right;
  greatest = λ d p q. record {
    times = h.s *ℤ p.times +ℤ h.t *ℤ q.times;
    is = by_three (neg_ℤ (pos 1)) h.s h.t h.is p.is q.is (ring (a ∷ b ∷ d ∷ h.s ∷ h.t ∷ p.times ∷ q.times ∷ pos h.divisor ∷ []) (search quotes depth 30) refl);
  };
  sign = omega (arith, ints);
}

-- ---- points of the plane
-- p over the greatest common divisor of its numbers
pub record Lowest2 (p : P2) : Type 0 where
  pub point : P2
  pub divisor : ℤ
  pub over : IsOver2 p point divisor

pub lowest2 : (p : P2) → Lowest2 p
lowest2 p =
    let a = bezout p.x p.y in
    let b = bezout (pos a.divisor) p.w in
    let h : IsGcdOf3 p.x p.y p.w (pos b.divisor) = IsGcdOf3_of-two p.x p.y p.w (pos a.divisor) (pos b.divisor) (IsGcdOf_of-bezout p.x p.y a) (IsGcdOf_of-bezout (pos a.divisor) p.w b) in
    let above : pos 0 <ℤ pos b.divisor = pos_divisor (pos b.divisor) p.w h.sign p.positive h.third in
    record {
      point = record {
        x = h.first.times;
        y = h.second.times;
        w = h.third.times;
        positive = pos_of-mul h.third.times (pos b.divisor) above (subst (λ (z : ℤ). pos 0 <ℤ z) h.third.is p.positive);
      };
      divisor = pos b.divisor;
      over = record { positive = above; greatest = h; along_x = sym h.first.is; along_y = sym h.second.is; along_w = sym h.third.is };
    }

crossed : (a u b v c w : ℤ) → pos 0 <ℤ v → a *ℤ v ≡ b *ℤ u → b *ℤ w ≡ c *ℤ v → a *ℤ w ≡ c *ℤ u
crossed a u b v c w h e f =
    cancel_eq (a *ℤ w) (c *ℤ u) v h (by_two w u e f (ring (a ∷ b ∷ c ∷ u ∷ v ∷ w ∷ []) (search quotes depth 30) refl))

-- one place through another
pub IsSamePoint2_trans : (p q r : P2) → IsSamePoint2 p q → IsSamePoint2 q r → IsSamePoint2 p r
IsSamePoint2_trans p q r e f = record {
  along_x = crossed p.x p.w q.x q.w r.x r.w q.positive e.along_x f.along_x;
  along_y = crossed p.y p.w q.y q.w r.y r.w q.positive e.along_y f.along_y;
}

-- whatever is that place in lowest terms has its numbers
pub lowest2_is : (p r : P2) → IsSamePoint2 p r → IsReduced2 r → (lowest2 p).point ≡ r
lowest2_is p r e h =
    let l = lowest2 p in
    let s = IsSamePoint2_of-over p l.point l.divisor l.over in
    reduced_same l.point r (IsReduced2_of-over p l.point l.divisor l.over) h
    (IsSamePoint2_trans l.point p r (record { along_x = sym s.along_x; along_y = sym s.along_y }) e)

-- ---- points of space
pub record Lowest3 (p : P3) : Type 0 where
  pub point : P3
  pub divisor : ℤ
  pub over : IsOver3 p point divisor

pub lowest3 : (p : P3) → Lowest3 p
lowest3 p =
    let a = bezout p.x p.y in
    let b = bezout p.z p.w in
    let c = bezout (pos a.divisor) (pos b.divisor) in
    let h : IsGcdOf4 p.x p.y p.z p.w (pos c.divisor) = IsGcdOf4_of-pairs p.x p.y p.z p.w (pos a.divisor) (pos b.divisor) (pos c.divisor) (IsGcdOf_of-bezout p.x p.y a) (IsGcdOf_of-bezout p.z p.w b) (IsGcdOf_of-bezout (pos a.divisor) (pos b.divisor) c) in
    let above : pos 0 <ℤ pos c.divisor = pos_divisor (pos c.divisor) p.w h.sign p.positive h.fourth in
    record {
      point = record {
        x = h.first.times;
        y = h.second.times;
        z = h.third.times;
        w = h.fourth.times;
        positive = pos_of-mul h.fourth.times (pos c.divisor) above (subst (λ (z : ℤ). pos 0 <ℤ z) h.fourth.is p.positive);
      };
      divisor = pos c.divisor;
      over = record { positive = above; greatest = h; along_x = sym h.first.is; along_y = sym h.second.is; along_z = sym h.third.is; along_w = sym h.fourth.is };
    }

-- one place of space through another
pub IsSamePoint3_trans : (p q r : P3) → IsSamePoint3 p q → IsSamePoint3 q r → IsSamePoint3 p r
IsSamePoint3_trans p q r e f = record {
  along_x = crossed p.x p.w q.x q.w r.x r.w q.positive e.along_x f.along_x;
  along_y = crossed p.y p.w q.y q.w r.y r.w q.positive e.along_y f.along_y;
  along_z = crossed p.z p.w q.z q.w r.z r.w q.positive e.along_z f.along_z;
}

-- whatever is that place in lowest terms has its numbers
pub lowest3_is : (p r : P3) → IsSamePoint3 p r → IsReduced3 r → (lowest3 p).point ≡ r
lowest3_is p r e h =
    let l = lowest3 p in
    let s = IsSamePoint3_of-over p l.point l.divisor l.over in
    reduced_same3 l.point r (IsReduced3_of-over p l.point l.divisor l.over) h
    (IsSamePoint3_trans l.point p r (record { along_x = sym s.along_x; along_y = sym s.along_y; along_z = sym s.along_z }) e)
