-- Two points of space in lowest terms that are the same have the same numbers, by Bezout's identity for four numbers.
use Rattle.std.proofs.Common.{◌≡◌, true, [], ◌∷◌, arith, refl, sym, ap, ◌∙◌}
use Rattle.std.proofs.lemmas.Int.{ints}
use lib.IntN.{ℤ, pos, ◌+ℤ◌, ◌*ℤ◌, neg_ℤ}
use lib.Signed.{◌≤ℤ◌, ◌<ℤ◌}
use Rattle.bc_algebra.proofs.Ring.{ring, quotes, by_one, by_two, by_three}
use Rattle.bc_algebra.proofs.Order.{cancel_eq, pos_of-mul}
use Rattle.bc_num.specs.declared.p3.P3.{P3}
use Rattle.bc_num.specs.Points.{IsSamePoint3, IsMultiple3, IsReduced3}
use Rattle.bc_num.proofs.Dividing.{Divides_trans}
use Rattle.bc_num.proofs.Combining.{bezout, factor_le}
use Rattle.bc_num.proofs.Same.{p3_same}

-- factors that make 1 of four numbers
pub record MakesOne4 (x y z w : ℤ) : Type 0 where
  pub s : ℤ
  pub t : ℤ
  pub u : ℤ
  pub v : ℤ
  pub one : s *ℤ x +ℤ t *ℤ y +ℤ u *ℤ z +ℤ v *ℤ w ≡ pos 1

-- the numbers of a point in lowest terms have such factors
pub MakesOne4_of-reduced : (p : P3) → IsReduced3 p → MakesOne4 p.x p.y p.z p.w
MakesOne4_of-reduced p h =
    let a = bezout p.x p.y in
    let b = bezout p.z p.w in
    let c = bezout (pos a.divisor) (pos b.divisor) in
    let one : c.divisor ≡ 1 =
    h.coprime c.divisor (Divides_trans (pos c.divisor) (pos a.divisor) p.x c.left a.left) (Divides_trans (pos c.divisor) (pos a.divisor) p.y c.left a.right)
    (Divides_trans (pos c.divisor) (pos b.divisor) p.z c.right b.left) (Divides_trans (pos c.divisor) (pos b.divisor) p.w c.right b.right) in
    record {
      s = c.s *ℤ a.s;
      t = c.s *ℤ a.t;
      u = c.t *ℤ b.s;
      v = c.t *ℤ b.t;
      one = by_three c.s c.t (pos 1) a.is b.is (c.is ∙ ap pos one) (ring (p.x ∷ p.y ∷ p.z ∷ p.w ∷ a.s ∷ a.t ∷ b.s ∷ b.t ∷ c.s ∷ c.t ∷ pos a.divisor ∷ pos b.divisor ∷ []) (search quotes depth 30) (refl {a = true}));
    }

-- a point is a multiple of the same point in lowest terms
pub IsMultiple3_of-reduced : (p q : P3) → IsReduced3 q → IsSamePoint3 p q → IsMultiple3 p q
IsMultiple3_of-reduced p q h e =
    let f = MakesOne4_of-reduced q h in
    let k : ℤ = f.s *ℤ p.x +ℤ f.t *ℤ p.y +ℤ f.u *ℤ p.z +ℤ f.v *ℤ p.w in
    let first : p.w ≡ f.s *ℤ (q.x *ℤ p.w) +ℤ f.t *ℤ (q.y *ℤ p.w) +ℤ f.u *ℤ (q.z *ℤ p.w) +ℤ f.v *ℤ (q.w *ℤ p.w) =
    by_one (neg_ℤ p.w) f.one (ring (p.w ∷ q.x ∷ q.y ∷ q.z ∷ q.w ∷ f.s ∷ f.t ∷ f.u ∷ f.v ∷ []) (search quotes depth 30) (refl {a = true})) in
    let w : p.w ≡ (f.s *ℤ p.x +ℤ f.t *ℤ p.y +ℤ f.u *ℤ p.z +ℤ f.v *ℤ p.w) *ℤ q.w =
    first ∙ by_three (neg_ℤ f.s) (neg_ℤ f.t) (neg_ℤ f.u) e.along_x e.along_y e.along_z
    (ring (p.x ∷ p.y ∷ p.z ∷ p.w ∷ q.x ∷ q.y ∷ q.z ∷ q.w ∷ f.s ∷ f.t ∷ f.u ∷ f.v ∷ []) (search quotes depth 30) (refl {a = true})) in
    record {
      times = k;
      positive = pos_of-mul k q.w q.positive (rw w at p.positive);
      along_x = scaled p.x q.x k p.w q.w q.positive e.along_x w;
      along_y = scaled p.y q.y k p.w q.w q.positive e.along_y w;
      along_z = scaled p.z q.z k p.w q.w q.positive e.along_z w;
      along_w = w;
    }
  where
    scaled : (a b k v w : ℤ) → pos 0 <ℤ w → a *ℤ w ≡ b *ℤ v → v ≡ k *ℤ w → a ≡ k *ℤ b
    scaled a b k v w h e f =
        cancel_eq a (k *ℤ b) w h (by_two (pos 1) b e f (ring (a ∷ b ∷ k ∷ v ∷ w ∷ []) (search quotes depth 30) refl))

-- the same point the other way round
pub IsSamePoint3_sym : (p q : P3) → IsSamePoint3 p q → IsSamePoint3 q p
IsSamePoint3_sym p q e = record { along_x = sym e.along_x; along_y = sym e.along_y; along_z = sym e.along_z }

-- two points in lowest terms that are the same have the same numbers
pub reduced_same3 : (p q : P3) → IsReduced3 p → IsReduced3 q → IsSamePoint3 p q → p ≡ q
reduced_same3 p q hp hq e =
    let m = IsMultiple3_of-reduced p q hq e in
    let n = IsMultiple3_of-reduced q p hp (IsSamePoint3_sym p q e) in
    let a : q.w ≤ℤ p.w = factor_le p.w q.w m.times q.positive m.positive m.along_w in
    let b : p.w ≤ℤ q.w = factor_le q.w p.w n.times p.positive n.positive n.along_w in
    let w : p.w ≡ q.w = omega (arith, ints) in
    p3_same p q (number p.x q.x p.w q.w q.positive e.along_x w) (number p.y q.y p.w q.w q.positive e.along_y w) (number p.z q.z p.w q.w q.positive e.along_z w) w
  where
    number : (a b v w : ℤ) → pos 0 <ℤ w → a *ℤ w ≡ b *ℤ v → v ≡ w → a ≡ b
    number a b v w h e f = cancel_eq a b w h (by_two (pos 1) b e f (ring (a ∷ b ∷ v ∷ w ∷ []) (search quotes depth 30) refl))
