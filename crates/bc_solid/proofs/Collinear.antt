-- Places on the line of two different ones: each three of them are on one line.
use Rattle.std.proofs.Common.{◌≡◌, ◌≢◌, inl, inr, [], ◌∷◌, refl}
use lib.IntN.{ℤ, pos, negsuc, ◌-ℤ◌, ◌*ℤ◌, neg_ℤ}
use Rattle.std.proofs.lemmas.Int.{ints}
use Rattle.std.proofs.Common.{arith}
use Rattle.bc_algebra.proofs.Ring.{ring, quotes, by_three}
use Rattle.bc_algebra.proofs.Order.{zero_factor}
use Rattle.bc_num.specs.declared.v3.V3.{V3}
use Rattle.bc_num.proofs.Same.{v3_same}
use Rattle.bc_space.specs.PlanesThrough.{AreCollinear}

-- z is 0, since each component of a vector that is not zero times z is
pub zero_by : (u1 u2 u3 z : ℤ) → (u1 ≡ pos 0 → u2 ≡ pos 0 → u3 ≡ pos 0 → ⊥) → u1 *ℤ z ≡ pos 0 → u2 *ℤ z ≡ pos 0 → u3 *ℤ z ≡ pos 0 → z ≡ pos 0
zero_by u1 u2 u3 z some h1 h2 h3 =
    elim (zero_factor u1 z h1) [
      | inr e ↦ e
      | inl e1 ↦
          elim (zero_factor u2 z h2) [
            | inr e ↦ e
            | inl e2 ↦ elim (zero_factor u3 z h3) [ inr e ↦ e | inl e3 ↦ absurd (some e1 e2 e3) ]
          ]
    ]

-- one component of the cross product of x and y, where both are along u
along_one : (u1 u2 u3 x1 x2 x3 y1 y2 y3 : ℤ) → (u1 ≡ pos 0 → u2 ≡ pos 0 → u3 ≡ pos 0 → ⊥)
    → u2 *ℤ x3 -ℤ u3 *ℤ x2 ≡ pos 0 → u3 *ℤ x1 -ℤ u1 *ℤ x3 ≡ pos 0 → u1 *ℤ x2 -ℤ u2 *ℤ x1 ≡ pos 0 → u2 *ℤ y3 -ℤ u3 *ℤ y2 ≡ pos 0
    → x2 *ℤ y3 -ℤ x3 *ℤ y2 ≡ pos 0
along_one u1 u2 u3 x1 x2 x3 y1 y2 y3 some a1 a2 a3 b1 =
    zero_by u1 u2 u3 (x2 *ℤ y3 -ℤ x3 *ℤ y2) some
    (by_three y2 y3 x1 a2 a3 b1 (ring (u1 ∷ u2 ∷ u3 ∷ x1 ∷ x2 ∷ x3 ∷ y2 ∷ y3 ∷ []) (search quotes depth 30) refl))
    (by_three (neg_ℤ y2) (pos 0) x2 a1 a2 b1 (ring (u1 ∷ u2 ∷ u3 ∷ x1 ∷ x2 ∷ x3 ∷ y2 ∷ y3 ∷ []) (search quotes depth 30) refl))
    (by_three (neg_ℤ y3) (pos 0) x3 a1 a2 b1 (ring (u1 ∷ u2 ∷ u3 ∷ x1 ∷ x2 ∷ x3 ∷ y2 ∷ y3 ∷ []) (search quotes depth 30) refl))

-- one component of the cross product of the ways from p to q and r, by those from a
from_first : (ay az py pz qy qz ry rz : ℤ)
    → (qy -ℤ ay) *ℤ (rz -ℤ az) -ℤ (qz -ℤ az) *ℤ (ry -ℤ ay) ≡ pos 0
    → (py -ℤ ay) *ℤ (qz -ℤ az) -ℤ (pz -ℤ az) *ℤ (qy -ℤ ay) ≡ pos 0
    → (py -ℤ ay) *ℤ (rz -ℤ az) -ℤ (pz -ℤ az) *ℤ (ry -ℤ ay) ≡ pos 0
    → (qy -ℤ py) *ℤ (rz -ℤ pz) -ℤ (qz -ℤ pz) *ℤ (ry -ℤ py) ≡ pos 0
from_first ay az py pz qy qz ry rz h k l =
    by_three (pos 1) (pos 1) (negsuc 0) h k l (ring (ay ∷ az ∷ py ∷ pz ∷ qy ∷ qz ∷ ry ∷ rz ∷ []) (search quotes depth 30) refl)

gone : (x y : ℤ) → y -ℤ x ≡ pos 0 → x ≡ y
gone x y e = omega (arith, ints)

-- different places differ along an axis
pub apart_along : (a b : V3) → a ≢ b → b.x -ℤ a.x ≡ pos 0 → b.y -ℤ a.y ≡ pos 0 → b.z -ℤ a.z ≡ pos 0 → ⊥
apart_along a b n ex ey ez = n (v3_same a b (gone a.x b.x ex) (gone a.y b.y ey) (gone a.z b.z ez))

module _ (a b : V3) (n : a ≢ b) where
  -- the ways from a to two places of the line of a and b
  ways_x : (p q : V3) → AreCollinear a b p → AreCollinear a b q → (p.y -ℤ a.y) *ℤ (q.z -ℤ a.z) -ℤ (p.z -ℤ a.z) *ℤ (q.y -ℤ a.y) ≡ pos 0
  ways_x p q h k =
      along_one (b.x -ℤ a.x) (b.y -ℤ a.y) (b.z -ℤ a.z) (p.x -ℤ a.x) (p.y -ℤ a.y) (p.z -ℤ a.z) (q.x -ℤ a.x) (q.y -ℤ a.y) (q.z -ℤ a.z)
      (λ ex ey ez. apart_along a b n ex ey ez) h.along_x h.along_y h.along_z k.along_x

  ways_y : (p q : V3) → AreCollinear a b p → AreCollinear a b q → (p.z -ℤ a.z) *ℤ (q.x -ℤ a.x) -ℤ (p.x -ℤ a.x) *ℤ (q.z -ℤ a.z) ≡ pos 0
  ways_y p q h k =
      along_one (b.y -ℤ a.y) (b.z -ℤ a.z) (b.x -ℤ a.x) (p.y -ℤ a.y) (p.z -ℤ a.z) (p.x -ℤ a.x) (q.y -ℤ a.y) (q.z -ℤ a.z) (q.x -ℤ a.x)
      (λ ey ez ex. apart_along a b n ex ey ez) h.along_y h.along_z h.along_x k.along_y

  ways_z : (p q : V3) → AreCollinear a b p → AreCollinear a b q → (p.x -ℤ a.x) *ℤ (q.y -ℤ a.y) -ℤ (p.y -ℤ a.y) *ℤ (q.x -ℤ a.x) ≡ pos 0
  ways_z p q h k =
      along_one (b.z -ℤ a.z) (b.x -ℤ a.x) (b.y -ℤ a.y) (p.z -ℤ a.z) (p.x -ℤ a.x) (p.y -ℤ a.y) (q.z -ℤ a.z) (q.x -ℤ a.x) (q.y -ℤ a.y)
      (λ ez ex ey. apart_along a b n ex ey ez) h.along_z h.along_x h.along_y k.along_z

  -- three places of the line of two different ones are on one line
  pub three_on_line : (p q r : V3) → AreCollinear a b p → AreCollinear a b q → AreCollinear a b r → AreCollinear p q r
  three_on_line p q r hp hq hr = record {
    along_x = from_first a.y a.z p.y p.z q.y q.z r.y r.z (ways_x q r hq hr) (ways_x p q hp hq) (ways_x p r hp hr);
    along_y = from_first a.z a.x p.z p.x q.z q.x r.z r.x (ways_y q r hq hr) (ways_y p q hp hq) (ways_y p r hp hr);
    along_z = from_first a.x a.y p.x p.y q.x q.y r.x r.y (ways_z q r hq hr) (ways_z p q hp hq) (ways_z p r hp hr);
  }

-- a place is on one line with itself
same_one : (ay az : ℤ) → (ay -ℤ ay) *ℤ (az -ℤ az) -ℤ (az -ℤ az) *ℤ (ay -ℤ ay) ≡ pos 0
same_one ay az = ring (ay ∷ az ∷ []) (search quotes depth 30) refl

pub itself_on_line : (a : V3) → AreCollinear a a a
itself_on_line a = record { along_x = same_one a.y a.z; along_y = same_one a.z a.x; along_z = same_one a.x a.y }
