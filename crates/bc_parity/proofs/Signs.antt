-- The signs of products, and what tests of them answer.
use Rattle.std.proofs.Common.{◌≡◌, ◌⊎◌, inl, inr, [], ◌∷◌, arith, refl, sym, ◌∙◌, ap}
use Rattle.std.proofs.lemmas.Int.{ints, by_lt_z}
use Rattle.std.specs.Prelude.{int_lt}
use Rattle.bc_parity.proofs.Orders.{lt_yes, lt_no}
use lib.IntN.{ℤ, pos, ◌+ℤ◌, ◌-ℤ◌, ◌*ℤ◌, neg_ℤ}
use lib.Signed.{◌≤ℤ◌, ◌<ℤ◌}
use Rattle.bc_algebra.proofs.Ring.{ring, quotes, by_one}
use Rattle.bc_algebra.proofs.Order.{signs, lt_by, mul_le, pos-mul, pos-square, nonneg_of-pos}

not_pos-mul : (x y : ℤ) → pos 0 ≤ℤ x → y ≤ℤ pos 0 → pos 0 <ℤ (x *ℤ y) → ⊥
not_pos-mul x y h k l =
    let m : (y *ℤ x) ≤ℤ (pos 0 *ℤ x) = mul_le y (pos 0) x h k in
    let e : x *ℤ y ≡ y *ℤ x = ring (x ∷ y ∷ []) (search quotes depth 30) refl in
    let f : pos 0 *ℤ x ≡ pos 0 = ring (x ∷ []) (search quotes depth 30) refl in
    omega (arith, ints)

-- two numbers whose product is above 0 have one sign
pub same_sign : (x y : ℤ) → pos 0 <ℤ (x *ℤ y) → int_lt (pos 0) x ≡ int_lt (pos 0) y
same_sign x y h =
    by_lt_z (pos 0) x
    (λ l. by_lt_z (pos 0) y (λ m. lt_yes (pos 0) x l ∙ sym (lt_yes (pos 0) y m)) (λ m. absurd (not_pos-mul x y (nonneg_of-pos x l) m h)))
    (λ l. by_lt_z (pos 0) y (λ m. absurd (not_pos-mul y x (nonneg_of-pos y m) l (let e : x *ℤ y ≡ y *ℤ x = ring (x ∷ y ∷ []) (search quotes depth 30) refl in omega (arith, ints))))
    (λ m. lt_no (pos 0) x l ∙ sym (lt_no (pos 0) y m)))

pub neg_of-same : (x y : ℤ) → y ≤ℤ pos 0 → pos 0 <ℤ (x *ℤ y) → x <ℤ pos 0
neg_of-same x y h k = by_lt_z x (pos 0) (λ l. l) (λ l. absurd (not_pos-mul x y l h k))

pub not_zero-left : (x y : ℤ) → pos 0 <ℤ (x *ℤ y) → x ≡ pos 0 → ⊥
not_zero-left x y h e =
    let f : x *ℤ y ≡ pos 0 = by_one y e (ring (x ∷ y ∷ []) (search quotes depth 30) refl) in
    omega (arith, ints)

pub zero_or-not : (c : ℤ) → (c ≡ pos 0) ⊎ (c ≡ pos 0 → ⊥)
zero_or-not c =
    by_lt_z c (pos 0) (λ l. inr (λ e. absurd (omega (arith, ints))))
    (λ l. by_lt_z (pos 0) c (λ m. inr (λ e. absurd (omega (arith, ints)))) (λ m. inl (omega (arith, ints))))

-- and so have their products with a factor
pub same_sign-scaled : (c x y : ℤ) → pos 0 <ℤ (x *ℤ y) → int_lt (pos 0) (c *ℤ x) ≡ int_lt (pos 0) (c *ℤ y)
same_sign-scaled c x y h =
    elim (zero_or-not c) [
      | inl e ↦
          let l : c *ℤ x ≡ pos 0 = by_one x e (ring (c ∷ x ∷ []) (search quotes depth 30) refl) in
          let r : c *ℤ y ≡ pos 0 = by_one y e (ring (c ∷ y ∷ []) (search quotes depth 30) refl) in
          ap (int_lt (pos 0)) (l ∙ sym r)
      | inr n ↦
          same_sign (c *ℤ x) (c *ℤ y)
          (lt_by ((c *ℤ c) *ℤ (x *ℤ y)) (ring (c ∷ x ∷ y ∷ []) (search quotes depth 30) refl) (pos-mul (c *ℤ c) (x *ℤ y) (pos-square c n) h))
    ]

-- The two ends of pq stand on two sides of a column through a: f and g are their distances from it. t and u are the turns of p and q about
-- ab, d is the spread of a, and e is the width of ab
pub straddle : (t u f g d e pw qw : ℤ) → pos 0 <ℤ (t *ℤ u) → pos 0 <ℤ pw → pos 0 <ℤ qw → (f <ℤ pos 0) × (pos 0 ≤ℤ g) ⊎ (pos 0 ≤ℤ f) × (g <ℤ pos 0)
    → d *ℤ e ≡ u *ℤ f -ℤ t *ℤ g
    → pos 0 <ℤ ((d *ℤ (f *ℤ qw -ℤ g *ℤ pw)) *ℤ (e *ℤ t))
straddle t u f g d e pw qw h p q (inl x) k =
    let n : ℤ = neg_ℤ f in
    let m : pos 0 <ℤ n = omega (arith, ints, x.0) in
    let is : (d *ℤ (f *ℤ qw -ℤ g *ℤ pw)) *ℤ (e *ℤ t) ≡ ((t *ℤ u) *ℤ (n *ℤ n)) *ℤ qw +ℤ (((t *ℤ u) *ℤ (n *ℤ g)) *ℤ pw +ℤ (((t *ℤ t) *ℤ (n *ℤ g)) *ℤ qw +ℤ ((t *ℤ t) *ℤ (g *ℤ g)) *ℤ pw)) =
    by_one ((f *ℤ qw -ℤ g *ℤ pw) *ℤ t) k (ring (t ∷ u ∷ f ∷ g ∷ d ∷ e ∷ pw ∷ qw ∷ []) (search quotes depth 30) refl) in
    let y : pos 0 ≤ℤ g = x.1 in
    let all : pos 0 <ℤ (((t *ℤ u) *ℤ (n *ℤ n)) *ℤ qw +ℤ (((t *ℤ u) *ℤ (n *ℤ g)) *ℤ pw +ℤ (((t *ℤ t) *ℤ (n *ℤ g)) *ℤ qw +ℤ ((t *ℤ t) *ℤ (g *ℤ g)) *ℤ pw))) = search signs depth 12 in
    omega (arith, ints)
straddle t u f g d e pw qw h p q (inr x) k =
    let n : ℤ = neg_ℤ g in
    let m : pos 0 <ℤ n = omega (arith, ints, x.1) in
    let is : (d *ℤ (f *ℤ qw -ℤ g *ℤ pw)) *ℤ (e *ℤ t) ≡ ((t *ℤ t) *ℤ (n *ℤ n)) *ℤ pw +ℤ (((t *ℤ u) *ℤ (n *ℤ f)) *ℤ pw +ℤ (((t *ℤ t) *ℤ (n *ℤ f)) *ℤ qw +ℤ ((t *ℤ u) *ℤ (f *ℤ f)) *ℤ qw)) =
    by_one ((f *ℤ qw -ℤ g *ℤ pw) *ℤ t) k (ring (t ∷ u ∷ f ∷ g ∷ d ∷ e ∷ pw ∷ qw ∷ []) (search quotes depth 30) refl) in
    let y : pos 0 ≤ℤ f = x.0 in
    let s : pos 0 <ℤ (t *ℤ t) = pos-square t (not_zero-left t u h) in
    let all : pos 0 <ℤ (((t *ℤ t) *ℤ (n *ℤ n)) *ℤ pw +ℤ (((t *ℤ u) *ℤ (n *ℤ f)) *ℤ pw +ℤ (((t *ℤ t) *ℤ (n *ℤ f)) *ℤ qw +ℤ ((t *ℤ u) *ℤ (f *ℤ f)) *ℤ qw))) = search signs depth 12 in
    omega (arith, ints)

-- ---- from sides to products, for the laws' premises

-- two values with one sign
pub one_side_above : (x y : ℤ) → pos 0 <ℤ x → pos 0 <ℤ y → pos 0 <ℤ (x *ℤ y)
one_side_above x y h k = pos-mul x y h k

pub one_side_below : (x y : ℤ) → x <ℤ pos 0 → y <ℤ pos 0 → pos 0 <ℤ (x *ℤ y)
one_side_below x y h k =
    lt_by (neg_ℤ x *ℤ neg_ℤ y) (ring (x ∷ y ∷ []) (search quotes depth 30) refl)
    (pos-mul (neg_ℤ x) (neg_ℤ y) (omega (arith, ints)) (omega (arith, ints)))
