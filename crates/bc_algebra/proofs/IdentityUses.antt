-- Uses of `ring`, `by_one`, `by_two` and `by_three`: identities of the plane and of space.
use Rattle.std.proofs.Common.{◌≡◌, inl, inr, ◌≢◌, [], ◌∷◌, refl}
use lib.IntN.{ℤ, pos, ◌+ℤ◌, ◌-ℤ◌, ◌*ℤ◌, neg_ℤ}
use Rattle.bc_algebra.proofs.Ring.{ring, quotes, by_one, by_two, by_three}
use Rattle.bc_algebra.proofs.Order.{eq_by, zero_factor}

-- ---- with no premise
-- the value of a line at a mediant is the sum of its values
value-mediant : (a b d x y w x' y' w' : ℤ) → a *ℤ (x +ℤ x') +ℤ b *ℤ (y +ℤ y') -ℤ d *ℤ (w +ℤ w') ≡ (a *ℤ x +ℤ b *ℤ y -ℤ d *ℤ w) +ℤ (a *ℤ x' +ℤ b *ℤ y' -ℤ d *ℤ w')
value-mediant a b d x y w x' y' w' =
    ring (a ∷ b ∷ d ∷ x ∷ y ∷ w ∷ x' ∷ y' ∷ w' ∷ []) (search quotes depth 30) refl

-- the squares of the inner product and of the determinant of two vectors add up to the product of their squares
lagrange : (a b c d : ℤ) → (a *ℤ a +ℤ b *ℤ b) *ℤ (c *ℤ c +ℤ d *ℤ d) ≡ (a *ℤ c +ℤ b *ℤ d) *ℤ (a *ℤ c +ℤ b *ℤ d) +ℤ (a *ℤ d -ℤ b *ℤ c) *ℤ (a *ℤ d -ℤ b *ℤ c)
lagrange a b c d = ring (a ∷ b ∷ c ∷ d ∷ []) (search quotes depth 30) refl

-- the common point of two lines, over the determinant of their normals, satisfies both
meet-on_both : (a b d a' b' d' : ℤ) →
    let x : ℤ = d *ℤ b' -ℤ d' *ℤ b in
    let y : ℤ = a *ℤ d' -ℤ a' *ℤ d in
    let w : ℤ = a *ℤ b' -ℤ a' *ℤ b in
    (a *ℤ x +ℤ b *ℤ y ≡ d *ℤ w) × (a' *ℤ x +ℤ b' *ℤ y ≡ d' *ℤ w)
meet-on_both a b d a' b' d' =
    (ring (a ∷ b ∷ d ∷ a' ∷ b' ∷ d' ∷ []) (search quotes depth 30) refl, ring (a ∷ b ∷ d ∷ a' ∷ b' ∷ d' ∷ []) (search quotes depth 30) refl)

-- ---- from equations times factors
-- a point on a line stays on it under a factor
line-scaled : (a b d x y w k : ℤ) → a *ℤ x +ℤ b *ℤ y ≡ d *ℤ w → a *ℤ (k *ℤ x) +ℤ b *ℤ (k *ℤ y) ≡ d *ℤ (k *ℤ w)
line-scaled a b d x y w k on =
    by_one k on (ring (a ∷ b ∷ d ∷ x ∷ y ∷ w ∷ k ∷ []) (search quotes depth 30) refl)

-- where two lines meet, the determinant of their normals times x is forced
meet-forced : (a b d a' b' d' x y w : ℤ) → a *ℤ x +ℤ b *ℤ y ≡ d *ℤ w → a' *ℤ x +ℤ b' *ℤ y ≡ d' *ℤ w → (a *ℤ b' -ℤ a' *ℤ b) *ℤ x ≡ (d *ℤ b' -ℤ d' *ℤ b) *ℤ w
meet-forced a b d a' b' d' x y w on on' =
    by_two b' (neg_ℤ b) on on' (ring (a ∷ b ∷ d ∷ a' ∷ b' ∷ d' ∷ x ∷ y ∷ w ∷ []) (search quotes depth 30) refl)

-- over the place i P + j Q of an edge from P to Q, whose weight is i + j, a plane through both that is not vertical has the
-- height i P.z + j Q.z: its own coefficients do not matter
height-on_edge : (a b c d px py pz qx qy qz i j z : ℤ) → c ≢ pos 0 → a *ℤ px +ℤ b *ℤ py +ℤ c *ℤ pz ≡ d → a *ℤ qx +ℤ b *ℤ qy +ℤ c *ℤ qz ≡ d →
    a *ℤ (i *ℤ px +ℤ j *ℤ qx) +ℤ b *ℤ (i *ℤ py +ℤ j *ℤ qy) +ℤ c *ℤ z ≡ d *ℤ (i +ℤ j) →
    z ≡ i *ℤ pz +ℤ j *ℤ qz
height-on_edge a b c d px py pz qx qy qz i j z not_vertical on_p on_q on_z =
    let gap : c *ℤ ((i *ℤ pz +ℤ j *ℤ qz) -ℤ z) ≡ pos 0 =
    by_three i j (neg_ℤ (pos 1)) on_p on_q on_z (ring (a ∷ b ∷ c ∷ d ∷ px ∷ py ∷ pz ∷ qx ∷ qy ∷ qz ∷ i ∷ j ∷ z ∷ []) (search quotes depth 30) refl) in
    elim (zero_factor c ((i *ℤ pz +ℤ j *ℤ qz) -ℤ z) gap) [
      | inl vertical ↦ absurd (not_vertical vertical)
      | inr none ↦ eq_by ((i *ℤ pz +ℤ j *ℤ qz) -ℤ z) refl none
    ]

-- so two planes through an edge that are not vertical have the same height over each point of the edge's projection
height-same : (a b c d a' b' c' d' px py pz qx qy qz i j z z' : ℤ) → c ≢ pos 0 → c' ≢ pos 0 →
    a *ℤ px +ℤ b *ℤ py +ℤ c *ℤ pz ≡ d → a *ℤ qx +ℤ b *ℤ qy +ℤ c *ℤ qz ≡ d →
    a' *ℤ px +ℤ b' *ℤ py +ℤ c' *ℤ pz ≡ d' → a' *ℤ qx +ℤ b' *ℤ qy +ℤ c' *ℤ qz ≡ d' →
    a *ℤ (i *ℤ px +ℤ j *ℤ qx) +ℤ b *ℤ (i *ℤ py +ℤ j *ℤ qy) +ℤ c *ℤ z ≡ d *ℤ (i +ℤ j) →
    a' *ℤ (i *ℤ px +ℤ j *ℤ qx) +ℤ b' *ℤ (i *ℤ py +ℤ j *ℤ qy) +ℤ c' *ℤ z' ≡ d' *ℤ (i +ℤ j) →
    z ≡ z'
height-same a b c d a' b' c' d' px py pz qx qy qz i j z z' n n' p q p' q' on on' =
    let e = height-on_edge a b c d px py pz qx qy qz i j z n p q on in
    let e' = height-on_edge a' b' c' d' px py pz qx qy qz i j z' n' p' q' on' in
    cc
