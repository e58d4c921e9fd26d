-- Uses of the order lemmas: `lt_by` and `le_by` with `search signs`, factors that are cancelled, squares that are compared.
use Rattle.std.proofs.Common.{◌≡◌, true, ◌≤◌, [], ◌∷◌, arith, refl}
use Rattle.std.proofs.lemmas.Int.{ints, by_lt_z}
use lib.IntN.{ℤ, pos, ◌+ℤ◌, ◌-ℤ◌, ◌*ℤ◌, neg_ℤ, nat_abs}
use lib.Signed.{◌≤ℤ◌, ◌<ℤ◌}
use Rattle.bc_algebra.proofs.Ring.{ring, quotes, by_two}
use Rattle.bc_algebra.proofs.Order.{lt_by, le_by, gap_nonneg, signs, mul_le, cancel_lt, cancel_eq, neg-mul, nonneg-square, squares_zero, abs_square_le, cauchy}

-- ---- signs
-- the square of the distance between two different places is above 0
distance-pos : (ax ay bx by : ℤ) → (ax ≡ bx → ay ≡ by → ⊥) → pos 0 <ℤ ((ax -ℤ bx) *ℤ (ax -ℤ bx) +ℤ (ay -ℤ by) *ℤ (ay -ℤ by))
distance-pos ax ay bx by differ =
    let p = nonneg-square (ax -ℤ bx) in
    let q = nonneg-square (ay -ℤ by) in
    by_lt_z (pos 0) ((ax -ℤ bx) *ℤ (ax -ℤ bx) +ℤ (ay -ℤ by) *ℤ (ay -ℤ by)) (λ above. above)
    (λ not_above.
    let none = squares_zero (ax -ℤ bx) (ay -ℤ by) (omega (arith, ints)) in
    let x : ax ≡ bx = omega (arith, ints, none.0) in
    let y : ay ≡ by = omega (arith, ints, none.1) in
    absurd (differ x y))

-- for two places a and b on one circle, every point strictly between them on their segment is strictly in the disc: the point
-- is i a + j b with the weight i + j, and the circle has the centre c and the squared radius r2
chord-in_disc : (ax ay bx by cx cy r2 i j : ℤ) → (ax ≡ bx → ay ≡ by → ⊥) →
    (ax -ℤ cx) *ℤ (ax -ℤ cx) +ℤ (ay -ℤ cy) *ℤ (ay -ℤ cy) ≡ r2 →
    (bx -ℤ cx) *ℤ (bx -ℤ cx) +ℤ (by -ℤ cy) *ℤ (by -ℤ cy) ≡ r2 →
    pos 0 <ℤ i → pos 0 <ℤ j →
    let w : ℤ = i +ℤ j in
    let x : ℤ = i *ℤ ax +ℤ j *ℤ bx -ℤ cx *ℤ w in
    let y : ℤ = i *ℤ ay +ℤ j *ℤ by -ℤ cy *ℤ w in
    (x *ℤ x +ℤ y *ℤ y) <ℤ (r2 *ℤ (w *ℤ w))
chord-in_disc ax ay bx by cx cy r2 i j differ on_a on_b hi hj =
    let apart = distance-pos ax ay bx by differ in
    lt_by (i *ℤ j *ℤ ((ax -ℤ bx) *ℤ (ax -ℤ bx) +ℤ (ay -ℤ by) *ℤ (ay -ℤ by)))
    (by_two (neg_ℤ (i *ℤ (i +ℤ j))) (neg_ℤ (j *ℤ (i +ℤ j))) on_a on_b
    (ring (ax ∷ ay ∷ bx ∷ by ∷ cx ∷ cy ∷ r2 ∷ i ∷ j ∷ []) (search quotes depth 30) (refl {a = true})))
    (search signs depth 12)

-- where two points are in a closed half-plane, so is their mediant
half_plane-mediant : (a b d x y w x' y' w' : ℤ) → (a *ℤ x +ℤ b *ℤ y) ≤ℤ (d *ℤ w) → (a *ℤ x' +ℤ b *ℤ y') ≤ℤ (d *ℤ w') → (a *ℤ (x +ℤ x') +ℤ b *ℤ (y +ℤ y')) ≤ℤ (d *ℤ (w +ℤ w'))
half_plane-mediant a b d x y w x' y' w' h k =
    le_by ((d *ℤ w -ℤ (a *ℤ x +ℤ b *ℤ y)) +ℤ (d *ℤ w' -ℤ (a *ℤ x' +ℤ b *ℤ y')))
    (ring (a ∷ b ∷ d ∷ x ∷ y ∷ w ∷ x' ∷ y' ∷ w' ∷ []) (search quotes depth 30) refl)
    (search (signs, gap_nonneg _ _ h, gap_nonneg _ _ k) depth 12)

-- the sign of a longer term
sign-longer : (a b w : ℤ) → pos 0 <ℤ w → pos 0 ≤ℤ b → pos 0 <ℤ (w *ℤ (a *ℤ a +ℤ w) +ℤ pos 3 *ℤ b)
sign-longer a b w h k = search signs depth 12

-- ---- factors
-- a point right of a line stays right of it under a factor above 0
right-scaled : (a b d x y w k : ℤ) → pos 0 <ℤ k → (a *ℤ x +ℤ b *ℤ y -ℤ d *ℤ w) <ℤ pos 0 → (a *ℤ (k *ℤ x) +ℤ b *ℤ (k *ℤ y) -ℤ d *ℤ (k *ℤ w)) <ℤ pos 0
right-scaled a b d x y w k hk h =
    let e : a *ℤ (k *ℤ x) +ℤ b *ℤ (k *ℤ y) -ℤ d *ℤ (k *ℤ w) ≡ (a *ℤ x +ℤ b *ℤ y -ℤ d *ℤ w) *ℤ k =
    ring (a ∷ b ∷ d ∷ x ∷ y ∷ w ∷ k ∷ []) (search quotes depth 30) refl in
    rw e (neg-mul (a *ℤ x +ℤ b *ℤ y -ℤ d *ℤ w) k hk h)

-- and comes from one right of it
right_of-scaled : (a b d x y w k : ℤ) → pos 0 <ℤ k → (a *ℤ (k *ℤ x) +ℤ b *ℤ (k *ℤ y)) <ℤ (d *ℤ (k *ℤ w)) → (a *ℤ x +ℤ b *ℤ y) <ℤ (d *ℤ w)
right_of-scaled a b d x y w k hk h =
    let e : a *ℤ (k *ℤ x) +ℤ b *ℤ (k *ℤ y) ≡ (a *ℤ x +ℤ b *ℤ y) *ℤ k = ring (a ∷ b ∷ x ∷ y ∷ k ∷ []) (search quotes depth 30) refl in
    let f : d *ℤ (k *ℤ w) ≡ (d *ℤ w) *ℤ k = ring (d ∷ w ∷ k ∷ []) (search quotes depth 30) refl in
    let h' = rw (e, f) at h in
    cancel_lt (a *ℤ x +ℤ b *ℤ y) (d *ℤ w) k (omega (arith, ints)) h'

-- two points with one denominator that are the same point have the same numbers
number-same : (x x' w : ℤ) → pos 0 <ℤ w → x *ℤ w ≡ x' *ℤ w → x ≡ x'
number-same x x' w h e = cancel_eq x x' w h e

-- ---- squares
-- a place of a disc is within the disc's reach along an axis
reach-along : (x y r2 m : ℤ) → pos 0 ≤ℤ m → r2 ≤ℤ (m *ℤ m) → (x *ℤ x +ℤ y *ℤ y) ≤ℤ r2 → nat_abs x ≤ nat_abs m
reach-along x y r2 m hm reaches in_disc =
    let q = nonneg-square y in
    abs_square_le x m hm (omega (arith, ints))

-- the square of a line's form at a place of a disc round 0 is at most the square of the normal times the squared radius
form-near : (a b x y r2 : ℤ) → (x *ℤ x +ℤ y *ℤ y) ≤ℤ r2 → ((a *ℤ x +ℤ b *ℤ y) *ℤ (a *ℤ x +ℤ b *ℤ y)) ≤ℤ (r2 *ℤ (a *ℤ a +ℤ b *ℤ b))
form-near a b x y r2 in_disc =
    let c = cauchy a b x y in
    let normal : pos 0 ≤ℤ (a *ℤ a +ℤ b *ℤ b) = search signs depth 12 in
    let m = mul_le (x *ℤ x +ℤ y *ℤ y) r2 (a *ℤ a +ℤ b *ℤ b) normal in_disc in
    let e : (a *ℤ a +ℤ b *ℤ b) *ℤ (x *ℤ x +ℤ y *ℤ y) ≡ (x *ℤ x +ℤ y *ℤ y) *ℤ (a *ℤ a +ℤ b *ℤ b) = ring (a ∷ b ∷ x ∷ y ∷ []) (search quotes depth 30) (refl {a = true}) in
    le_trans _ _ _ (rw e at c) m
  where
    le_trans : (p q r : ℤ) → p ≤ℤ q → q ≤ℤ r → p ≤ℤ r
    le_trans p q r h k = omega (arith, ints)
