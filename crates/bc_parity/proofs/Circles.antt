-- Facts of plane geometry over whole numbers: the circle is round the origin, its ends are (ax, ay) and (bx, by), and the point is (x, y).
use Rattle.std.proofs.Common.{◌≡◌, [], ◌∷◌, refl, arith, ◌⊎◌, inl, inr}
use Rattle.std.proofs.lemmas.Int.{ints, by_lt_z}
use lib.IntN.{ℤ, pos, ◌+ℤ◌, ◌-ℤ◌, ◌*ℤ◌, neg_ℤ}
use lib.Signed.{◌<ℤ◌, ◌≤ℤ◌}
use Rattle.bc_algebra.proofs.Ring.{quotes, ring, by_one}
use Rattle.bc_algebra.proofs.Order.{le_by, lt_by, gap_nonneg, gap_pos, square_lt, mul_le, nonneg-mul, pos-mul, nonneg-square, nonneg-add, pos-add_left}

abbrev pub cross : ℤ → ℤ → ℤ → ℤ → ℤ → ℤ → ℤ
cross ax ay bx by x y = (bx -ℤ ax) *ℤ (y -ℤ ay) -ℤ (by -ℤ ay) *ℤ (x -ℤ ax)

-- ---- inside: a and p on two sides of b's column. There their segment is in the disc, so below b or above b

-- the segment's height over b's column, times x - ax
abbrev height : ℤ → ℤ → ℤ → ℤ → ℤ → ℤ
height ax ay bx x y = (x -ℤ bx) *ℤ ay +ℤ (bx -ℤ ax) *ℤ y

lower_than : (ax ay bx by x y : ℤ) → bx *ℤ bx +ℤ by *ℤ by ≡ ax *ℤ ax +ℤ ay *ℤ ay → (x *ℤ x +ℤ y *ℤ y) <ℤ (ax *ℤ ax +ℤ ay *ℤ ay) → pos 0 ≤ℤ ((x -ℤ bx) *ℤ (bx -ℤ ax)) → pos 0 <ℤ ((bx -ℤ ax) *ℤ (x -ℤ ax)) → (height ax ay bx x y *ℤ height ax ay bx x y) <ℤ ((by *ℤ (x -ℤ ax)) *ℤ (by *ℤ (x -ℤ ax)))
lower_than ax ay bx by x y e i u v =
    lt_by (((bx -ℤ ax) *ℤ (x -ℤ ax)) *ℤ (ax *ℤ ax +ℤ ay *ℤ ay -ℤ (x *ℤ x +ℤ y *ℤ y)) +ℤ ((x -ℤ bx) *ℤ (bx -ℤ ax)) *ℤ ((ax -ℤ x) *ℤ (ax -ℤ x) +ℤ (ay -ℤ y) *ℤ (ay -ℤ y)))
    (by_one ((x -ℤ ax) *ℤ (x -ℤ ax)) e (ring (ax ∷ ay ∷ bx ∷ by ∷ x ∷ y ∷ []) (search quotes depth 30) refl))
    (pos-add_left _ _ (pos-mul _ _ v (gap_pos _ _ i)) (nonneg-mul _ _ u (nonneg-add _ _ (nonneg-square _) (nonneg-square _))))

cross_is : (ax ay bx by x y : ℤ) → cross ax ay bx by x y ≡ height ax ay bx x y -ℤ by *ℤ (x -ℤ ax)
cross_is ax ay bx by x y = ring (ax ∷ ay ∷ bx ∷ by ∷ x ∷ y ∷ []) (search quotes depth 30) refl

below_square : (h k : ℤ) → (h *ℤ h) <ℤ (k *ℤ k) → pos 0 ≤ℤ k → h <ℤ k
below_square h k l s = square_lt h k s l

above_square : (h k : ℤ) → (h *ℤ h) <ℤ (k *ℤ k) → k ≤ℤ pos 0 → k <ℤ h
above_square h k l s =
    let e : neg_ℤ h *ℤ neg_ℤ h ≡ h *ℤ h = ring (h ∷ []) (search quotes depth 30) refl in
    let f : neg_ℤ k *ℤ neg_ℤ k ≡ k *ℤ k = ring (k ∷ []) (search quotes depth 30) refl in
    let m : neg_ℤ h <ℤ neg_ℤ k = square_lt (neg_ℤ h) (neg_ℤ k) (omega (arith, ints)) (rw (e, f) l) in
    omega (arith, ints)

-- a is left of b, p in b's column or right of it
pub right_if_upper : (ax ay bx by x y : ℤ) → bx *ℤ bx +ℤ by *ℤ by ≡ ax *ℤ ax +ℤ ay *ℤ ay → (x *ℤ x +ℤ y *ℤ y) <ℤ (ax *ℤ ax +ℤ ay *ℤ ay) → ax <ℤ bx → bx ≤ℤ x → pos 0 ≤ℤ by → cross ax ay bx by x y <ℤ pos 0
right_if_upper ax ay bx by x y e i l m s =
    let q = lower_than ax ay bx by x y e i (nonneg-mul _ _ (gap_nonneg _ _ m) (omega (arith, ints))) (pos-mul _ _ (gap_pos _ _ l) (omega (arith, ints))) in
    let t : pos 0 ≤ℤ (by *ℤ (x -ℤ ax)) = nonneg-mul _ _ s (omega (arith, ints)) in
    let r = below_square _ _ q t in
    let c = cross_is ax ay bx by x y in
    rw c (omega (arith, ints))

neg_of : (a w : ℤ) → a <ℤ pos 0 → pos 0 ≤ℤ w → (a *ℤ w) ≤ℤ pos 0
neg_of a w h k = let m = mul_le a (pos 0) w k (omega (arith, ints)) in omega (arith, ints)

pub left_if_lower : (ax ay bx by x y : ℤ) → bx *ℤ bx +ℤ by *ℤ by ≡ ax *ℤ ax +ℤ ay *ℤ ay → (x *ℤ x +ℤ y *ℤ y) <ℤ (ax *ℤ ax +ℤ ay *ℤ ay) → ax <ℤ bx → bx ≤ℤ x → by <ℤ pos 0 → pos 0 <ℤ cross ax ay bx by x y
left_if_lower ax ay bx by x y e i l m s =
    let q = lower_than ax ay bx by x y e i (nonneg-mul _ _ (gap_nonneg _ _ m) (omega (arith, ints))) (pos-mul _ _ (gap_pos _ _ l) (omega (arith, ints))) in
    let t : (by *ℤ (x -ℤ ax)) ≤ℤ pos 0 = neg_of _ _ s (omega (arith, ints)) in
    let r = above_square _ _ q t in
    let c = cross_is ax ay bx by x y in
    rw c (omega (arith, ints))

neg-neg : (a b : ℤ) → a <ℤ pos 0 → b <ℤ pos 0 → pos 0 <ℤ (a *ℤ b)
neg-neg a b h k =
    let m : pos 0 <ℤ (neg_ℤ a *ℤ neg_ℤ b) = pos-mul (neg_ℤ a) (neg_ℤ b) (omega (arith, ints)) (omega (arith, ints)) in
    let e : neg_ℤ a *ℤ neg_ℤ b ≡ a *ℤ b = ring (a ∷ b ∷ []) (search quotes depth 30) refl in
    rw e at m

nonneg_of : (a : ℤ) → pos 0 <ℤ a → pos 0 ≤ℤ a
nonneg_of a h = omega (arith, ints)

gap_neg : (a b : ℤ) → a <ℤ b → (a -ℤ b) <ℤ pos 0
gap_neg a b h = omega (arith, ints)

over : (a b c : ℤ) → a <ℤ b → b <ℤ c → a <ℤ c
over a b c h k = omega (arith, ints)

reaches : (a b c : ℤ) → a ≤ℤ b → b <ℤ c → a <ℤ c
reaches a b c h k = omega (arith, ints)

-- a is right of b, p left of b's column
pub left_if_upper : (ax ay bx by x y : ℤ) → bx *ℤ bx +ℤ by *ℤ by ≡ ax *ℤ ax +ℤ ay *ℤ ay → (x *ℤ x +ℤ y *ℤ y) <ℤ (ax *ℤ ax +ℤ ay *ℤ ay) → bx <ℤ ax → x <ℤ bx → pos 0 ≤ℤ by → pos 0 <ℤ cross ax ay bx by x y
left_if_upper ax ay bx by x y e i l m s =
    let q = lower_than ax ay bx by x y e i (nonneg_of _ (neg-neg _ _ (gap_neg x bx m) (gap_neg bx ax l))) (neg-neg _ _ (gap_neg bx ax l) (gap_neg x ax (over x bx ax m l))) in
    let t : ((x -ℤ ax) *ℤ by) ≤ℤ pos 0 = neg_of _ _ (gap_neg x ax (over x bx ax m l)) s in
    let r = above_square _ _ q (omega (arith, ints)) in
    let c = cross_is ax ay bx by x y in
    rw c (omega (arith, ints))

pub right_if_lower : (ax ay bx by x y : ℤ) → bx *ℤ bx +ℤ by *ℤ by ≡ ax *ℤ ax +ℤ ay *ℤ ay → (x *ℤ x +ℤ y *ℤ y) <ℤ (ax *ℤ ax +ℤ ay *ℤ ay) → bx <ℤ ax → x <ℤ bx → by <ℤ pos 0 → cross ax ay bx by x y <ℤ pos 0
right_if_lower ax ay bx by x y e i l m s =
    let q = lower_than ax ay bx by x y e i (nonneg_of _ (neg-neg _ _ (gap_neg x bx m) (gap_neg bx ax l))) (neg-neg _ _ (gap_neg bx ax l) (gap_neg x ax (over x bx ax m l))) in
    let t : pos 0 <ℤ (by *ℤ (x -ℤ ax)) = neg-neg _ _ s (gap_neg x ax (over x bx ax m l)) in
    let r = below_square _ _ q (nonneg_of _ t) in
    let c = cross_is ax ay bx by x y in
    rw c (omega (arith, ints))

-- ---- outside: p's column meets the chord, which is in the disc there

-- the chord's height over p's column, times bx - ax
abbrev level : ℤ → ℤ → ℤ → ℤ → ℤ → ℤ
level ax ay bx by x = (bx -ℤ x) *ℤ ay +ℤ (x -ℤ ax) *ℤ by

flatter_than : (ax ay bx by x y : ℤ) → bx *ℤ bx +ℤ by *ℤ by ≡ ax *ℤ ax +ℤ ay *ℤ ay → (ax *ℤ ax +ℤ ay *ℤ ay) <ℤ (x *ℤ x +ℤ y *ℤ y) → ax ≤ℤ x → x <ℤ bx → (level ax ay bx by x *ℤ level ax ay bx by x) <ℤ (((bx -ℤ ax) *ℤ y) *ℤ ((bx -ℤ ax) *ℤ y))
flatter_than ax ay bx by x y e o l m =
    lt_by (((bx -ℤ ax) *ℤ (bx -ℤ ax)) *ℤ (x *ℤ x +ℤ y *ℤ y -ℤ (ax *ℤ ax +ℤ ay *ℤ ay)) +ℤ ((bx -ℤ x) *ℤ (x -ℤ ax)) *ℤ ((ax -ℤ bx) *ℤ (ax -ℤ bx) +ℤ (ay -ℤ by) *ℤ (ay -ℤ by)))
    (by_one (neg_ℤ ((x -ℤ ax) *ℤ (bx -ℤ ax))) e (ring (ax ∷ ay ∷ bx ∷ by ∷ x ∷ y ∷ []) (search quotes depth 30) refl))
    (pos-add_left _ _ (pos-mul _ _ (pos-mul _ _ (gap_pos ax bx (reaches ax x bx l m)) (gap_pos ax bx (reaches ax x bx l m))) (gap_pos _ _ o)) (nonneg-mul _ _ (nonneg-mul _ _ (nonneg_of _ (gap_pos x bx m)) (gap_nonneg _ _ l)) (nonneg-add _ _ (nonneg-square _) (nonneg-square _))))

cross_of : (ax ay bx by x y : ℤ) → cross ax ay bx by x y ≡ (bx -ℤ ax) *ℤ y -ℤ level ax ay bx by x
cross_of ax ay bx by x y = ring (ax ∷ ay ∷ bx ∷ by ∷ x ∷ y ∷ []) (search quotes depth 30) refl

pub left_if_high : (ax ay bx by x y : ℤ) → bx *ℤ bx +ℤ by *ℤ by ≡ ax *ℤ ax +ℤ ay *ℤ ay → (ax *ℤ ax +ℤ ay *ℤ ay) <ℤ (x *ℤ x +ℤ y *ℤ y) → ax ≤ℤ x → x <ℤ bx → pos 0 <ℤ y → pos 0 <ℤ cross ax ay bx by x y
left_if_high ax ay bx by x y e o l m s =
    let q = flatter_than ax ay bx by x y e o l m in
    let t : pos 0 <ℤ ((bx -ℤ ax) *ℤ y) = pos-mul _ _ (gap_pos ax bx (reaches ax x bx l m)) s in
    let r = below_square _ _ q (nonneg_of _ t) in
    let c = cross_of ax ay bx by x y in
    rw c (omega (arith, ints))

pub right_if_low : (ax ay bx by x y : ℤ) → bx *ℤ bx +ℤ by *ℤ by ≡ ax *ℤ ax +ℤ ay *ℤ ay → (ax *ℤ ax +ℤ ay *ℤ ay) <ℤ (x *ℤ x +ℤ y *ℤ y) → ax ≤ℤ x → x <ℤ bx → y ≤ℤ pos 0 → cross ax ay bx by x y <ℤ pos 0
right_if_low ax ay bx by x y e o l m s =
    let q = flatter_than ax ay bx by x y e o l m in
    let t : (y *ℤ (bx -ℤ ax)) ≤ℤ pos 0 = let m = mul_le y (pos 0) (bx -ℤ ax) (omega (arith, ints)) s in omega (arith, ints) in
    let r = above_square _ _ q (omega (arith, ints)) in
    let c = cross_of ax ay bx by x y in
    rw c (omega (arith, ints))

-- a column between two columns of the circle meets the circle, and touches it at the left extreme only
pub between_meets : (ax bx x r : ℤ) → (ax *ℤ ax) ≤ℤ r → (bx *ℤ bx) ≤ℤ r → ax ≤ℤ x → x <ℤ bx → ((x *ℤ x) <ℤ r) ⊎ ((x *ℤ x ≡ r) × (x <ℤ pos 0))
between_meets ax bx x r h k l m =
    by_lt_z x (pos 0)
    (λ n.
    let t : pos 0 ≤ℤ ((x -ℤ ax) *ℤ (neg_ℤ x -ℤ ax)) = nonneg-mul _ _ (gap_nonneg _ _ l) (omega (arith, ints)) in
    let f : (x *ℤ x) ≤ℤ (ax *ℤ ax) = le_by _ (ring (ax ∷ x ∷ []) (search quotes depth 30) refl) t in
    by_lt_z (x *ℤ x) r (λ u. inl u) (λ u. inr (omega (arith, ints), n)))
    (λ n.
    let t : pos 0 <ℤ ((bx -ℤ x) *ℤ (bx +ℤ x)) = pos-mul _ _ (gap_pos _ _ m) (omega (arith, ints)) in
    let f : (x *ℤ x) <ℤ (bx *ℤ bx) = lt_by _ (ring (bx ∷ x ∷ []) (search quotes depth 30) refl) t in
    inl (omega (arith, ints)))
