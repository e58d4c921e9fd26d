-- The order of the integers and products: signs of sums, products and squares, `search signs`, factors that are put on or
-- cancelled, squares that are compared, and Cauchy's inequality.
use Rattle.std.proofs.Common.{◌≡◌, ℕ, zero, suc, ◌*◌, ◌<◌, ◌≤◌, ◌⊎◌, inl, inr, [], ◌∷◌, arith, refl}
use Rattle.std.proofs.lemmas.Int.{ints, by_lt_z}
use lib.IntN.{ℤ, pos, negsuc, ◌+ℤ◌, ◌-ℤ◌, ◌*ℤ◌, neg_ℤ, nat_abs}
use lib.Signed.{◌≤ℤ◌, ◌<ℤ◌}
use Rattle.bc_algebra.proofs.Ring.{ring, quotes}

-- ---- by the difference, which `ring` rewrites as a sum of terms of known sign
-- a is below b, where their difference is some p above 0
pub lt_by : {a b : ℤ} (p : ℤ) → b -ℤ a ≡ p → pos 0 <ℤ p → a <ℤ b
lt_by {a} {b} p e h = omega (arith, ints)

-- a is at most b, where their difference is some p that is not negative
pub le_by : {a b : ℤ} (p : ℤ) → b -ℤ a ≡ p → pos 0 ≤ℤ p → a ≤ℤ b
le_by {a} {b} p e h = omega (arith, ints)

-- a is b, where their difference is some p that is 0
pub eq_by : {a b : ℤ} (p : ℤ) → b -ℤ a ≡ p → p ≡ pos 0 → a ≡ b
eq_by {a} {b} p e h = omega (arith, ints)

-- the difference of two numbers in strict order is above 0
pub gap_pos : (a b : ℤ) → a <ℤ b → pos 0 <ℤ (b -ℤ a)
gap_pos a b h = omega (arith, ints)

-- the difference of two numbers in order is not negative
pub gap_nonneg : (a b : ℤ) → a ≤ℤ b → pos 0 ≤ℤ (b -ℤ a)
gap_nonneg a b h = omega (arith, ints)

-- what is above 0 is not negative
pub nonneg_of-pos : (a : ℤ) → pos 0 <ℤ a → pos 0 ≤ℤ a
nonneg_of-pos a h = omega (arith, ints)

-- ---- signs
-- a natural number is not negative
pub nonneg-pos : (n : ℕ) → pos 0 ≤ℤ pos n
nonneg-pos n = omega (arith, ints)

-- a natural number other than 0 is above 0
pub pos-pos : (n : ℕ) → pos 0 <ℤ pos (suc n)
pos-pos n = omega (arith, ints)

-- a sum of two that are not negative is not negative
pub nonneg-add : (a b : ℤ) → pos 0 ≤ℤ a → pos 0 ≤ℤ b → pos 0 ≤ℤ (a +ℤ b)
nonneg-add a b h k = omega (arith, ints)

-- a sum is above 0, where its left part is and its right part is not negative
pub pos-add_left : (a b : ℤ) → pos 0 <ℤ a → pos 0 ≤ℤ b → pos 0 <ℤ (a +ℤ b)
pos-add_left a b h k = omega (arith, ints)

-- a sum is above 0, where its right part is and its left part is not negative
pub pos-add_right : (a b : ℤ) → pos 0 ≤ℤ a → pos 0 <ℤ b → pos 0 <ℤ (a +ℤ b)
pos-add_right a b h k = omega (arith, ints)

-- a product of two that are not negative is not negative
pub nonneg-mul : (a b : ℤ) → pos 0 ≤ℤ a → pos 0 ≤ℤ b → pos 0 ≤ℤ (a *ℤ b)
nonneg-mul (pos a) (pos b) h k = omega (arith, ints)
nonneg-mul (pos a) (negsuc b) h k = absurd (omega (arith, ints))
nonneg-mul (negsuc a) b h k = absurd (omega (arith, ints))

-- a product of two natural numbers above 0 is above 0
nat_pos : (a b : ℕ) → 0 < a → 0 < b → 0 < a * b
nat_pos a b h k = grind arith

-- a product of two that are above 0 is above 0
pub pos-mul : (a b : ℤ) → pos 0 <ℤ a → pos 0 <ℤ b → pos 0 <ℤ (a *ℤ b)
pos-mul (pos a) (pos b) h k =
    let p : 0 < a = omega (arith, ints) in
    let q : 0 < b = omega (arith, ints) in
    let r : 0 < a * b = nat_pos a b p q in
    omega (arith, ints)
pos-mul (pos a) (negsuc b) h k = absurd (omega (arith, ints))
pos-mul (negsuc a) b h k = absurd (omega (arith, ints))

-- a square is not negative
pub nonneg-square : (a : ℤ) → pos 0 ≤ℤ (a *ℤ a)
nonneg-square (pos a) = omega (arith, ints)
nonneg-square (negsuc a) = omega (arith, ints)

-- the square of a number other than 0 is above 0
pub pos-square : (a : ℤ) → (a ≡ pos 0 → ⊥) → pos 0 <ℤ (a *ℤ a)
pos-square (pos zero) n = absurd (n refl)
pos-square (pos (suc a)) n = omega (arith, ints)
pos-square (negsuc a) n = omega (arith, ints)

-- for `search`: that a term is not negative, or is above 0
pub ruleset signs = (nonneg-square, nonneg-pos, pos-pos, nonneg-add, nonneg-mul, pos-mul, pos-add_left, pos-add_right, nonneg_of-pos)

-- ---- a factor
-- a factor above 0 keeps a strict order
pub mul_lt : (a b w : ℤ) → pos 0 <ℤ w → a <ℤ b → (a *ℤ w) <ℤ (b *ℤ w)
mul_lt a b w h k =
    lt_by ((b -ℤ a) *ℤ w) (ring (a ∷ b ∷ w ∷ []) (search quotes depth 20) refl) (pos-mul (b -ℤ a) w (gap_pos a b k) h)

-- a factor that is not negative keeps an order
pub mul_le : (a b w : ℤ) → pos 0 ≤ℤ w → a ≤ℤ b → (a *ℤ w) ≤ℤ (b *ℤ w)
mul_le a b w h k =
    le_by ((b -ℤ a) *ℤ w) (ring (a ∷ b ∷ w ∷ []) (search quotes depth 20) refl) (nonneg-mul (b -ℤ a) w (gap_nonneg a b k) h)

-- a factor that is not negative is cancelled from a strict order
pub cancel_lt : (a b w : ℤ) → pos 0 ≤ℤ w → (a *ℤ w) <ℤ (b *ℤ w) → a <ℤ b
cancel_lt a b w h k =
    by_lt_z a b (λ l. l) (λ l. let m = mul_le b a w h l in absurd (omega (arith, ints)))

-- a factor above 0 is cancelled from an order
pub cancel_le : (a b w : ℤ) → pos 0 <ℤ w → (a *ℤ w) ≤ℤ (b *ℤ w) → a ≤ℤ b
cancel_le a b w h k =
    by_lt_z b a (λ l. let m = mul_lt b a w h l in absurd (omega (arith, ints))) (λ l. l)

-- a factor above 0 is cancelled from an equation
pub cancel_eq : (a b w : ℤ) → pos 0 <ℤ w → a *ℤ w ≡ b *ℤ w → a ≡ b
cancel_eq a b w h e =
    let p : a ≤ℤ b = cancel_le a b w h (omega (arith, ints)) in
    let q : b ≤ℤ a = cancel_le b a w h (omega (arith, ints)) in
    omega (arith, ints)

-- the sign of a product by something above 0
pub pos_of-mul : (a w : ℤ) → pos 0 <ℤ w → pos 0 <ℤ (a *ℤ w) → pos 0 <ℤ a
pos_of-mul a w h k = cancel_lt (pos 0) a w (nonneg_of-pos w h) (omega (arith, ints))

-- a number is below 0, where its product with one above 0 is
pub neg_of-mul : (a w : ℤ) → pos 0 <ℤ w → (a *ℤ w) <ℤ pos 0 → a <ℤ pos 0
neg_of-mul a w h k = cancel_lt a (pos 0) w (nonneg_of-pos w h) (omega (arith, ints))

-- a number is 0, where its product with one above 0 is
pub zero_of-mul : (a w : ℤ) → pos 0 <ℤ w → a *ℤ w ≡ pos 0 → a ≡ pos 0
zero_of-mul a w h e = cancel_eq a (pos 0) w h (omega (arith, ints))

-- a number below 0 times one above 0 is below 0
pub neg-mul : (a w : ℤ) → pos 0 <ℤ w → a <ℤ pos 0 → (a *ℤ w) <ℤ pos 0
neg-mul a w h k = let m = mul_lt a (pos 0) w h k in omega (arith, ints)

-- where a product is 0, one of its factors is
pub zero_factor : (a b : ℤ) → a *ℤ b ≡ pos 0 → (a ≡ pos 0) ⊎ (b ≡ pos 0)
zero_factor (pos zero) b e = inl refl
zero_factor (pos (suc a)) b e = inr (zero_of-mul b (pos (suc a)) (pos-pos a) (omega (arith, ints)))
zero_factor (negsuc a) b e = inr (zero_of-mul b (pos (suc a)) (pos-pos a) (omega (arith, ints)))

-- ---- squares
-- x is at most y, where its square is at most that of y, and y is not negative
pub square_le : (x y : ℤ) → pos 0 ≤ℤ y → (x *ℤ x) ≤ℤ (y *ℤ y) → x ≤ℤ y
square_le x y h k =
    by_lt_z y x
    (λ l.
    let p : pos 0 <ℤ ((x -ℤ y) *ℤ (x +ℤ y)) = pos-mul (x -ℤ y) (x +ℤ y) (omega (arith, ints)) (omega (arith, ints)) in
    let e : (x -ℤ y) *ℤ (x +ℤ y) ≡ x *ℤ x -ℤ y *ℤ y = ring (x ∷ y ∷ []) (search quotes depth 20) refl in
    absurd (omega (arith, ints)))
    (λ l. l)

-- the size of x is at most that of y, where its square is at most that of y, and y is not negative
pub abs_square_le : (x y : ℤ) → pos 0 ≤ℤ y → (x *ℤ x) ≤ℤ (y *ℤ y) → nat_abs x ≤ nat_abs y
abs_square_le x y h k =
    let p : x ≤ℤ y = square_le x y h k in
    let e : neg_ℤ x *ℤ neg_ℤ x ≡ x *ℤ x = ring (x ∷ []) (search quotes depth 20) refl in
    let q : neg_ℤ x ≤ℤ y = square_le (neg_ℤ x) y h (rw e k) in
    omega (arith, ints)

-- x is below y, where its square is below that of y, and y is not negative
pub square_lt : (x y : ℤ) → pos 0 ≤ℤ y → (x *ℤ x) <ℤ (y *ℤ y) → x <ℤ y
square_lt x y h k =
    by_lt_z x y (λ l. l)
    (λ l.
    let p : (y *ℤ y) ≤ℤ (x *ℤ y) = mul_le y x y h l in
    let q : (x *ℤ y) ≤ℤ (x *ℤ x) = let m = mul_le y x x (omega (arith, ints)) l in omega (arith, ints) in
    absurd (omega (arith, ints)))

-- where a sum of two squares is 0, both numbers are
pub squares_zero : (a b : ℤ) → a *ℤ a +ℤ b *ℤ b ≡ pos 0 → (a ≡ pos 0) × (b ≡ pos 0)
squares_zero a b e =
    let p = nonneg-square a in
    let q = nonneg-square b in
    (one a (omega (arith, ints)), one b (omega (arith, ints)))
  where
    one : (z : ℤ) → z *ℤ z ≡ pos 0 → z ≡ pos 0
    one z d = elim (zero_factor z z d) [ inl x ↦ x | inr x ↦ x ]

-- (a c + b d)^2 is at most (a^2 + b^2) (c^2 + d^2)
pub cauchy : (a b c d : ℤ) → ((a *ℤ c +ℤ b *ℤ d) *ℤ (a *ℤ c +ℤ b *ℤ d)) ≤ℤ ((a *ℤ a +ℤ b *ℤ b) *ℤ (c *ℤ c +ℤ d *ℤ d))
cauchy a b c d =
    le_by ((a *ℤ d -ℤ b *ℤ c) *ℤ (a *ℤ d -ℤ b *ℤ c)) (ring (a ∷ b ∷ c ∷ d ∷ []) (search quotes depth 20) refl) (nonneg-square (a *ℤ d -ℤ b *ℤ c))
