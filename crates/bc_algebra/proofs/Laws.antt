-- The laws of the integers as a commutative ring that `lib.IntN` lacks.
use Rattle.std.proofs.Common.{◌≡◌, ℕ, ◌*◌, arith, sym, ap, ◌∙◌}
use borrow.Author.Differences.{up, down, ints, same_in, sum_is_lem, product_is, neg_is}
use lib.IntN.{ℤ, negsuc, ◌+ℤ◌, ◌*ℤ◌, neg_ℤ, *ℤ_comm}

-- a product with a sum on its right is multiplied out
pub mul_add : (a b c : ℤ) → a *ℤ (b +ℤ c) ≡ a *ℤ b +ℤ a *ℤ c
mul_add a b c =
    omega (arith, ints, ap (λ (n : ℕ). up a * n) (sum_is_lem b c), ap (λ (n : ℕ). down a * n) (sum_is_lem b c))

-- a product with a sum on its left is multiplied out
pub add_mul : (a b c : ℤ) → (a +ℤ b) *ℤ c ≡ a *ℤ c +ℤ b *ℤ c
add_mul a b c =
    omega (arith, ints, ap (λ (n : ℕ). n * up c) (sum_is_lem a b), ap (λ (n : ℕ). n * down c) (sum_is_lem a b))

-- three factors may be grouped either way
pub mul_assoc : (a b c : ℤ) → (a *ℤ b) *ℤ c ≡ a *ℤ (b *ℤ c)
mul_assoc a b c =
    let l0 = rw ((product_is a b).0, (product_is a b).1) at (product_is (a *ℤ b) c).0 in
    let l1 = rw ((product_is a b).0, (product_is a b).1) at (product_is (a *ℤ b) c).1 in
    let r0 = rw ((product_is b c).0, (product_is b c).1) at (product_is a (b *ℤ c)).0 in
    let r1 = rw ((product_is b c).0, (product_is b c).1) at (product_is a (b *ℤ c)).1 in
    same_in ((a *ℤ b) *ℤ c) (a *ℤ (b *ℤ c)) (omega (arith, l0, l1, r0, r1))

-- the first two of three factors change places
pub mul_swap : (a b c : ℤ) → a *ℤ (b *ℤ c) ≡ b *ℤ (a *ℤ c)
mul_swap a b c = sym (mul_assoc a b c) ∙ ap (λ z. z *ℤ c) (*ℤ_comm a b) ∙ mul_assoc b a c

-- a sign moves from the right factor to the product
pub mul_neg : (a b : ℤ) → a *ℤ neg_ℤ b ≡ neg_ℤ (a *ℤ b)
mul_neg a b = omega (arith, ints, ap (λ (n : ℕ). up a * n) (neg_is b).0, ap (λ (n : ℕ). up a * n) (neg_is b).1, ap (λ (n : ℕ). down a * n) (neg_is b).0, ap (λ (n : ℕ). down a * n) (neg_is b).1)

-- minus one times a number is its negation
pub neg_one : (a : ℤ) → negsuc 0 *ℤ a ≡ neg_ℤ a
neg_one a = omega (arith, ints)
