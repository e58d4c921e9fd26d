-- Masks by their bits: what products have in common, and what is left of one where that is taken out.
use Rattle.std.proofs.Common.{◌≡◌, ◌+◌, ℕ, List, [], ◌∷◌, arith, ⊎_elim, inl, inr}
use Rattle.std.specs.Prelude.{◌⊎◌, bit_and, bit_xor}
use Rattle.std.specs.Int.{bit_at}
use Rattle.std.proofs.lemmas.Bool.{cases_eq}
use Rattle.std.proofs.lemmas.Nat.Bits.{bit_at_and, bit_at_xor, bit_at-lt}
use Rattle.bc_tree.specs.declared.product.Product.{Product}
use Rattle.bc_factor.specs.Shared.{both, common_with, common}

-- each bit of c is one of m
abbrev pub Within : ℕ → ℕ → Type 0
Within c m = (j : ℕ) → bit_at c j ≡ 1 → bit_at m j ≡ 1

-- the same of both masks
pub record IsPart (c t : Product) : Type 0 where
  pub pos : Within c.pos t.pos
  pub neg : Within c.neg t.neg

-- ---- what products have in common

and_left : (a b j : ℕ) → bit_at (bit_and a b) j ≡ 1 → bit_at a j ≡ 1
and_left a b j h = let e = bit_at_and a b j in omega (arith, e, h, bit_at-lt a j, bit_at-lt b j)

and_right : (a b j : ℕ) → bit_at (bit_and a b) j ≡ 1 → bit_at b j ≡ 1
and_right a b j h = let e = bit_at_and a b j in omega (arith, e, h, bit_at-lt a j, bit_at-lt b j)

pub part_refl : (t : Product) → IsPart t t
part_refl t = record { pos = λ j h. h; neg = λ j h. h }

pub part_trans : (a b c : Product) → IsPart a b → IsPart b c → IsPart a c
part_trans a b c p q = record { pos = λ j h. q.pos j (p.pos j h); neg = λ j h. q.neg j (p.neg j h) }

both_left : (t u : Product) → IsPart (both t u) t
both_left t u = record { pos = and_left t.pos u.pos; neg = and_left t.neg u.neg }

both_right : (t u : Product) → IsPart (both t u) u
both_right t u = record { pos = and_right t.pos u.pos; neg = and_right t.neg u.neg }

common_of_first : (c : Product) (ts : List Product) → IsPart (common_with c ts) c
common_of_first c [] = part_refl c
common_of_first c (t ∷ ts) = part_trans (common_with (both c t) ts) (both c t) c (common_of_first (both c t) ts) (both_left c t)

-- each of the products has these literals
abbrev mutual
  pub Each : Product → List Product → Type 0
  Each c [] = Unit {0}
  Each c (t ∷ ts) = IsPart c t × Each c ts

each_smaller : (c d : Product) (ts : List Product) → IsPart c d → Each d ts → Each c ts
each_smaller c d [] p h = tt
each_smaller c d (t ∷ ts) p h = (part_trans c d t p h.0, each_smaller c d ts p h.1)

common_of_rest : (c : Product) (ts : List Product) → Each (common_with c ts) ts
common_of_rest c [] = tt
common_of_rest c (t ∷ ts) =
    (part_trans (common_with (both c t) ts) (both c t) t (common_of_first (both c t) ts) (both_right c t), common_of_rest (both c t) ts)

pub common_of_all : (ts : List Product) → Each (common ts) ts
common_of_all [] = tt
common_of_all (t ∷ ts) = (common_of_first t ts, common_of_rest t ts)

-- ---- what is left

-- the bit of what is left, and the bit taken out, are the bit that was there
pub left_bit : (m c j : ℕ) → Within c m → bit_at (bit_xor m (bit_and m c)) j + bit_at c j ≡ bit_at m j
left_bit m c j sub =
    let x = bit_at_xor m (bit_and m c) j in
    let a = bit_at_and m c j in
    ⊎_elim
    (λ one. let there = sub j one in omega (arith, x, a, one, there, bit_at-lt m j, bit_at-lt c j))
    (λ none. omega (arith, x, a, none, bit_at-lt m j, bit_at-lt c j))
    (cases_eq (bit_at c j) 1)

pub left_within : (m c j : ℕ) → bit_at (bit_xor m (bit_and m c)) j ≡ 1 → bit_at m j ≡ 1
left_within m c j h =
    let x = bit_at_xor m (bit_and m c) j in
    let a = bit_at_and m c j in
    omega (arith, x, a, h, bit_at-lt m j, bit_at-lt c j)

-- a bit that was there is left or was taken out
pub left_or_taken : (m c j : ℕ) → bit_at m j ≡ 1 → (bit_at (bit_xor m (bit_and m c)) j ≡ 1) ⊎ (bit_at c j ≡ 1)
left_or_taken m c j h =
    let x = bit_at_xor m (bit_and m c) j in
    let a = bit_at_and m c j in
    ⊎_elim (λ one. inr one) (λ none. inl (omega (arith, x, a, none, h, bit_at-lt m j, bit_at-lt c j))) (cases_eq (bit_at c j) 1)
