-- Which literals products have in common, and which are left of one.
use Rattle.std.proofs.Common.{◌≡◌, ◌<◌, ℕ, true, false, List, [], ◌∷◌, length, nat_eq, if◌then◌else◌, arith, sym, subst, ⊎_elim, All}
use Rattle.std.specs.Prelude.{◌↔◌, bit_and, bit_xor}
use Rattle.std.specs.Int.{bit_at}
use Rattle.std.proofs.lemmas.Bool.{cases_Bool, eqb-true, eq-eqb}
use Rattle.std.proofs.lemmas.List.Elements.{All-nil, All-cons, All-head, All-tail}
use Rattle.std.proofs.lemmas.Nat.Bits.{bit_at_and, bit_at_xor, bit_at-lt}
use Rattle.bc_cover.specs.Covers.{Literal, positive, negative}
use Rattle.bc_tree.specs.declared.product.Product.{Product}
use Rattle.bc_factor.specs.Shared.{stands, both, common_with, common, stripped, with_literal}
use Rattle.bc_factor.proofs.Bits.{IsPart, Each, common_of_all}

-- it stands in each
abbrev AllStand : Literal → List Product → Type 0
AllStand l ts = All (λ t. stands l t ≡ true) ts

stands_both : (l : Literal) (t u : Product) → stands l t ≡ true → stands l u ≡ true → stands l (both t u) ≡ true
stands_both (positive i) t u h k = eq-eqb _ 1 (let a = eqb-true (bit_at t.pos i) 1 h in let b = eqb-true (bit_at u.pos i) 1 k in omega (arith, bit_at_and t.pos u.pos i, a, b))
stands_both (negative i) t u h k = eq-eqb _ 1 (let a = eqb-true (bit_at t.neg i) 1 h in let b = eqb-true (bit_at u.neg i) 1 k in omega (arith, bit_at_and t.neg u.neg i, a, b))

stands_with : (l : Literal) (c : Product) (ts : List Product) → stands l c ≡ true → AllStand l ts → stands l (common_with c ts) ≡ true
stands_with l c [] h k = h
stands_with l c (t ∷ ts) h k =
    let S : Product → Type 0 = λ u. stands l u ≡ true in
    stands_with l (both c t) ts (stands_both l c t h (All-head S t ts k)) (All-tail S t ts k)

-- a literal that stands in each of the products is in common
pub common_stands : (l : Literal) (ts : List Product) → 0 < length ts → AllStand l ts → stands l (common ts) ≡ true
common_stands l [] some h = absurd (omega (arith, some))
common_stands l (t ∷ ts) some h =
    let S : Product → Type 0 = λ u. stands l u ≡ true in
    stands_with l t ts (All-head S t ts h) (All-tail S t ts h)

part_stands : (l : Literal) (c t : Product) → IsPart c t → stands l c ≡ true → stands l t ≡ true
part_stands (positive i) c t sub h = eq-eqb _ 1 (sub.pos i (eqb-true (bit_at c.pos i) 1 h))
part_stands (negative i) c t sub h = eq-eqb _ 1 (sub.neg i (eqb-true (bit_at c.neg i) 1 h))

each_stands : (l : Literal) (c : Product) (ts : List Product) → Each c ts → stands l c ≡ true → AllStand l ts
each_stands l c [] sub h = All-nil (λ u. stands l u ≡ true)
each_stands l c (t ∷ ts) sub h = All-cons (λ u. stands l u ≡ true) t ts (part_stands l c t sub.0 h) (each_stands l c ts sub.1 h)

-- and a literal in common stands in each
pub stand_in_each : (l : Literal) (ts : List Product) → stands l (common ts) ≡ true → AllStand l ts
stand_in_each l ts h = each_stands l (common ts) ts (common_of_all ts) h

-- it stands in each of those that were taken for it
pub stand_in_filter : (l : Literal) (ts : List Product) → AllStand l (with_literal l ts)
stand_in_filter l [] = All-nil (λ u. stands l u ≡ true)
stand_in_filter l (t ∷ ts) =
    let S : Product → Type 0 = λ u. stands l u ≡ true in
    let rest = with_literal l ts in
    ⊎_elim
    (λ yes. subst (λ b. All S (if b then t ∷ rest else rest)) (sym yes) (All-cons S t rest yes (stand_in_filter l ts)))
    (λ no. subst (λ b. All S (if b then t ∷ rest else rest)) (sym no) (stand_in_filter l ts))
    (cases_Bool (stands l t))

-- ---- what is left

bit_left : (m c j : ℕ) → bit_at m j ≡ 1 → nat_eq (bit_at c j) 1 ≡ false → bit_at (bit_xor m (bit_and m c)) j ≡ 1
bit_left m c j one off =
    let x = bit_at_xor m (bit_and m c) j in
    let a = bit_at_and m c j in
    let other : bit_at c j ≡ 1 → ⊥ = λ e. cc (eq-eqb (bit_at c j) 1 e, off) in
    omega (arith, x, a, one, other, bit_at-lt m j, bit_at-lt c j)

bit_was : (m c j : ℕ) → bit_at (bit_xor m (bit_and m c)) j ≡ 1 → (bit_at m j ≡ 1) × (nat_eq (bit_at c j) 1 ≡ false)
bit_was m c j left =
    let x = bit_at_xor m (bit_and m c) j in
    let a = bit_at_and m c j in
    let was : bit_at m j ≡ 1 = omega (arith, x, a, left, bit_at-lt m j, bit_at-lt c j) in
    let none : bit_at c j ≡ 1 → ⊥ = λ e. omega (arith, x, a, left, e, bit_at-lt m j) in
    (was, ⊎_elim (λ yes. absurd (none (eqb-true (bit_at c j) 1 yes))) (λ no. no) (cases_Bool (nat_eq (bit_at c j) 1)))

pub stripped_others : (l : Literal) (c t : Product) → (stands l (stripped c t) ≡ true) ↔ ((stands l t ≡ true) × (stands l c ≡ false))
stripped_others (positive i) c t = (
  λ h. let was = bit_was t.pos c.pos i (eqb-true _ 1 h) in (eq-eqb _ 1 was.0, was.1),
  λ h. eq-eqb _ 1 (bit_left t.pos c.pos i (eqb-true _ 1 h.0) h.1),
)
stripped_others (negative i) c t = (
  λ h. let was = bit_was t.neg c.neg i (eqb-true _ 1 h) in (eq-eqb _ 1 was.0, was.1),
  λ h. eq-eqb _ 1 (bit_left t.neg c.neg i (eqb-true _ 1 h.0) h.1),
)
