-- Which literal is chosen: the most shared one, the first of equals, where some literal is shared.
use Rattle.std.proofs.Common.{◌≡◌, ◌≤◌, ◌<◌, ℕ, zero, suc, true, false, List, Option, None, Some, nat_lt, if◌then◌else◌, arith, sym, ap, refl, subst, ⊎_elim, inl, inr}
use Rattle.std.specs.Prelude.{◌⊎◌}
use Rattle.std.proofs.lemmas.Bool.{cases_Bool, cases_eq}
use Rattle.std.proofs.lemmas.Bool.Decides.{nat_tests}
use Rattle.bc_cover.specs.Covers.{Literal, positive, negative}
use Rattle.bc_tree.specs.declared.product.Product.{Product}
use Rattle.bc_factor.specs.Shared.{place, count, best_count, better, most_shared_below, most_shared}
use Rattle.bc_factor.specs.Laws.{LiteralPrecedes, IsMostShared, NoneIsShared}

lt_true : (m n : ℕ) → nat_lt m n ≡ true → m < n
lt_true m n e = grind (arith, nat_tests)

lt_false : (m n : ℕ) → nat_lt m n ≡ false → n ≤ m
lt_false m n e = grind (arith, nat_tests)

-- ---- the best of the literals seen so far

-- a best literal was seen, stands in two products at least, and comes before each other that stands in as many
abbrev pub IsFirst : (Literal → Type 0) → List Product → Option Literal → Type 0
IsFirst Seen ts None = Unit {0}
IsFirst Seen ts (Some b) = Seen b × (2 ≤ count b ts) × ((m : Literal) → Seen m → count m ts ≡ count b ts → (m ≡ b) ⊎ LiteralPrecedes b m)

pub record IsBest (Seen : Literal → Type 0) (ts : List Product) (best : Option Literal) : Type 0 where
  pub most : (m : Literal) → Seen m → count m ts ≤ best_count best ts
  pub first : IsFirst Seen ts best

least_count : (Seen : Literal → Type 0) (ts : List Product) (best : Option Literal) → IsFirst Seen ts best → 1 ≤ best_count best ts
least_count Seen ts None h = omega arith
least_count Seen ts (Some b) h = omega (arith, h.1)

-- one literal more
abbrev Also : (Literal → Type 0) → Literal → Literal → Type 0
Also Seen l m = Seen m ⊎ (m ≡ l)

taken : (Seen : Literal → Type 0) (ts : List Product) (best : Option Literal) (l : Literal) → IsBest Seen ts best → best_count best ts < count l ts → IsBest (Also Seen l) ts (Some l)
taken Seen ts best l h lt =
    let least = least_count Seen ts best h.first in
    record {
      most = λ m seen. ⊎_elim (λ before. let le = h.most m before in omega (arith, le, lt)) (λ same. subst (λ k. count m ts ≤ count k ts) same (omega arith)) seen;
      first = (
        inr refl,
        omega (arith, least, lt),
        λ m seen e. ⊎_elim (λ before. let le = h.most m before in absurd (omega (arith, le, lt, e))) (λ same. inl same) seen,
      );
    }

kept_first : (Seen : Literal → Type 0) (ts : List Product) (best : Option Literal) (l : Literal) → ((m : Literal) → Seen m → LiteralPrecedes m l) → IsFirst Seen ts best → IsFirst (Also Seen l) ts best
kept_first Seen ts None l later h = tt
kept_first Seen ts (Some b) l later h = (
  inl h.0,
  h.1,
  λ m seen e. ⊎_elim (λ before. h.2 m before e) (λ same. inr (subst (λ k. LiteralPrecedes b k) (sym same) (later b h.0))) seen,
)

kept : (Seen : Literal → Type 0) (ts : List Product) (best : Option Literal) (l : Literal) → ((m : Literal) → Seen m → LiteralPrecedes m l) → IsBest Seen ts best → count l ts ≤ best_count best ts → IsBest (Also Seen l) ts best
kept Seen ts best l later h le = record {
  most = λ m seen. ⊎_elim (λ before. h.most m before) (λ same. subst (λ k. count k ts ≤ best_count best ts) (sym same) le) seen;
  first = kept_first Seen ts best l later h.first;
}

one_more : (Seen : Literal → Type 0) (ts : List Product) (best : Option Literal) (l : Literal) → ((m : Literal) → Seen m → LiteralPrecedes m l) → IsBest Seen ts best → IsBest (Also Seen l) ts (better ts best l)
one_more Seen ts best l later h =
    ⊎_elim
    (λ yes. subst (λ b. IsBest (Also Seen l) ts (if b then Some l else best)) (sym yes) (taken Seen ts best l h (lt_true _ _ yes)))
    (λ no. subst (λ b. IsBest (Also Seen l) ts (if b then Some l else best)) (sym no) (kept Seen ts best l later h (lt_false _ _ no)))
    (cases_Bool (nat_lt (best_count best ts) (count l ts)))

same_first : (Seen Other : Literal → Type 0) (ts : List Product) (best : Option Literal) → ((m : Literal) → Seen m → Other m) → ((m : Literal) → Other m → Seen m) → IsFirst Seen ts best → IsFirst Other ts best
same_first Seen Other ts None to from h = tt
same_first Seen Other ts (Some b) to from h = (to b h.0, h.1, λ m other e. h.2 m (from m other) e)

same_best : (Seen Other : Literal → Type 0) (ts : List Product) (best : Option Literal) → ((m : Literal) → Seen m → Other m) → ((m : Literal) → Other m → Seen m) → IsBest Seen ts best → IsBest Other ts best
same_best Seen Other ts best to from h = record {
  most = λ m other. h.most m (from m other);
  first = same_first Seen Other ts best to from h.first;
}

-- ---- in the order of the half-spaces

abbrev Below : ℕ → Literal → Type 0
Below n m = place m < n

before_positive : (n : ℕ) (m : Literal) → Below n m → LiteralPrecedes m (positive n)
before_positive n (positive i) lt = lt
before_positive n (negative i) lt = lt

before_negative : (n : ℕ) (m : Literal) → Also (Below n) (positive n) m → LiteralPrecedes m (negative n)
before_negative n m (inr same) = subst (λ k. LiteralPrecedes k (negative n)) (sym same) (omega arith)
before_negative n (positive i) (inl lt) = omega (arith, lt)
before_negative n (negative i) (inl lt) = lt

seen_below : (n : ℕ) (m : Literal) → Also (Also (Below n) (positive n)) (negative n) m → Below (suc n) m
seen_below n m (inl (inl lt)) = omega (arith, lt)
seen_below n m (inl (inr same)) = subst (λ k. place k < suc n) (sym same) (omega arith)
seen_below n m (inr same) = subst (λ k. place k < suc n) (sym same) (omega arith)

below_seen : (n : ℕ) (m : Literal) → Below (suc n) m → Also (Also (Below n) (positive n)) (negative n) m
below_seen n (positive i) lt = ⊎_elim (λ same. inl (inr (ap positive same))) (λ other. inl (inl (omega (arith, lt, other)))) (cases_eq i n)
below_seen n (negative i) lt = ⊎_elim (λ same. inr (ap negative same)) (λ other. inl (inl (omega (arith, lt, other)))) (cases_eq i n)

best_below : (n : ℕ) (ts : List Product) → IsBest (Below n) ts (most_shared_below n ts)
best_below zero ts = record { most = λ m lt. absurd (omega (arith, lt)); first = tt }
best_below (suc n) ts =
    let one = one_more (Below n) ts (most_shared_below n ts) (positive n) (before_positive n) (best_below n ts) in
    let two = one_more (Also (Below n) (positive n)) ts (better ts (most_shared_below n ts) (positive n)) (negative n) (before_negative n) one in
    same_best (Also (Also (Below n) (positive n)) (negative n)) (Below (suc n)) ts (most_shared_below (suc n) ts) (seen_below n) (below_seen n) two

best : (ts : List Product) → IsBest (Below 64) ts (most_shared ts)
unfolding most_shared
best ts = best_below 64 ts

-- ---- the chosen literal

shared_of : (ts : List Product) (o : Option Literal) (l : Literal) → o ≡ Some l → IsBest (Below 64) ts o → IsMostShared ts l
shared_of ts o l is h =
    let b : IsBest (Below 64) ts (Some l) = subst (IsBest (Below 64) ts) is h in
    record { half_space = b.first.0; twice = b.first.1; most = b.most; first = b.first.2 }

-- the literal that is chosen is the most shared one
pub chosen_most : (ts : List Product) (l : Literal) → most_shared ts ≡ Some l → IsMostShared ts l
chosen_most ts l is = shared_of ts (most_shared ts) l is (best ts)

-- where none is chosen, none is shared
pub none_shared : (ts : List Product) → most_shared ts ≡ None → NoneIsShared ts
none_shared ts is m lt =
    let b : IsBest (Below 64) ts None = subst (IsBest (Below 64) ts) is (best ts) in
    let le : count m ts ≤ 1 = b.most m lt in
    omega (arith, le)

none_by : (ts : List Product) (o : Option Literal) → most_shared ts ≡ o → NoneIsShared ts → o ≡ None
none_by ts None is none = refl
none_by ts (Some b) is none =
    let h = chosen_most ts b is in
    let few = none b h.half_space in
    let two = h.twice in
    absurd (omega (arith, few, two))

pub none_chosen : (ts : List Product) → NoneIsShared ts → most_shared ts ≡ None
none_chosen ts none = none_by ts (most_shared ts) refl none

-- the literals come one after another
not_both : (l m : Literal) → LiteralPrecedes l m → LiteralPrecedes m l → ⊥
not_both (positive i) (positive j) h k = omega (arith, h, k)
not_both (positive i) (negative j) h k = omega (arith, h, k)
not_both (negative i) (positive j) h k = omega (arith, h, k)
not_both (negative i) (negative j) h k = omega (arith, h, k)

one_most : (ts : List Product) (l m : Literal) → IsMostShared ts l → IsMostShared ts m → l ≡ m
one_most ts l m h k =
    let le = h.most m k.half_space in
    let ge = k.most l h.half_space in
    let e : count m ts ≡ count l ts = omega (arith, le, ge) in
    ⊎_elim
    (λ same. sym same)
    (λ before. ⊎_elim (λ same. same) (λ after. absurd (not_both l m before after)) (k.first l h.half_space (sym e)))
    (h.first m k.half_space e)

most_by : (ts : List Product) (o : Option Literal) (l : Literal) → most_shared ts ≡ o → IsMostShared ts l → o ≡ Some l
most_by ts None l is h =
    let few = none_shared ts is l h.half_space in
    let two = h.twice in
    absurd (omega (arith, few, two))
most_by ts (Some b) l is h = ap Some (one_most ts b l (chosen_most ts b is) h)

pub most_chosen : (ts : List Product) (l : Literal) → IsMostShared ts l → most_shared ts ≡ Some l
most_chosen ts l h = most_by ts (most_shared ts) l refl h

-- the chosen literal stands in two products at least
pub chosen_shared : (l : Literal) (ts : List Product) → most_shared ts ≡ Some l → 2 ≤ count l ts
chosen_shared l ts is = (chosen_most ts l is).twice

chosen_by : (ts : List Product) (o : Option Literal) (m : Literal) → most_shared ts ≡ o → place m < 64 → 2 ≤ count m ts → (l : Literal) × (most_shared ts ≡ Some l) × (2 ≤ count l ts)
chosen_by ts None m is lt two = let few = none_shared ts is m lt in absurd (omega (arith, few, two))
chosen_by ts (Some l) m is lt two = (l, is, chosen_shared l ts is)

-- where some literal is shared, one is chosen
pub chosen : (m : Literal) (ts : List Product) → place m < 64 → 2 ≤ count m ts → (l : Literal) × (most_shared ts ≡ Some l) × (2 ≤ count l ts)
chosen m ts lt two = chosen_by ts (most_shared ts) m refl lt two
