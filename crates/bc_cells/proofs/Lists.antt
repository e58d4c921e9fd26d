-- Lists: All of a front and a back, the places of members, and one more element.
use Rattle.std.specs.Prelude.{◌≡◌, ℕ, zero, suc, ◌<◌, List, [], ◌∷◌, ◌++◌, length, map, Some, slice_get, ◌⊎◌}
use Rattle.std.specs.List.{All, Any, Contains}
use Rattle.std.proofs.Common.{refl, sym, ap, ◌∙◌, subst, inl, inr, arith, get_or}
use Rattle.std.proofs.lemmas.List.Elements.{All-head, All-tail, All-cons, All-nil, Contains-append_left, Contains-append_right, Contains-push, Contains-push_cases}
use Rattle.std.proofs.lemmas.Option.{slice_get_within, slice_get-get_or, get_or_from_slice_get}
use Rattle.bc_cells.specs.Constraints.{IsOnce}

module _ {X : Type 0} (Q : X → Type 0) where
  pub all_front : (xs ys : List X) → All Q (xs ++ ys) → All Q xs
  all_front [] ys all = All-nil Q
  all_front (x ∷ xs) ys all = All-cons Q x xs (All-head Q x (xs ++ ys) all) (all_front xs ys (All-tail Q x (xs ++ ys) all))

  pub all_back : (xs ys : List X) → All Q (xs ++ ys) → All Q ys
  all_back [] ys all = all
  all_back (x ∷ xs) ys all = all_back xs ys (All-tail Q x (xs ++ ys) all)

  pub all_last : (xs : List X) (y : X) → All Q (xs ++ y ∷ []) → Q y
  all_last xs y all = All-head Q y [] (all_back xs (y ∷ []) all)

  pub all_unmap : {Y : Type 0} (f : Y → X) (ys : List Y) → All Q (map f ys) → All (λ y. Q (f y)) ys
  all_unmap f [] all = All-nil (λ y. Q (f y))
  all_unmap f (y ∷ ys) all = All-cons (λ z. Q (f z)) y ys (All-head Q (f y) (map f ys) all) (all_unmap f ys (All-tail Q (f y) (map f ys) all))

pub contains_at : {X : Type 0} (xs : List X) (i : ℕ) (c : X) → slice_get xs i ≡ Some c → Contains xs c
contains_at xs i c e = (i, slice_get_within xs i c e, get_or_from_slice_get xs i c c e)

pub at_contains : {X : Type 0} (xs : List X) (c : X) → Contains xs c → (i : ℕ) × (slice_get xs i ≡ Some c)
at_contains xs c h = (h.0, slice_get-get_or xs h.0 c h.1 ∙ ap Some h.2)

-- one more element that the list didn't have
push_place : {X : Type 0} (xs : List X) (y : X) (i : ℕ) (c : X) → slice_get (xs ++ y ∷ []) i ≡ Some c → (slice_get xs i ≡ Some c) ⊎ ((i ≡ length xs) × (c ≡ y))
push_place [] y zero c e = inr (refl, let f : Some y ≡ Some c = e in cc)
push_place [] y (suc i) c e = cc
push_place (x ∷ xs) y zero c e = inl e
push_place (x ∷ xs) y (suc i) c e = elim (push_place xs y i c e) [ inl f ↦ inl f | inr t ↦ inr (ap suc t.0, t.1) ]

pub once_push : {X : Type 0} (xs : List X) (y : X) → IsOnce xs → (Contains xs y → ⊥) → IsOnce (xs ++ y ∷ [])
once_push xs y once fresh i j c ei ej = elim (push_place xs y i c ei) [
  | inl a ↦ elim (push_place xs y j c ej) [
    | inl b ↦ once i j c a b
    | inr t ↦ absurd (fresh (contains_at xs i y (a ∙ ap Some t.1)))
  ]
  | inr s ↦ elim (push_place xs y j c ej) [
    | inl b ↦ absurd (fresh (contains_at xs j y (b ∙ ap Some s.1)))
    | inr t ↦ s.0 ∙ sym t.0
  ]
]

front_place : {X : Type 0} (xs ys : List X) (i : ℕ) (c : X) → slice_get xs i ≡ Some c → slice_get (xs ++ ys) i ≡ Some c
front_place [] ys i c e = cc
front_place (x ∷ xs) ys zero c e = e
front_place (x ∷ xs) ys (suc i) c e = front_place xs ys i c e

last_place : {X : Type 0} (xs : List X) (y : X) → slice_get (xs ++ y ∷ []) (length xs) ≡ Some y
last_place [] y = refl
last_place (x ∷ xs) y = last_place xs y

pub once_front : {X : Type 0} (xs ys : List X) → IsOnce (xs ++ ys) → IsOnce xs
once_front xs ys once i j c ei ej = once i j c (front_place xs ys i c ei) (front_place xs ys j c ej)

pub once_fresh : {X : Type 0} (xs : List X) (y : X) → IsOnce (xs ++ y ∷ []) → Contains xs y → ⊥
once_fresh xs y once h =
    let a = at_contains xs y h in
    let e : a.0 ≡ length xs = once a.0 (length xs) y (front_place xs (y ∷ []) a.0 y a.1) (last_place xs y) in
    let l : a.0 < length xs = slice_get_within xs a.0 y a.1 in
    omega arith

pub once_nil : {X : Type 0} → IsOnce {X = X} []
once_nil i j c e f = cc

pub contains_none : {X : Type 0} (c : X) → Contains [] c → ⊥
contains_none c h = let l : h.0 < 0 = h.1 in omega arith

pub any_push : {X : Type 0} (Q : X → Type 0) (xs : List X) (y : X) → Q y → Any Q (xs ++ y ∷ [])
any_push Q xs y q = let h = Contains-push xs y in (h.0, y, h.1, h.2, q)

pub any_left : {X : Type 0} (Q : X → Type 0) (xs ys : List X) → Any Q xs → Any Q (xs ++ ys)
any_left Q xs ys a = let h = Contains-append_left xs ys a.1 (a.0, a.2, a.3) in (h.0, a.1, h.1, h.2, a.4)

pub any_right : {X : Type 0} (Q : X → Type 0) (xs ys : List X) → Any Q ys → Any Q (xs ++ ys)
any_right Q xs ys a = let h = Contains-append_right xs ys a.1 (a.0, a.2, a.3) in (h.0, a.1, h.1, h.2, a.4)

pub any_cases : {X : Type 0} (Q : X → Type 0) (xs : List X) (y : X) → Any Q (xs ++ y ∷ []) → Any Q xs ⊎ Q y
any_cases Q xs y a = elim (Contains-push_cases xs y a.1 (a.0, a.2, a.3)) [ inl h ↦ inl (h.0, a.1, h.1, h.2, a.4) | inr e ↦ inr (subst Q (sym e) a.4) ]

pub some_at : {X : Type 0} (xs : List X) (k : ℕ) → k < length xs → (x : X) × (x ≡ get_or xs k x)
some_at [] k l = absurd (omega arith)
some_at (x ∷ xs) zero l = (x, refl)
some_at (x ∷ xs) (suc k) l = some_at xs k (omega arith)
