-- Any of a list by its first element and the rest, and pairs of a list.
use Rattle.std.proofs.Common.{zero, suc, ◌<◌, ◌⊎◌, inl, inr, List, [], ◌∷◌, length, refl, sym, subst, arith}
use Rattle.std.specs.List.{Any}

module _ {X : Type 0} (Q : X → Type 0) where
  pub any_nil : Any Q [] → ⊥
  any_nil h = let l : h.0 < 0 = h.2 in omega arith

  pub any_case : (x : X) (xs : List X) → Any Q (x ∷ xs) → Q x ⊎ Any Q xs
  any_case x xs (zero, y, l, e, q) = inl (subst Q (sym e) q)
  any_case x xs (suc k, y, l, e, q) = inr (k, y, omega arith, e, q)

  pub any_here : (x : X) (xs : List X) → Q x → Any Q (x ∷ xs)
  any_here x xs q = (0, x, omega arith, refl, q)

  pub any_later : (x : X) (xs : List X) → Any Q xs → Any Q (x ∷ xs)
  any_later x xs h = (suc h.0, h.1, (let l : h.0 < length xs = h.2 in omega arith), h.3, h.4)

pub any_map : {X : Type 0} (P Q : X → Type 0) (xs : List X) → ((x : X) → P x → Q x) → Any P xs → Any Q xs
any_map P Q xs f h = (h.0, h.1, h.2, h.3, f h.1 h.4)

-- a pair of the elements of a list with P and Q, of which R holds
module _ {X : Type 0} (P Q : X → Type 0) (R : X → X → Type 0) where
  abbrev pub Pairs : List X → List X → Type 0
  Pairs xs ys = Any (λ x. P x × Any (λ y. Q y × R x y) ys) xs

  pub pairs_more : (x : X) (xs : List X) → Pairs xs xs → Pairs (x ∷ xs) (x ∷ xs)
  pairs_more x xs h =
      any_later (λ z. P z × Any (λ y. Q y × R z y) (x ∷ xs)) x xs
      (any_map (λ z. P z × Any (λ y. Q y × R z y) xs) (λ z. P z × Any (λ y. Q y × R z y) (x ∷ xs)) xs (λ z k. (k.0, any_later (λ y. Q y × R z y) x xs k.1)) h)

  pub pairs_first : (x : X) (xs : List X) → P x → Any (λ y. Q y × R x y) xs → Pairs (x ∷ xs) (x ∷ xs)
  pairs_first x xs p h = any_here (λ z. P z × Any (λ y. Q y × R z y) (x ∷ xs)) x xs (p, any_later (λ y. Q y × R x y) x xs h)

  pub pairs_second : (x : X) (xs : List X) → Q x → Any (λ z. P z × R z x) xs → Pairs (x ∷ xs) (x ∷ xs)
  pairs_second x xs q h =
      any_later (λ z. P z × Any (λ y. Q y × R z y) (x ∷ xs)) x xs
      (any_map (λ z. P z × R z x) (λ z. P z × Any (λ y. Q y × R z y) (x ∷ xs)) xs (λ z k. (k.0, any_here (λ y. Q y × R z y) x xs (q, k.1))) h)

  -- of the first with itself, of it and another, of another and it, and of two others
  pub data PairCase (x : X) (xs : List X) : Type 0 where
    itself : P x → Q x → R x x → PairCase x xs
    as_first : P x → Any (λ y. Q y × R x y) xs → PairCase x xs
    as_second : Q x → Any (λ z. P z × R z x) xs → PairCase x xs
    others : Pairs xs xs → PairCase x xs

  pub pair_case : (x : X) (xs : List X) → Pairs (x ∷ xs) (x ∷ xs) → PairCase x xs
  pair_case x xs h = elim (any_case (λ z. P z × Any (λ y. Q y × R z y) (x ∷ xs)) x xs h) [
    | inl k ↦ elim (any_case (λ y. Q y × R x y) x xs k.1) [
      | inl r ↦ itself k.0 r.0 r.1
      | inr more ↦ as_first k.0 more
    ]
    | inr k ↦ elim (any_case (λ y. Q y × R k.1 y) x xs k.4.1) [
      | inl r ↦ as_second r.0 (k.0, k.1, k.2, k.3, (k.4.0, r.1))
      | inr more ↦ others (k.0, k.1, k.2, k.3, (k.4.0, more))
    ]
  ]
