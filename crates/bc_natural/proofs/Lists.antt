-- Walks over lists by their indices: one more element of a front, and what an element of a list is.
use Rattle.std.proofs.Common.{◌≡◌, ℕ, ◌+◌, ◌<◌, inl, inr, List, length, [], ◌∷◌, ◌++◌, take, arith, sym, ap, ◌∙◌}
use Rattle.std.proofs.lemmas.List.{take_more}
use Rattle.std.proofs.lemmas.Option.{slice_get_within, get_or_from_slice_get, slice_get_cases}
use Rattle.std.specs.Prelude.{slice_get, Some}

-- a list has an element at each of its places
pub place_has : {X : Type 0} (xs : List X) (i : ℕ) → i < length xs → (x : X) × (slice_get xs i ≡ Some x)
place_has xs i l =
    elim (slice_get_cases xs i).1 [
      | inl r ↦ (r.0, r.2)
      | inr r ↦ absurd (let m = r.0 in omega arith)
    ]

-- a front with the next element
pub front_more : {X : Type 0} (xs : List X) (i : ℕ) (x : X) → slice_get xs i ≡ Some x → take (i + 1) xs ≡ take i xs ++ x ∷ []
front_more xs i x h =
    take_more xs i x (slice_get_within xs i x h) ∙ ap (λ y. take i xs ++ y ∷ []) (get_or_from_slice_get xs i x x h)

-- a copy of a front, with the next element pushed
pub copied_more : {X : Type 0} (xs ys zs : List X) (i : ℕ) (x : X) → slice_get xs i ≡ Some x → ys ≡ take i xs → zs ≡ ys ++ x ∷ [] → zs ≡ take (i + 1) xs
copied_more xs ys zs i x h e f = f ∙ ap (λ us. us ++ x ∷ []) e ∙ sym (front_more xs i x h)
