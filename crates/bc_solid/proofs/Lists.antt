-- Lists by their places: what a front has, one more element, and what an element of a list is.
use Rattle.std.proofs.Common.{◌≡◌, ℕ, zero, suc, ◌+◌, ◌<◌, List, [], ◌∷◌, ◌++◌, take, arith, ap, ◌∙◌, subst}
use Rattle.std.specs.Prelude.{All, Contains, slice_get, Some}
use Rattle.std.proofs.lemmas.List.{take_more}
use Rattle.std.proofs.lemmas.List.Elements.{All-head, All-tail, All-contains, All-same, All-push}
use Rattle.std.proofs.lemmas.Option.{slice_get_within, get_or_from_slice_get, same_Some}

-- the element at a place is one of the list
pub contains_at : {X : Type 0} (xs : List X) (i : ℕ) (x : X) → slice_get xs i ≡ Some x → Contains xs x
contains_at xs i x h = (i, slice_get_within xs i x h, get_or_from_slice_get xs i x x h)

pub all_at : {X : Type 0} (P : X → Type 0) (xs : List X) (i : ℕ) (x : X) → All P xs → slice_get xs i ≡ Some x → P x
all_at P xs i x h e = All-contains P xs x h (contains_at xs i x e)

-- the same of the elements before place k
pub all_before : {X : Type 0} (P : X → Type 0) (xs : List X) (k i : ℕ) (x : X) → All P (take k xs) → slice_get xs i ≡ Some x → i < k → P x
all_before P [] k i x h e l = cc
all_before P (y ∷ ys) zero i x h e l = absurd (omega arith)
all_before P (y ∷ ys) (suc k) zero x h e l = subst P (same_Some y x e) (All-head P y (take k ys) h)
all_before P (y ∷ ys) (suc k) (suc i) x h e l = all_before P ys k i x (All-tail P y (take k ys) h) e (omega arith)

-- a front with the next element
pub front_more : {X : Type 0} (xs : List X) (i : ℕ) (x : X) → slice_get xs i ≡ Some x → take (i + 1) xs ≡ take i xs ++ x ∷ []
front_more xs i x h =
    take_more xs i x (slice_get_within xs i x h) ∙ ap (λ y. take i xs ++ y ∷ []) (get_or_from_slice_get xs i x x h)

pub all_more : {X : Type 0} (P : X → Type 0) (xs : List X) (i : ℕ) (x : X) → slice_get xs i ≡ Some x → All P (take i xs) → P x → All P (take (i + 1) xs)
all_more P xs i x h a p = All-same P (take (i + 1) xs) (take i xs ++ x ∷ []) (front_more xs i x h) (All-push P (take i xs) x a p)
