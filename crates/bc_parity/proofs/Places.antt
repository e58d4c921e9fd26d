-- Places of a list and what is known of the elements there.
use Rattle.std.proofs.Common.{◌≡◌, ℕ, zero, suc, ◌<◌, ◌≤◌, List, [], ◌∷◌, length, slice_get, Some, arith, refl}

-- the element at a place, with what holds of each
pub record Found {X : Type 0} (P : X → Type 0) (xs : List X) (i : ℕ) : Type 0 where
  pub element : X
  pub at : slice_get xs i ≡ Some element
  pub holds : P element

pub place_in : (n m i : ℕ) → n ≡ m → i < n → i < m
place_in n m i e h = omega arith

pub no_place_in : (n m i : ℕ) → n ≡ m → n ≤ i → m ≤ i
no_place_in n m i e h = omega arith

-- what is known of the element at a place of the list
pub known_at : {X : Type 0} (P : X → Type 0) (xs : List X) (i : ℕ) → i < length xs → ((x : X) → slice_get xs i ≡ Some x → P x) → Found P xs i
known_at P [] i l h = absurd (omega arith)
known_at P (x ∷ xs) zero l h = record { element = x; at = refl; holds = h x refl }
known_at P (x ∷ xs) (suc i) l h = let r = known_at P xs i (omega arith) h in record { element = r.element; at = r.at; holds = r.holds }
