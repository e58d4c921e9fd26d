-- The best points so far, while masks are looked at one after the other; and who owns a mask.
use Rattle.std.specs.Prelude.{◌≡◌, ◌<◌, ◌⊎◌, ℕ, List, Option, None, Some, Any, length, slice_index_or}
use Rattle.std.specs.Int.{bit_at}
use Rattle.bc_cover.specs.Covers.{Literal, positive, negative}
use Rattle.bc_tree.specs.declared.product.Product.{Product}
use Rattle.bc_text.specs.declared.note.Spot.{Spot}
use Rattle.bc_notes.specs.declared.best.Best.{Best}
use Rattle.bc_notes.specs.declared.sign.Sign.{Sign}
use Rattle.bc_notes.specs.declared.sign.Sign.TheVariants.{Positive, Negative}
use Rattle.bc_notes.specs.declared.shown.Shown.{Shown}
use Rattle.bc_notes.specs.Products.{HoldsMask, without_literal}
use Rattle.bc_notes.specs.Chosen.{IsAlone, IsChosen}

-- a point of a mask that will do, or none
abbrev pub IsSpotOf : (ℕ → Type 0) → List Shown → Option Spot → Type 0
IsSpotOf Will list (Some s) = Any (λ m. Will m.mask × (m.spot ≡ Some s)) list
IsSpotOf Will list None = Unit {0}

-- the best before and after one mask more, which may do or not, and its point
pub record IsStep (Will : Type 0) (spot old new : Option Spot) : Type 0 where
  pub one_of : (new ≡ old) ⊎ (Will × (new ≡ spot))
  pub none : new ≡ None → (old ≡ None) × (Will → spot ≡ None)

-- what holds of the best at each place
abbrev pub AllAt : (ℕ → Option Spot → Type 0) → List Best → Type 0
AllAt P bests = (i : ℕ) (d : Best) → i < length bests → P i (slice_index_or bests i d).spot

-- one mask more at each place, where it may do or not
abbrev pub AreSteps : (ℕ → Type 0) → Option Spot → List Best → List Best → Type 0
AreSteps Will spot old new = (i : ℕ) (d : Best) → i < length old → IsStep (Will i) spot (slice_index_or old i d).spot (slice_index_or new i d).spot

-- the literal of a half-space
abbrev pub literal_of : Sign → ℕ → Literal
literal_of Positive = positive
literal_of Negative = negative

-- the bits of a product's literals
abbrev pub word_of : Sign → Product → ℕ
word_of Positive p = p.pos
word_of Negative p = p.neg

-- the product holds the mask once the literal is taken out
abbrev pub LetsIn : Product → Sign → ℕ → ℕ → Type 0
LetsIn p sign i mask = HoldsMask (without_literal p (literal_of sign i)) mask

-- for each literal of one sign the best is chosen
abbrev pub AreOuts : Sign → Product → List Shown → List Best → Type 0
AreOuts sign p outside bests = AllAt (λ i spot. bit_at (word_of sign p) i ≡ 1 → IsChosen (LetsIn p sign i) outside spot) bests

-- for each product the best is chosen
abbrev pub AreOwns : List Product → List Shown → List Best → Type 0
AreOwns products inside bests = AllAt (λ i spot. IsChosen (IsAlone products i) inside spot) bests

-- the place of the only product that holds the mask; none if there is no such
abbrev pub IsOwner : List Product → ℕ → Option ℕ → Type 0
IsOwner products mask (Some i) = (i < length products) × IsAlone products i mask
IsOwner products mask None = (i : ℕ) → i < length products → ¬ (IsAlone products i mask)

-- the same of a mask with a point; none also if there is no point
abbrev pub IsOwnerShown : List Product → Shown → Option ℕ → Type 0
IsOwnerShown products m (Some i) = (i < length products) × IsAlone products i m.mask
IsOwnerShown products m None = (i : ℕ) → i < length products → IsAlone products i m.mask → m.spot ≡ None

-- the owner of each mask
pub record AreOwners (products : List Product) (inside : List Shown) (owners : List (Option ℕ)) : Type 0 where
  pub len : length owners ≡ length inside
  pub each : (k : ℕ) (m : Shown) (o : Option ℕ) → k < length inside → IsOwnerShown products (slice_index_or inside k m) (slice_index_or owners k o)
