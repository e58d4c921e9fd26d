-- Which elements of pieces change whether a mask is held, when one alone is taken out. An element is a piece, a literal or a
-- hole, in the order of `all_cuts`.
use Rattle.std.specs.Prelude.{ℕ, suc, ◌+◌, ◌==◌, length, replicate, Bool, true, false, not, if◌then◌else◌, List, [], ◌∷◌, map}
use Rattle.bc_cover.specs.Masks.{admits, without_bit, places_below}
use Rattle.bc_carve.specs.Shape.{Shape, Shapes, less, none, piece, holds, some_holds}
use Rattle.bc_carve.specs.Cuts.{cuts, all_cuts}

-- how many bits a word has
unfoldable pub bits_of : ℕ → ℕ
bits_of word = length (places_below 64 word)

-- for each positive literal of a product, and for each negative one, whether the product admits the mask without it
unfoldable pub pos_flips : ℕ → ℕ → ℕ → List Bool
pos_flips pos neg mask = map (λ i. admits (without_bit pos i) neg mask) (places_below 64 pos)

unfoldable pub neg_flips : ℕ → ℕ → ℕ → List Bool
neg_flips pos neg mask = map (λ i. admits pos (without_bit neg i) mask) (places_below 64 neg)

-- how many elements there are
abbrev mutual
  pub elements : Shape → ℕ
  elements (less pos neg holes) = bits_of pos + bits_of neg + elements_in holes

  pub elements_in : Shapes → ℕ
  elements_in none = 0
  elements_in (piece s ss) = 1 + elements s + elements_in ss

abbrev pub differ : Bool → Bool → Bool
differ true b = not b
differ false b = b

-- for each element of the piece, whether it changes without it if the piece holds the mask
abbrev pub flips_in : ℕ → Shape → List Bool
flips_in mask s = map (λ t. differ (holds mask t) (holds mask s)) (cuts s)

-- for each element of the pieces, whether it changes without it if some piece holds the mask
abbrev pub flips : ℕ → Shapes → List Bool
flips mask ss = map (λ c. differ (some_holds mask c) (some_holds mask ss)) (all_cuts ss)

-- how many pieces hold the mask
abbrev pub holders : ℕ → Shapes → ℕ
holders mask none = 0
holders mask (piece s ss) = (if holds mask s then 1 else 0) + holders mask ss

-- the same for a piece and its elements, where so many pieces hold the mask
abbrev pub flips_of : ℕ → ℕ → Shape → List Bool
flips_of holding mask s = if holding == (if holds mask s then 1 else 0) then holds mask s ∷ flips_in mask s else replicate (suc (elements s)) false

-- the places of the trues, where the first place is `start`
abbrev pub trues_from : ℕ → List Bool → List ℕ
trues_from start [] = []
trues_from start (b ∷ bs) = if b then start ∷ trues_from (suc start) bs else trues_from (suc start) bs
