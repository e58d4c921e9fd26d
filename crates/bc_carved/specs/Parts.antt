-- The parts of a carving: its pieces, their half-spaces and their holes. Each has a node in the tree of the carving, before
-- which a note of it may stand. Nodes are numbered in the order in which they are written.
use Rattle.std.specs.Prelude.{ℕ, ◌+◌, ◌≤◌, ◌<◌, List, [], ◌∷◌, ◌++◌, map, length, Option, None, Some, slice_index_or}
use Rattle.bc_cover.specs.Masks.{without_bit, places_below}
use Rattle.bc_tree.specs.declared.tree.Leaf.{Leaf}
use Rattle.bc_tree.specs.Shape.{Shape, leaf, union, meet, cut, shapes_of, size, sizes}
use Rattle.bc_tree.specs.Cuts.{picked}
use Rattle.bc_carve.specs.Shape.{Shape as Piece, Shapes as Pieces, less, none, piece}
use Rattle.bc_carved.specs.Carved.{meet_of, piece_shape, piece_shapes}

-- a part of a piece, or of pieces
pub record Part (A : Type 0) : Type 0 where
  -- the number of its node; none where it has none of its own
  pub place : Option ℕ
  -- its tree
  pub node : Shape
  -- what is left without it
  pub without : A

-- the part, where f is made of what is left
abbrev pub within : {A B : Type 0} → (A → B) → Part A → Part B
within f p = record { place = p.place; node = p.node; without = f p.without }

-- a half-space of a piece has no node of its own where the piece is this half-space alone
abbrev pub own_place : Shape → ℕ → Option ℕ
own_place (leaf l) n = None
own_place (union kids) n = Some n
own_place (meet kids) n = Some n
own_place (cut first kids) n = Some n

-- half-spaces of a piece with this tree. The first of them has number n, and r says what is left without half-space i
abbrev pub half_spaces : Leaf → List Leaf → Shape → (ℕ → Piece) → ℕ → List ℕ → List (Part Piece)
half_spaces block leaves whole r n [] = []
half_spaces block leaves whole r n (i ∷ is) =
    record { place = own_place whole n; node = leaf (slice_index_or leaves i block); without = r i } ∷ half_spaces block leaves whole r (n + 1) is

-- the number of the first of these trees in common, where the tree that they have in common has number n
abbrev pub in_meet : ℕ → List Shape → ℕ
in_meet n [] = n
in_meet n (s ∷ []) = n
in_meet n (s ∷ t ∷ ss) = n + 1

-- the number of a tree of which these are taken away, where what is left has number n
abbrev pub in_cut : ℕ → List Shape → ℕ
in_cut n [] = n
in_cut n (s ∷ ss) = n + 1

-- what is taken away from a piece
abbrev pub taken_of : Leaf → List Leaf → ℕ → Pieces → List Shape
taken_of block leaves neg holes = picked neg 0 leaves ++ piece_shapes block leaves holes

-- the number of the first tree that is taken away from a piece with number n
abbrev pub first_taken : Leaf → List Leaf → List Shape → ℕ → ℕ → ℕ → Pieces → ℕ
first_taken block leaves round n pos neg holes = in_cut n (taken_of block leaves neg holes) + size (meet_of block (round ++ picked pos 0 leaves))

-- the number of its first positive half-space, behind the trees of `round`
abbrev pub first_positive : Leaf → List Leaf → List Shape → ℕ → ℕ → ℕ → Pieces → ℕ
first_positive block leaves round n pos neg holes = in_meet (in_cut n (taken_of block leaves neg holes)) (round ++ picked pos 0 leaves) + sizes (shapes_of round)

abbrev mutual
  -- the parts of a piece with number n: its positive half-spaces, its negative ones, and its holes with their parts
  pub inner_parts : Leaf → List Leaf → List Shape → ℕ → Piece → List (Part Piece)
  inner_parts block leaves round n (less pos neg holes) =
      half_spaces block leaves (piece_shape block leaves round (less pos neg holes)) (λ i. less (without_bit pos i) neg holes) (first_positive block leaves round n pos neg holes) (places_below 64 pos)
      ++ (half_spaces block leaves (piece_shape block leaves round (less pos neg holes)) (λ i. less pos (without_bit neg i) holes) (first_taken block leaves round n pos neg holes) (places_below 64 neg)
      ++ map (within (less pos neg)) (piece_parts block leaves (first_taken block leaves round n pos neg holes + length (places_below 64 neg)) holes))

  -- pieces, the first of which has number n, each before its parts
  pub piece_parts : Leaf → List Leaf → ℕ → Pieces → List (Part Pieces)
  piece_parts block leaves n none = []
  piece_parts block leaves n (piece s ss) =
      record { place = Some n; node = piece_shape block leaves [] s; without = ss }
      ∷ (map (within (λ t. piece t ss)) (inner_parts block leaves [] n s) ++ map (within (piece s)) (piece_parts block leaves (n + size (piece_shape block leaves [] s)) ss))

-- the parts of a carving. A lone piece is the whole tree; several stand behind the meet, the block and the union
abbrev pub parts : Leaf → List Leaf → Pieces → List (Part Pieces)
parts block leaves none = []
parts block leaves (piece s none) =
    record { place = Some 0; node = piece_shape block leaves (leaf block ∷ []) s; without = none } ∷ map (within (λ t. piece t none)) (inner_parts block leaves (leaf block ∷ []) 0 s)
parts block leaves (piece s (piece t ss)) = piece_parts block leaves 3 (piece s (piece t ss))

-- their places
abbrev pub places : Leaf → List Leaf → Pieces → List (Option ℕ)
places block leaves ss = map (λ p. p.place) (parts block leaves ss)

-- the places that are there ascend strictly, from n on, and are below m
abbrev pub Rise : ℕ → ℕ → List (Option ℕ) → Type 0
Rise n m [] = Unit {0}
Rise n m (None ∷ ps) = Rise n m ps
Rise n m (Some k ∷ ps) = (n ≤ k) × (k < m) × Rise (k + 1) m ps
