-- What holds between the steps that number the parts of a carving. A caller needs none of it.
use Rattle.std.specs.Prelude.{ℕ, zero, suc, ◌≡◌, ◌≤◌, ◌+◌, Bool, true, false, if◌then◌else◌, List, [], ◌∷◌, ◌++◌, map, length, Option, None, Some}
use Rattle.bc_tree.specs.declared.tree.Leaf.{Leaf}
use Rattle.bc_tree.specs.Shape.{Shape, leaf, shapes_of, size, sizes}
use Rattle.bc_carve.specs.Shape.{Shape as Piece, Shapes as Pieces, none, piece, AllProducts, EachProduct}
use Rattle.bc_carve.specs.Carving.{IsProduct}
use Rattle.bc_carved.specs.Carved.{piece_shape, piece_shapes}
use Rattle.bc_carved.specs.Parts.{inner_parts, piece_parts}

-- the block stands before the positive half-spaces of a lone piece
abbrev pub round_of : Leaf → Bool → List Shape
round_of block true = leaf block ∷ []
round_of block false = []

-- one node where the test is true
abbrev pub one_if : Bool → ℕ
one_if b = if b then 1 else 0

-- whether there is a piece
abbrev pub are_some : Pieces → Bool
are_some none = false
are_some (piece s ss) = true

-- the place n, where the part has a node of its own
abbrev pub place_if : Bool → ℕ → Option ℕ
place_if own n = if own then Some n else None

-- as many parts, from n on
abbrev pub numbered : Bool → ℕ → ℕ → List (Option ℕ)
numbered own n zero = []
numbered own n (suc k) = place_if own n ∷ numbered own (n + 1) k

-- whichever the block and the half-spaces are: the new list is the old one and the places of the parts of a piece with number
-- n, and m is the number behind the piece
pub record AddsInner (lone : Bool) (n : ℕ) (s : Piece) (old new : List (Option ℕ)) (m : ℕ) : Type 0 where
  pub added : (block : Leaf) (leaves : List Leaf) → length leaves ≤ 64 → AllProducts (IsProduct (length leaves)) s → new ≡ old ++ map (λ p. p.place) (inner_parts block leaves (round_of block lone) n s)
  pub behind : (block : Leaf) (leaves : List Leaf) → length leaves ≤ 64 → AllProducts (IsProduct (length leaves)) s → m ≡ n + size (piece_shape block leaves (round_of block lone) s)

-- the same of pieces, the first of which has number n
pub record AddsPieces (n : ℕ) (ss : Pieces) (old new : List (Option ℕ)) (m : ℕ) : Type 0 where
  pub added : (block : Leaf) (leaves : List Leaf) → length leaves ≤ 64 → EachProduct (IsProduct (length leaves)) ss → new ≡ old ++ map (λ p. p.place) (piece_parts block leaves n ss)
  pub behind : (block : Leaf) (leaves : List Leaf) → length leaves ≤ 64 → EachProduct (IsProduct (length leaves)) ss → m ≡ n + sizes (shapes_of (piece_shapes block leaves ss))
