-- Laws of the parts of a carving and of their places.
use Rattle.std.specs.Prelude.{ℕ, ◌≡◌, ◌≤◌, ◌^◌, List, [], ◌∷◌, map, length, Option, None, Some, slice_get}
use Rattle.std.specs.List.{All}
use Rattle.bc_tree.specs.declared.tree.Leaf.{Leaf}
use Rattle.bc_tree.specs.Shape.{Shape, size}
use Rattle.bc_notes.specs.Nodes.{nodes}
use Rattle.bc_carve.specs.Shape.{Shapes as Pieces, EachProduct}
use Rattle.bc_carve.specs.Carving.{IsProduct}
use Rattle.bc_carve.specs.Cuts.{all_cuts}
use Rattle.bc_carved.specs.Carved.{carved_shape}
use Rattle.bc_carved.specs.Parts.{Part, parts, places, Rise}

-- the parts are what is taken out in all ways, in the same order
abbrev pub PartsAreCuts : Type 0
PartsAreCuts = (block : Leaf) (leaves : List Leaf) (ss : Pieces) → map (λ p. p.without) (parts block leaves ss) ≡ all_cuts ss

-- the node of the part's number, if it has one, is its tree
abbrev pub IsPlaced : Shape → Part Pieces → Type 0
IsPlaced t p = (n : ℕ) → p.place ≡ Some n → slice_get (nodes t) n ≡ Some p.node

-- in the tree of a carving over at most 64 half-spaces each part stands at its place
abbrev pub PartsStand : Type 0
PartsStand = (block : Leaf) (leaves : List Leaf) (ss : Pieces) → length leaves ≤ 64 → EachProduct (IsProduct (length leaves)) ss → All (IsPlaced (carved_shape block leaves ss)) (parts block leaves ss)

-- the tree of a part, where it has a place
abbrev pub placed_tree : Option ℕ → Shape → Option Shape
placed_tree None t = None
placed_tree (Some n) t = Some t

-- a part without a place comes right behind one that has a place and the same tree
abbrev pub Share : {A : Type 0} → Option Shape → List (Part A) → Type 0
Share before [] = Unit {0}
Share before (p ∷ ps) = (p.place ≡ None → before ≡ Some p.node) × Share (placed_tree p.place p.node) ps

-- so a half-space without a place is the leaf that its whole piece is, and that piece comes before it
abbrev pub PartsShare : Type 0
PartsShare = (block : Leaf) (leaves : List Leaf) (ss : Pieces) → length leaves ≤ 64 → EachProduct (IsProduct (length leaves)) ss → Share None (parts block leaves ss)

-- and the places ascend strictly
abbrev pub PlacesRise : Type 0
PlacesRise = (block : Leaf) (leaves : List Leaf) (ss : Pieces) → length leaves ≤ 64 → EachProduct (IsProduct (length leaves)) ss → Rise 0 (size (carved_shape block leaves ss)) (places block leaves ss)

-- the list has the places of the parts of a carving, whichever its block and its half-spaces are; each is below 2^100
pub record ArePlaces (ss : Pieces) (list : List (Option ℕ)) : Type 0 where
  pub are : (block : Leaf) (leaves : List Leaf) → length leaves ≤ 64 → EachProduct (IsProduct (length leaves)) ss → list ≡ places block leaves ss
  pub early : (block : Leaf) (leaves : List Leaf) → length leaves ≤ 64 → EachProduct (IsProduct (length leaves)) ss → Rise 0 (2 ^ 100) list
