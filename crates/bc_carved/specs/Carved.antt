-- The tree of a carving. A piece is an intersection of half-spaces, of which other half-spaces and holes are taken away. The
-- block stands round the whole, and in each piece and hole that would else have nothing to be taken away from.
use Rattle.std.specs.Prelude.{List, [], ◌∷◌, ◌++◌}
use Rattle.bc_tree.specs.declared.tree.Leaf.{Leaf}
use Rattle.bc_tree.specs.Shape.{Shape, leaf, union, meet, cut, shapes_of}
use Rattle.bc_tree.specs.Cuts.{picked}
use Rattle.bc_carve.specs.Shape.{Shape as Piece, Shapes as Pieces, less, none, piece}

-- what the trees have in common. One alone stands as it is; where there is none, the block does
abbrev pub meet_of : Leaf → List Shape → Shape
meet_of block [] = leaf block
meet_of block (s ∷ []) = s
meet_of block (s ∷ t ∷ ss) = meet (shapes_of (s ∷ t ∷ ss))

-- the first tree less the others. Where there are none, it stands as it is
abbrev pub cut_of : Shape → List Shape → Shape
cut_of first [] = first
cut_of first (s ∷ ss) = cut first (shapes_of (s ∷ ss))

abbrev mutual
  -- what these trees and the piece's positive half-spaces have in common, less its negative half-spaces and its holes
  pub piece_shape : Leaf → List Leaf → List Shape → Piece → Shape
  piece_shape block leaves round (less pos neg holes) = cut_of (meet_of block (round ++ picked pos 0 leaves)) (picked neg 0 leaves ++ piece_shapes block leaves holes)

  -- a tree for each piece
  pub piece_shapes : Leaf → List Leaf → Pieces → List Shape
  piece_shapes block leaves none = []
  piece_shapes block leaves (piece s ss) = piece_shape block leaves [] s ∷ piece_shapes block leaves ss

-- the block and the union of these trees in common
abbrev pub bounded : Leaf → List Shape → Shape
bounded block parts = meet (shapes_of (leaf block ∷ union (shapes_of parts) ∷ []))

-- the whole tree. Without a piece it is the empty union. A lone piece needs no union: the block stands before its positive
-- half-spaces. Several pieces are united within the block
abbrev pub carved_shape : Leaf → List Leaf → Pieces → Shape
carved_shape block leaves none = union (shapes_of [])
carved_shape block leaves (piece s none) = piece_shape block leaves (leaf block ∷ []) s
carved_shape block leaves (piece s (piece t ss)) = bounded block (piece_shapes block leaves (piece s (piece t ss)))
