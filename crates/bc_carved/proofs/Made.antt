-- The trees of pieces, one after another.
use Rattle.std.proofs.Common.{◌≡◌, ◌≤◌, ℕ, List, [], ◌∷◌, ◌++◌, map, take, length, ap, refl, ◌∙◌, arith}
use Rattle.std.proofs.lemmas.List.{take_all}
use Rattle.bc_tree.specs.declared.tree.Leaf.{Leaf}
use Rattle.bc_tree.specs.Shape.{Shape}
use Rattle.bc_carve.specs.declared.piece.Piece.{Piece as Coded}
use Rattle.bc_carve.specs.Shape.{shape, shapes}
use Rattle.bc_carved.specs.Carved.{bounded, piece_shape, piece_shapes, carved_shape}

module _ (block : Leaf) (leaves : List Leaf) where
  abbrev pub tree_of : Coded → Shape
  tree_of p = piece_shape block leaves [] (shape p)

  pub each_made : (pieces : List Coded) → map tree_of pieces ≡ piece_shapes block leaves (shapes pieces)
  each_made [] = refl
  each_made (p ∷ ps) = ap (λ ss. tree_of p ∷ ss) (each_made ps)

  -- at the end of the list the trees of all pieces are made
  pub all_made : (pieces : List Coded) (i : ℕ) (old new : List Shape) → length pieces ≤ i → new ≡ old ++ map tree_of (take i pieces) → new ≡ old ++ piece_shapes block leaves (shapes pieces)
  all_made pieces i old new le e = e ∙ ap (λ ps. old ++ map tree_of ps) (take_all i pieces le) ∙ ap (λ ss. old ++ ss) (each_made pieces)

  -- several pieces are united within the block
  pub several : (pieces : List Coded) → 2 ≤ length pieces → carved_shape block leaves (shapes pieces) ≡ bounded block (piece_shapes block leaves (shapes pieces))
  several [] two = absurd (omega (arith, two))
  several (p ∷ []) two = absurd (omega (arith, two))
  several (p ∷ q ∷ ps) two = refl
