-- What holds of each leaf of the tree of a carving, and that its meets are not empty.
use Rattle.std.proofs.Common.{◌≤◌, List, [], ◌∷◌, ◌++◌, arith, ⊎_elim, inl, inr, All}
use Rattle.bc_tree.specs.declared.tree.Leaf.{Leaf}
use Rattle.bc_tree.specs.Leaves.{IsLeaf, IsFlat, IsSpaceLeaf}
use Rattle.bc_tree.specs.Shape.{Shape, leaf, shapes_of, AllLeaves, EachLeaf}
use Rattle.bc_tree.specs.Spells.{AllMeetsMeet, EachMeetMeets, IsAllowed}
use Rattle.bc_tree.specs.Cuts.{picked}
use Rattle.bc_tree.proofs.Covers.{picked_leaves, picked_meets}
use Rattle.bc_factor.specs.Meanings.{AreOfOneKind}
use Rattle.bc_carve.specs.Shape.{Shape as Piece, Shapes as Pieces, less, none, piece, depths as all_levels}
use Rattle.bc_carved.specs.Carved.{meet_of, cut_of, piece_shape, piece_shapes, carved_shape}
use Rattle.bc_carved.proofs.Counted.{carved_depth}

-- ---- leaves

module _ (Q : Leaf → Type 0) (block : Leaf) (leaves : List Leaf) (p : Q block) (h : All Q leaves) where
  leaves_append : (xs ys : List Shape) → EachLeaf Q (shapes_of xs) → EachLeaf Q (shapes_of ys) → EachLeaf Q (shapes_of (xs ++ ys))
  leaves_append [] ys k l = l
  leaves_append (x ∷ xs) ys k l = (k.0, leaves_append xs ys k.1 l)

  meet_leaves : (xs : List Shape) → EachLeaf Q (shapes_of xs) → AllLeaves Q (meet_of block xs)
  meet_leaves [] k = p
  meet_leaves (s ∷ []) k = k.0
  meet_leaves (s ∷ t ∷ ss) k = k

  cut_leaves : (first : Shape) (xs : List Shape) → AllLeaves Q first → EachLeaf Q (shapes_of xs) → AllLeaves Q (cut_of first xs)
  cut_leaves first [] k l = k
  cut_leaves first (s ∷ ss) k l = (k, l)

  mutual
    piece_leaves : (round : List Shape) (s : Piece) → EachLeaf Q (shapes_of round) → AllLeaves Q (piece_shape block leaves round s)
    piece_leaves round (less pos neg holes) k =
        let A = picked pos 0 leaves in
        let N = picked neg 0 leaves in
        let H = piece_shapes block leaves holes in
        cut_leaves (meet_of block (round ++ A)) (N ++ H)
        (meet_leaves (round ++ A) (leaves_append round A k (picked_leaves Q pos 0 leaves h)))
        (leaves_append N H (picked_leaves Q neg 0 leaves h) (pieces_leaves holes))

    pieces_leaves : (ss : Pieces) → EachLeaf Q (shapes_of (piece_shapes block leaves ss))
    pieces_leaves none = tt
    pieces_leaves (piece s ss) = (piece_leaves [] s tt, pieces_leaves ss)

  -- what holds of the block and of each half-space holds of each leaf
  pub carved_leaves : (ss : Pieces) → AllLeaves Q (carved_shape block leaves ss)
  carved_leaves none = tt
  carved_leaves (piece s none) = piece_leaves (leaf block ∷ []) s (p, tt)
  carved_leaves (piece s (piece t ss)) = (p, (pieces_leaves (piece s (piece t ss)), tt))

-- ---- meets

module _ (block : Leaf) (leaves : List Leaf) where
  meets_append : (xs ys : List Shape) → EachMeetMeets (shapes_of xs) → EachMeetMeets (shapes_of ys) → EachMeetMeets (shapes_of (xs ++ ys))
  meets_append [] ys k l = l
  meets_append (x ∷ xs) ys k l = (k.0, meets_append xs ys k.1 l)

  meet_meets : (xs : List Shape) → EachMeetMeets (shapes_of xs) → AllMeetsMeet (meet_of block xs)
  meet_meets [] k = tt
  meet_meets (s ∷ []) k = k.0
  meet_meets (s ∷ t ∷ ss) k = (tt, k)

  cut_meets : (first : Shape) (xs : List Shape) → AllMeetsMeet first → EachMeetMeets (shapes_of xs) → AllMeetsMeet (cut_of first xs)
  cut_meets first [] k l = k
  cut_meets first (s ∷ ss) k l = (k, l)

  mutual
    piece_meets : (round : List Shape) (s : Piece) → EachMeetMeets (shapes_of round) → AllMeetsMeet (piece_shape block leaves round s)
    piece_meets round (less pos neg holes) k =
        let A = picked pos 0 leaves in
        let N = picked neg 0 leaves in
        let H = piece_shapes block leaves holes in
        cut_meets (meet_of block (round ++ A)) (N ++ H)
        (meet_meets (round ++ A) (meets_append round A k (picked_meets pos 0 leaves)))
        (meets_append N H (picked_meets neg 0 leaves) (pieces_meets holes))

    pieces_meets : (ss : Pieces) → EachMeetMeets (shapes_of (piece_shapes block leaves ss))
    pieces_meets none = tt
    pieces_meets (piece s ss) = (piece_meets [] s tt, pieces_meets ss)

  pub carved_meets : (ss : Pieces) → AllMeetsMeet (carved_shape block leaves ss)
  carved_meets none = tt
  carved_meets (piece s none) = piece_meets (leaf block ∷ []) s (tt, tt)
  carved_meets (piece s (piece t ss)) = (tt, (tt, (pieces_meets (piece s (piece t ss)), tt)))

  -- with up to 61 levels the grammar of texts allows the tree
  pub carved_allowed : (ss : Pieces) → AreOfOneKind block leaves → all_levels ss ≤ 61 → IsAllowed (carved_shape block leaves ss)
  carved_allowed ss kinds few = record {
    ranges = carved_leaves IsLeaf block leaves kinds.first kinds.others ss;
    nested = omega (arith, carved_depth block leaves ss, few);
    meets = carved_meets ss;
    kind = ⊎_elim
        (λ flat. inl (carved_leaves IsFlat block leaves flat.0 flat.1 ss))
        (λ solid. inr (carved_leaves IsSpaceLeaf block leaves solid.0 solid.1 ss))
        kinds.kind;
  }
