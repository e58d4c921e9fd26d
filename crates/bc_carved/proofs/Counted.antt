-- How many leaves the tree of a carving has, and how deep it is nested.
use Rattle.std.proofs.Common.{◌≡◌, ◌≤◌, ◌<◌, ◌+◌, ◌/◌, ◌^◌, max, ℕ, suc, pow-suc, Bool, List, [], ◌∷◌, ◌++◌, length, nat_eq, if◌then◌else◌, arith, sym, ap, refl, ⊎_elim, ◌∙◌}
use Rattle.std.specs.Prelude.{count_ones}
use Rattle.std.specs.Int.{bit_at}
use lib.Count.{ones, ones_step}
use Rattle.std.proofs.lemmas.Bool.{cases_Bool, eqb-true, eqb-false}
use Rattle.std.proofs.lemmas.Nat.{zero_from_ones}
use Rattle.std.proofs.lemmas.Nat.Bits.{bit_at-lt, bit_at-zero, bit_at-suc, bit_at_lowest}
use Rattle.bc_tree.specs.declared.tree.Leaf.{Leaf}
use Rattle.bc_tree.specs.Shape.{Shape, leaf, shapes_of, depth, depths}
use Rattle.bc_tree.specs.Cuts.{picked}
use Rattle.bc_tree.proofs.Covers.{picked_flat}
use Rattle.bc_factor.specs.Counts.{leaf_count, leaf_counts}
use Rattle.bc_carve.specs.Shape.{Shape as Piece, Shapes as Pieces, less, none, piece, literals, literals_in, depth as levels, depths as all_levels, AllProducts, EachProduct}
use Rattle.bc_carve.specs.Carving.{IsProduct}
use Rattle.bc_carved.specs.Carved.{meet_of, cut_of, piece_shape, piece_shapes, carved_shape}
use Rattle.bc_carved.specs.Counts.{blocks, blocks_in, all_blocks}

-- ---- the leaves that a word picks

-- the leaves from bit 1 on are those of the halved word
picked_half : (word i : ℕ) (ls : List Leaf) → picked word (suc i) ls ≡ picked (word / 2) i ls
picked_half word i [] = refl
picked_half word i (l ∷ ls) =
    let up : suc i + 1 ≡ suc (i + 1) = omega arith in
    ap (λ (n : ℕ). if nat_eq (bit_at word (suc i)) 1 then leaf l ∷ picked word n ls else picked word n ls) up
    ∙ ap (λ (xs : List Shape). if nat_eq (bit_at word (suc i)) 1 then leaf l ∷ xs else xs) (picked_half word (i + 1) ls)
    ∙ ap (λ (b : ℕ). if nat_eq b 1 then leaf l ∷ picked (word / 2) (i + 1) ls else picked (word / 2) (i + 1) ls) (bit_at-suc word i)

one_more : (bit : ℕ) (l : Leaf) (xs : List Shape) → bit < 2 → leaf_counts (shapes_of (if nat_eq bit 1 then leaf l ∷ xs else xs)) ≡ bit + leaf_counts (shapes_of xs)
one_more bit l xs lt =
    ⊎_elim
    (λ yes. let one : bit ≡ 1 = eqb-true bit 1 yes in ap (λ b. leaf_counts (shapes_of (if b then leaf l ∷ xs else xs))) yes ∙ omega (arith, one))
    (λ no. let other = eqb-false bit 1 no in ap (λ b. leaf_counts (shapes_of (if b then leaf l ∷ xs else xs))) no ∙ omega (arith, lt, other))
    (cases_Bool (nat_eq bit 1))

no_ones : count_ones 0 ≡ 0
unfolding ones
no_ones = refl

-- a leaf for each bit
pub picked_count : (word : ℕ) (ls : List Leaf) → word < 2 ^ length ls → leaf_counts (shapes_of (picked word 0 ls)) ≡ count_ones word
picked_count word [] lt = let no : word ≡ 0 = omega (arith, lt) in sym (ap count_ones no ∙ no_ones)
picked_count word (l ∷ ls) lt =
    let half : word / 2 < 2 ^ length ls = omega (arith, lt, pow-suc 2 (length ls)) in
    one_more (bit_at word 0) l (picked word 1 ls) (bit_at-lt word 0)
    ∙ ap (λ (xs : List Shape). bit_at word 0 + leaf_counts (shapes_of xs)) (picked_half word 0 ls)
    ∙ ap (λ (n : ℕ). bit_at word 0 + n) (picked_count (word / 2) ls half)
    ∙ ap (λ (n : ℕ). n + count_ones (word / 2)) (bit_at_lowest word)
    ∙ sym (ones_step word)

picked_none : (i : ℕ) (ls : List Leaf) → picked 0 i ls ≡ []
picked_none i [] = refl
picked_none i (l ∷ ls) = ap (λ (b : ℕ). if nat_eq b 1 then leaf l ∷ picked 0 (i + 1) ls else picked 0 (i + 1) ls) (bit_at-zero i) ∙ picked_none (i + 1) ls

-- ---- counts of leaves

abbrev of_test : Bool → ℕ
of_test b = if b then 1 else 0

-- how often the block stands in for half-spaces
abbrev stand_in : ℕ → ℕ
stand_in pos = of_test (nat_eq pos 0)

counts_append : (xs ys : List Shape) → leaf_counts (shapes_of (xs ++ ys)) ≡ leaf_counts (shapes_of xs) + leaf_counts (shapes_of ys)
counts_append [] ys = omega arith
counts_append (x ∷ xs) ys = omega (arith, counts_append xs ys)

cut_count : (first : Shape) (xs : List Shape) → leaf_count (cut_of first xs) ≡ leaf_count first + leaf_counts (shapes_of xs)
cut_count first [] = omega arith
cut_count first (s ∷ ss) = refl

module _ (block : Leaf) where
  meet_count : (xs : List Shape) → 0 < leaf_counts (shapes_of xs) → leaf_count (meet_of block xs) ≡ leaf_counts (shapes_of xs)
  meet_count [] some = absurd (omega (arith, some))
  meet_count (s ∷ []) some = omega arith
  meet_count (s ∷ t ∷ ss) some = refl

  module _ (leaves : List Leaf) where
    -- the block stands in where no half-space is positive
    common_count : (pos : ℕ) → pos < 2 ^ length leaves → leaf_count (meet_of block (picked pos 0 leaves)) ≡ count_ones pos + stand_in pos
    common_count pos below =
        ⊎_elim
        (λ yes.
        let zero : pos ≡ 0 = eqb-true pos 0 yes in
        ap (λ (w : ℕ). leaf_count (meet_of block (picked w 0 leaves))) zero
        ∙ ap (λ (xs : List Shape). leaf_count (meet_of block xs)) (picked_none 0 leaves)
        ∙ let one : stand_in pos ≡ 1 = ap of_test yes in
        let none : count_ones pos ≡ 0 = ap count_ones zero ∙ no_ones in
        omega (arith, one, none))
        (λ no.
        let count = picked_count pos leaves below in
        let some : count_ones pos ≡ 0 → ⊥ = λ z. eqb-false pos 0 no (zero_from_ones pos z) in
        let none : stand_in pos ≡ 0 = ap of_test no in
        meet_count (picked pos 0 leaves) (omega (arith, count, some)) ∙ omega (arith, count, none))
        (cases_Bool (nat_eq pos 0))

    mutual
      piece_count : (s : Piece) → AllProducts (IsProduct (length leaves)) s → leaf_count (piece_shape block leaves [] s) ≡ literals s + blocks s
      piece_count (less pos neg holes) of =
          let first = meet_of block (picked pos 0 leaves) in
          let N = picked neg 0 leaves in
          let H = piece_shapes block leaves holes in
          omega (arith, cut_count first (N ++ H), counts_append N H, common_count pos of.0.0, picked_count neg leaves of.0.1, pieces_count holes of.1)

      pieces_count : (ss : Pieces) → EachProduct (IsProduct (length leaves)) ss → leaf_counts (shapes_of (piece_shapes block leaves ss)) ≡ literals_in ss + blocks_in ss
      pieces_count none of = omega arith
      pieces_count (piece s ss) of = omega (arith, piece_count s of.0, pieces_count ss of.1)

    lone_count : (s : Piece) → AllProducts (IsProduct (length leaves)) s → leaf_count (piece_shape block leaves (leaf block ∷ []) s) ≡ literals s + all_blocks (piece s none)
    lone_count (less pos neg holes) of =
        let A = picked pos 0 leaves in
        let N = picked neg 0 leaves in
        let H = piece_shapes block leaves holes in
        omega (arith, cut_count (meet_of block (leaf block ∷ A)) (N ++ H), counts_append N H, meet_count (leaf block ∷ A) (omega arith), picked_count pos leaves of.0.0, picked_count neg leaves of.0.1, pieces_count holes of.1)

    pub carved_count : (ss : Pieces) → EachProduct (IsProduct (length leaves)) ss → leaf_count (carved_shape block leaves ss) ≡ literals_in ss + all_blocks ss
    carved_count none of = omega arith
    carved_count (piece s none) of = omega (arith, lone_count s of.0)
    carved_count (piece s (piece t ss)) of = omega (arith, pieces_count (piece s (piece t ss)) of)

    -- ---- nesting

    depths_append : (xs ys : List Shape) → depths (shapes_of (xs ++ ys)) ≡ max (depths (shapes_of xs)) (depths (shapes_of ys))
    depths_append [] ys = omega arith
    depths_append (x ∷ xs) ys = omega (arith, depths_append xs ys)

    meet_depth : (xs : List Shape) → depth (meet_of block xs) ≤ depths (shapes_of xs) + 1
    meet_depth [] = omega arith
    meet_depth (s ∷ []) = omega arith
    meet_depth (s ∷ t ∷ ss) = omega arith

    cut_depth : (first : Shape) (xs : List Shape) → depth (cut_of first xs) ≤ max (depth first) (depths (shapes_of xs)) + 1
    cut_depth first [] = omega arith
    cut_depth first (s ∷ ss) = omega arith

    mutual
      piece_depth : (round : List Shape) (s : Piece) → depths (shapes_of round) ≤ 0 → depth (piece_shape block leaves round s) ≤ levels s + 1
      piece_depth round (less pos neg holes) flat =
          let A = picked pos 0 leaves in
          let N = picked neg 0 leaves in
          let H = piece_shapes block leaves holes in
          omega (arith, cut_depth (meet_of block (round ++ A)) (N ++ H), meet_depth (round ++ A), depths_append round A, depths_append N H, picked_flat pos 0 leaves, picked_flat neg 0 leaves, pieces_depth holes)

      pieces_depth : (ss : Pieces) → depths (shapes_of (piece_shapes block leaves ss)) ≤ all_levels ss + 1
      pieces_depth none = omega arith
      pieces_depth (piece s ss) = omega (arith, piece_depth [] s (omega arith), pieces_depth ss)

    pub carved_depth : (ss : Pieces) → depth (carved_shape block leaves ss) ≤ all_levels ss + 3
    carved_depth none = omega arith
    carved_depth (piece s none) = omega (arith, piece_depth (leaf block ∷ []) s (omega arith))
    carved_depth (piece s (piece t ss)) = omega (arith, pieces_depth (piece s (piece t ss)))
