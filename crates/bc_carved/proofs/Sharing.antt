-- A part of a carving without a place comes right behind the piece whose only half-space it is.
use Rattle.std.proofs.Common.{◌≡◌, ◌≤◌, ◌+◌, ℕ, List, [], ◌∷◌, ◌++◌, map, length, Option, None, Some, refl, sym, ap, subst, ⊎_elim}
use Rattle.bc_cover.specs.Masks.{without_bit, places_below}
use Rattle.bc_tree.specs.declared.tree.Leaf.{Leaf}
use Rattle.bc_tree.specs.Shape.{Shape, leaf, size}
use Rattle.bc_tree.specs.Cuts.{picked}
use Rattle.bc_carve.specs.Shape.{Shape as Piece, Shapes as Pieces, less, none, piece, AllProducts, EachProduct}
use Rattle.bc_carve.specs.Carving.{IsProduct}
use Rattle.bc_carved.specs.Carved.{meet_of, cut_of, piece_shape, piece_shapes}
use Rattle.bc_carved.specs.Parts.{Part, within, own_place, half_spaces, first_taken, first_positive, inner_parts, piece_parts, parts}
use Rattle.bc_carved.specs.Laws.{placed_tree, Share}
use Rattle.bc_carved.proofs.Numbers.{at, picked_are}
use Rattle.bc_carved.proofs.Rising.{own_or_not}

share_append : {A : Type 0} (before : Option Shape) (ps qs : List (Part A)) → Share before ps → ((b : Option Shape) → Share b qs) → Share before (ps ++ qs)
share_append before [] qs h k = k before
share_append before (p ∷ ps) qs h k = (h.0, share_append (placed_tree p.place p.node) ps qs h.1 k)

share_within : {A B : Type 0} (f : A → B) (before : Option Shape) (ps : List (Part A)) → Share before ps → Share before (map (within f) ps)
share_within f before [] h = tt
share_within f before (p ∷ ps) h = (h.0, share_within f (placed_tree p.place p.node) ps h.1)

module _ (block : Leaf) (leaves : List Leaf) where
  -- half-spaces that each have a place
  halves_placed : (whole : Shape) (r : ℕ → Piece) (n : ℕ) (is : List ℕ) (before : Option Shape) → ((k : ℕ) → own_place whole k ≡ Some k) → Share before (half_spaces block leaves whole r n is)
  halves_placed whole r n [] before all = tt
  halves_placed whole r n (i ∷ is) before all = (λ none. let some = all n in cc, halves_placed whole r (n + 1) is (placed_tree (own_place whole n) (at block leaves i)) all)

  -- a piece that is a leaf has one positive half-space at most, and that is the leaf; and no negative one
  bare_positive : (round : List Shape) (is : List ℕ) (taken : List Shape) (r : ℕ → Piece) (n : ℕ) (whole : Shape) → whole ≡ cut_of (meet_of block (round ++ map (at block leaves) is)) taken → own_place whole 0 ≡ None
      → Share (Some whole) (half_spaces block leaves whole r n is)
  bare_positive round [] taken r n whole e bare = tt
  bare_positive round (i ∷ is) (t ∷ ts) r n whole e bare = let some : own_place whole 0 ≡ Some 0 = subst (λ w. own_place w 0 ≡ Some 0) (sym e) refl in cc
  bare_positive [] (i ∷ []) [] r n whole e bare = subst (λ w. Share (Some w) (half_spaces block leaves w r n (i ∷ []))) (sym e) (λ none. refl, tt)
  bare_positive [] (i ∷ j ∷ is) [] r n whole e bare = let some : own_place whole 0 ≡ Some 0 = subst (λ w. own_place w 0 ≡ Some 0) (sym e) refl in cc
  bare_positive (t ∷ []) (i ∷ is) [] r n whole e bare = let some : own_place whole 0 ≡ Some 0 = subst (λ w. own_place w 0 ≡ Some 0) (sym e) refl in cc
  bare_positive (t ∷ u ∷ ts) (i ∷ is) [] r n whole e bare = let some : own_place whole 0 ≡ Some 0 = subst (λ w. own_place w 0 ≡ Some 0) (sym e) refl in cc

  bare_negative : (first : Shape) (qs : List ℕ) (more : List Shape) (r : ℕ → Piece) (n : ℕ) (whole : Shape) (before : Option Shape) → whole ≡ cut_of first (map (at block leaves) qs ++ more) → own_place whole 0 ≡ None
      → Share before (half_spaces block leaves whole r n qs)
  bare_negative first [] more r n whole before e bare = tt
  bare_negative first (q ∷ qs) more r n whole before e bare = let some : own_place whole 0 ≡ Some 0 = subst (λ w. own_place w 0 ≡ Some 0) (sym e) refl in cc

  module _ (few : length leaves ≤ 64) where
    mutual
      inner_share : (round : List Shape) (n : ℕ) (s : Piece) → AllProducts (IsProduct (length leaves)) s → Share (Some (piece_shape block leaves round s)) (inner_parts block leaves round n s)
      inner_share round n (less pos neg holes) of =
          let whole = piece_shape block leaves round (less pos neg holes) in
          let H = piece_shapes block leaves holes in
          let P = places_below 64 pos in
          let Q = places_below 64 neg in
          let p = first_positive block leaves round n pos neg holes in
          let k = first_taken block leaves round n pos neg holes in
          let r = λ (i : ℕ). less (without_bit pos i) neg holes in
          let o = λ (i : ℕ). less pos (without_bit neg i) holes in
          let A = half_spaces block leaves whole r p P in
          let B = half_spaces block leaves whole o k Q in
          let C = piece_parts block leaves (k + length Q) holes in
          let hole = λ (b : Option Shape). share_within (less pos neg) b C (pieces_share (k + length Q) holes b of.1) in
          ⊎_elim
          (λ bare.
          share_append (Some whole) A (B ++ map (within (less pos neg)) C)
          (bare_positive round P (picked neg 0 leaves ++ H) r p whole (ap (λ xs. cut_of (meet_of block (round ++ xs)) (picked neg 0 leaves ++ H)) (picked_are block leaves pos few of.0.0)) (bare 0))
          (λ b. share_append b B (map (within (less pos neg)) C)
          (bare_negative (meet_of block (round ++ picked pos 0 leaves)) Q H o k whole b (ap (λ xs. cut_of (meet_of block (round ++ picked pos 0 leaves)) (xs ++ H)) (picked_are block leaves neg few of.0.1)) (bare 0))
          hole))
          (λ all.
          share_append (Some whole) A (B ++ map (within (less pos neg)) C) (halves_placed whole r p P (Some whole) all)
          (λ b. share_append b B (map (within (less pos neg)) C) (halves_placed whole o k Q b all) hole))
          (own_or_not whole)

      pieces_share : (n : ℕ) (ss : Pieces) (before : Option Shape) → EachProduct (IsProduct (length leaves)) ss → Share before (piece_parts block leaves n ss)
      pieces_share n none before of = tt
      pieces_share n (piece s ss) before of =
          let t = piece_shape block leaves [] s in
          let A = inner_parts block leaves [] n s in
          let B = piece_parts block leaves (n + size t) ss in (
            λ none. cc,
            share_append (Some t) (map (within (λ t. piece t ss)) A) (map (within (piece s)) B)
                (share_within (λ t. piece t ss) (Some t) A (inner_share [] n s of.0))
                (λ b. share_within (piece s) b B (pieces_share (n + size t) ss b of.1)),
          )

pub parts_share : (block : Leaf) (leaves : List Leaf) (ss : Pieces) → length leaves ≤ 64 → EachProduct (IsProduct (length leaves)) ss → Share None (parts block leaves ss)
parts_share block leaves none few of = tt
parts_share block leaves (piece s none) few of =
    let t = piece_shape block leaves (leaf block ∷ []) s in
    (λ none. cc, share_within (λ t. piece t none) (Some t) (inner_parts block leaves (leaf block ∷ []) 0 s) (inner_share block leaves few (leaf block ∷ []) 0 s of.0))
parts_share block leaves (piece s (piece t ss)) few of = pieces_share block leaves few 3 (piece s (piece t ss)) None of
