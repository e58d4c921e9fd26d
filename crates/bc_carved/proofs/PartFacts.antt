-- The parts of a carving are what is taken out in all ways, and each stands at its place.
use Rattle.std.proofs.Common.{◌≡◌, ◌≤◌, ◌+◌, ℕ, List, [], ◌∷◌, ◌++◌, map, length, Some, arith, refl, sym, ap, ◌∙◌, subst, append_assoc, length-append, append-nil}
use Rattle.std.specs.Prelude.{slice_get}
use Rattle.std.specs.List.{All}
use Rattle.std.proofs.lemmas.List.{length-map, map-append}
use Rattle.std.proofs.lemmas.List.Elements.{All-nil, All-cons, All-append, All-map}
use Rattle.bc_cover.specs.Masks.{without_bit, places_below}
use Rattle.bc_tree.specs.declared.tree.Leaf.{Leaf}
use Rattle.bc_tree.specs.Shape.{Shape, leaf, union, meet, cut, shapes_of, size}
use Rattle.bc_tree.specs.Cuts.{picked}
use Rattle.bc_notes.specs.Nodes.{nodes, each_nodes}
use Rattle.bc_carve.specs.Shape.{Shape as Piece, Shapes as Pieces, less, none, piece, AllProducts, EachProduct}
use Rattle.bc_carve.specs.Carving.{IsProduct}
use Rattle.bc_carve.specs.Cuts.{cuts, all_cuts}
use Rattle.bc_carved.specs.Carved.{meet_of, cut_of, piece_shape, piece_shapes, carved_shape}
use Rattle.bc_carved.specs.Parts.{Part, within, own_place, half_spaces, in_meet, in_cut, first_taken, first_positive, inner_parts, piece_parts, parts}
use Rattle.bc_carved.specs.Laws.{IsPlaced}
use Rattle.bc_carved.proofs.Numbers.{at, count_nodes, count_each, nodes_append, picked_nodes}

-- ---- what is left without the parts

within_without : {A B : Type 0} (f : A → B) (ps : List (Part A)) → map (λ p. p.without) (map (within f) ps) ≡ map f (map (λ p. p.without) ps)
within_without f [] = refl
within_without f (p ∷ ps) = ap (λ xs. f p.without ∷ xs) (within_without f ps)

module _ (block : Leaf) (leaves : List Leaf) where
  halves_without : (whole : Shape) (r : ℕ → Piece) (n : ℕ) (is : List ℕ) → map (λ p. p.without) (half_spaces block leaves whole r n is) ≡ map r is
  halves_without whole r n [] = refl
  halves_without whole r n (i ∷ is) = ap (λ xs. r i ∷ xs) (halves_without whole r (n + 1) is)

  mutual
    inner_cuts : (round : List Shape) (n : ℕ) (s : Piece) → map (λ p. p.without) (inner_parts block leaves round n s) ≡ cuts s
    inner_cuts round n (less pos neg holes) =
        let whole = piece_shape block leaves round (less pos neg holes) in
        let A = half_spaces block leaves whole (λ i. less (without_bit pos i) neg holes) (first_positive block leaves round n pos neg holes) (places_below 64 pos) in
        let B = half_spaces block leaves whole (λ i. less pos (without_bit neg i) holes) (first_taken block leaves round n pos neg holes) (places_below 64 neg) in
        let k = first_taken block leaves round n pos neg holes + length (places_below 64 neg) in
        let C = map (within (less pos neg)) (piece_parts block leaves k holes) in
        map-append (λ p. p.without) A (B ++ C)
        ∙ ap (λ xs. xs ++ map (λ p. p.without) (B ++ C)) (halves_without whole (λ i. less (without_bit pos i) neg holes) (first_positive block leaves round n pos neg holes) (places_below 64 pos))
        ∙ ap (λ xs. map (λ i. less (without_bit pos i) neg holes) (places_below 64 pos) ++ xs)
        (map-append (λ p. p.without) B C
        ∙ ap (λ xs. xs ++ map (λ p. p.without) C) (halves_without whole (λ i. less pos (without_bit neg i) holes) (first_taken block leaves round n pos neg holes) (places_below 64 neg))
        ∙ ap (λ xs. map (λ i. less pos (without_bit neg i) holes) (places_below 64 neg) ++ xs) (within_without (less pos neg) (piece_parts block leaves k holes) ∙ ap (map (less pos neg)) (pieces_cuts k holes)))

    pieces_cuts : (n : ℕ) (ss : Pieces) → map (λ p. p.without) (piece_parts block leaves n ss) ≡ all_cuts ss
    pieces_cuts n none = refl
    pieces_cuts n (piece s ss) =
        let m = n + size (piece_shape block leaves [] s) in
        let A = map (within (λ t. piece t ss)) (inner_parts block leaves [] n s) in
        let B = map (within (piece s)) (piece_parts block leaves m ss) in
        ap (λ xs. ss ∷ xs)
        (map-append (λ p. p.without) A B
        ∙ ap (λ xs. xs ++ map (λ p. p.without) B) (within_without (λ t. piece t ss) (inner_parts block leaves [] n s) ∙ ap (map (λ t. piece t ss)) (inner_cuts [] n s))
        ∙ ap (λ xs. map (λ t. piece t ss) (cuts s) ++ xs) (within_without (piece s) (piece_parts block leaves m ss) ∙ ap (map (piece s)) (pieces_cuts m ss)))

  pub parts_cuts : (ss : Pieces) → map (λ p. p.without) (parts block leaves ss) ≡ all_cuts ss
  parts_cuts none = refl
  parts_cuts (piece s none) =
      ap (λ xs. none ∷ xs)
      (within_without (λ t. piece t none) (inner_parts block leaves (leaf block ∷ []) 0 s)
      ∙ ap (map (λ t. piece t none)) (inner_cuts (leaf block ∷ []) 0 s)
      ∙ sym (append-nil (map (λ t. piece t none) (cuts s))))
  parts_cuts (piece s (piece t ss)) = pieces_cuts 3 (piece s (piece t ss))

-- ---- where nodes stand

-- these nodes stand in all of them, the first at n
record Stand (all : List Shape) (n : ℕ) (xs : List Shape) : Type 0 where
  before : List Shape
  after : List Shape
  are : all ≡ before ++ (xs ++ after)
  count : length before ≡ n

at_end : (before : List Shape) (x : Shape) (xs : List Shape) → slice_get (before ++ x ∷ xs) (length before) ≡ Some x
at_end [] x xs = refl
at_end (b ∷ bs) x xs = at_end bs x xs

module _ (all : List Shape) where
  abbrev IsAt : {A : Type 0} → Part A → Type 0
  IsAt p = (n : ℕ) → p.place ≡ Some n → slice_get all n ≡ Some p.node

  head_stands : (n : ℕ) (x : Shape) (xs : List Shape) → Stand all n (x ∷ xs) → slice_get all n ≡ Some x
  head_stands n x xs st = ap (λ ns. slice_get ns n) st.are ∙ ap (λ k. slice_get (st.before ++ x ∷ (xs ++ st.after)) k) (sym st.count) ∙ at_end st.before x (xs ++ st.after)

  stand_left : (n : ℕ) (xs ys : List Shape) → Stand all n (xs ++ ys) → Stand all n xs
  stand_left n xs ys st = record { before = st.before; after = ys ++ st.after; are = st.are ∙ ap (λ ns. st.before ++ ns) (append_assoc xs ys st.after); count = st.count }

  stand_right : (n m : ℕ) (xs ys : List Shape) → n + length xs ≡ m → Stand all n (xs ++ ys) → Stand all m ys
  stand_right n m xs ys e st = record {
    before = st.before ++ xs;
    after = st.after;
    are = st.are ∙ ap (λ ns. st.before ++ ns) (append_assoc xs ys st.after) ∙ sym (append_assoc st.before xs (ys ++ st.after));
    count = let k = st.count in omega (arith, length-append st.before xs, k, e);
  }

  tail_stands : (n : ℕ) (x : Shape) (xs : List Shape) → Stand all n (x ∷ xs) → Stand all (n + 1) xs
  tail_stands n x xs st = stand_right n (n + 1) (x ∷ []) xs (omega arith) st

  same_stand : (n : ℕ) (xs ys : List Shape) → xs ≡ ys → Stand all n xs → Stand all n ys
  same_stand n xs ys e st = subst (Stand all n) e st

  -- the first node of a tree is the tree
  root_stands : (n : ℕ) (s : Shape) → Stand all n (nodes s) → slice_get all n ≡ Some s
  root_stands n (leaf l) st = head_stands n (leaf l) [] st
  root_stands n (union kids) st = head_stands n (union kids) (each_nodes kids) st
  root_stands n (meet kids) st = head_stands n (meet kids) (each_nodes kids) st
  root_stands n (cut first kids) st = head_stands n (cut first kids) (nodes first ++ each_nodes kids) st

  meet_stands : (block : Leaf) (n : ℕ) (xs : List Shape) → Stand all n (nodes (meet_of block xs)) → Stand all (in_meet n xs) (each_nodes (shapes_of xs))
  meet_stands block n [] st = stand_left n [] (leaf block ∷ []) st
  meet_stands block n (s ∷ []) st = same_stand n (nodes s) (nodes s ++ []) (sym (append-nil (nodes s))) st
  meet_stands block n (s ∷ t ∷ ss) st = tail_stands n (meet (shapes_of (s ∷ t ∷ ss))) (each_nodes (shapes_of (s ∷ t ∷ ss))) st

  cut_stands : (n : ℕ) (first : Shape) (xs : List Shape) → Stand all n (nodes (cut_of first xs)) → Stand all (in_cut n xs) (nodes first) × Stand all (in_cut n xs + size first) (each_nodes (shapes_of xs))
  cut_stands n first [] st = (st, stand_right n (n + size first) (nodes first) [] (ap (λ k. n + k) (count_nodes first)) (same_stand n (nodes first) (nodes first ++ []) (sym (append-nil (nodes first))) st))
  cut_stands n first (s ∷ ss) st =
      let kids = each_nodes (shapes_of (s ∷ ss)) in
      let inside = tail_stands n (cut first (shapes_of (s ∷ ss))) (nodes first ++ kids) st in
      (stand_left (n + 1) (nodes first) kids inside, stand_right (n + 1) (n + 1 + size first) (nodes first) kids (ap (λ k. n + 1 + k) (count_nodes first)) inside)

  own_is : (whole : Shape) (n k : ℕ) → own_place whole n ≡ Some k → n ≡ k
  own_is (leaf l) n k e = cc
  own_is (union kids) n k e = cc
  own_is (meet kids) n k e = cc
  own_is (cut first kids) n k e = cc

  -- ---- where parts stand

  module _ (block : Leaf) (leaves : List Leaf) (few : length leaves ≤ 64) where
    halves_stand : (whole : Shape) (r : ℕ → Piece) (n : ℕ) (is : List ℕ) → Stand all n (map (at block leaves) is) → All (λ (p : Part Piece). IsAt p) (half_spaces block leaves whole r n is)
    halves_stand whole r n [] st = All-nil (λ (p : Part Piece). IsAt p)
    halves_stand whole r n (i ∷ is) st =
        All-cons (λ (p : Part Piece). IsAt p) _ (half_spaces block leaves whole r (n + 1) is)
        (λ k e. ap (slice_get all) (sym (own_is whole n k e)) ∙ head_stands n (at block leaves i) (map (at block leaves) is) st)
        (halves_stand whole r (n + 1) is (tail_stands n (at block leaves i) (map (at block leaves) is) st))

    mutual
      inner_stand : (round : List Shape) (n : ℕ) (s : Piece) → AllProducts (IsProduct (length leaves)) s → Stand all n (nodes (piece_shape block leaves round s)) → All (λ (p : Part Piece). IsAt p) (inner_parts block leaves round n s)
      inner_stand round n (less pos neg holes) of st =
          let whole = piece_shape block leaves round (less pos neg holes) in
          let A = picked pos 0 leaves in
          let N = picked neg 0 leaves in
          let H = piece_shapes block leaves holes in
          let first = meet_of block (round ++ A) in
          let m = in_cut n (N ++ H) in
          let cuts = cut_stands n first (N ++ H) st in
          let common = same_stand (in_meet m (round ++ A)) _ _ (nodes_append round A) (meet_stands block m (round ++ A) cuts.0) in
          let positive = stand_right (in_meet m (round ++ A)) (first_positive block leaves round n pos neg holes) (each_nodes (shapes_of round)) (each_nodes (shapes_of A)) (ap (λ k. in_meet m (round ++ A) + k) (count_each (shapes_of round))) common in
          let taken = same_stand (m + size first) _ _ (nodes_append N H) cuts.1 in
          let negative = stand_left (m + size first) (each_nodes (shapes_of N)) (each_nodes (shapes_of H)) taken in
          let many : length (each_nodes (shapes_of N)) ≡ length (places_below 64 neg) = ap length (picked_nodes block leaves neg few of.0.1) ∙ length-map (places_below 64 neg) (at block leaves) in
          let hole = stand_right (m + size first) (m + size first + length (places_below 64 neg)) (each_nodes (shapes_of N)) (each_nodes (shapes_of H)) (ap (λ k. m + size first + k) many) taken in
          All-append (λ (p : Part Piece). IsAt p) _ _
          (halves_stand whole (λ i. less (without_bit pos i) neg holes) (first_positive block leaves round n pos neg holes) (places_below 64 pos) (same_stand _ _ _ (picked_nodes block leaves pos few of.0.0) positive))
          (All-append (λ (p : Part Piece). IsAt p) _ _
          (halves_stand whole (λ i. less pos (without_bit neg i) holes) (first_taken block leaves round n pos neg holes) (places_below 64 neg) (same_stand _ _ _ (picked_nodes block leaves neg few of.0.1) negative))
          (All-map (λ (p : Part Piece). IsAt p) (within (less pos neg)) (piece_parts block leaves (m + size first + length (places_below 64 neg)) holes) (pieces_stand (m + size first + length (places_below 64 neg)) holes of.1 hole)))

      pieces_stand : (n : ℕ) (ss : Pieces) → EachProduct (IsProduct (length leaves)) ss → Stand all n (each_nodes (shapes_of (piece_shapes block leaves ss))) → All (λ (p : Part Pieces). IsAt p) (piece_parts block leaves n ss)
      pieces_stand n none of st = All-nil (λ (p : Part Pieces). IsAt p)
      pieces_stand n (piece s ss) of st =
          let t = piece_shape block leaves [] s in
          let rest = each_nodes (shapes_of (piece_shapes block leaves ss)) in
          let here = stand_left n (nodes t) rest st in
          let later = stand_right n (n + size t) (nodes t) rest (ap (λ k. n + k) (count_nodes t)) st in
          All-cons (λ (p : Part Pieces). IsAt p) _ _
          (λ k e. let same : n ≡ k = cc in ap (slice_get all) (sym same) ∙ root_stands n t here)
          (All-append (λ (p : Part Pieces). IsAt p) _ _
          (All-map (λ (p : Part Pieces). IsAt p) (within (λ t. piece t ss)) (inner_parts block leaves [] n s) (inner_stand [] n s of.0 here))
          (All-map (λ (p : Part Pieces). IsAt p) (within (piece s)) (piece_parts block leaves (n + size t) ss) (pieces_stand (n + size t) ss of.1 later)))

-- ---- the whole

pub parts_stand : (block : Leaf) (leaves : List Leaf) (ss : Pieces) → length leaves ≤ 64 → EachProduct (IsProduct (length leaves)) ss → All (IsPlaced (carved_shape block leaves ss)) (parts block leaves ss)
parts_stand block leaves none few of = All-nil (IsPlaced (carved_shape block leaves none))
parts_stand block leaves (piece s none) few of =
    let t = piece_shape block leaves (leaf block ∷ []) s in
    let st : Stand (nodes t) 0 (nodes t) = record { before = []; after = []; are = sym (append-nil (nodes t)); count = refl } in
    All-cons (IsPlaced t) _ _
    (λ k e. let same : 0 ≡ k = cc in ap (slice_get (nodes t)) (sym same) ∙ root_stands (nodes t) 0 t st)
    (All-map (IsPlaced t) (within (λ t. piece t none)) (inner_parts block leaves (leaf block ∷ []) 0 s) (inner_stand (nodes t) block leaves few (leaf block ∷ []) 0 s of.0 st))
parts_stand block leaves (piece s (piece t ss)) few of =
    let all = piece s (piece t ss) in
    let inside = shapes_of (piece_shapes block leaves all) in
    let whole = carved_shape block leaves all in
    let st : Stand (nodes whole) 3 (each_nodes inside) = record { before = whole ∷ leaf block ∷ union inside ∷ []; after = []; are = refl; count = refl } in
    pieces_stand (nodes whole) block leaves few 3 all of st
