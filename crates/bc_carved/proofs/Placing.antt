-- The numbers of the nodes of parts, as they are counted.
use Rattle.std.proofs.Common.{◌≡◌, ◌≤◌, ◌<◌, ◌+◌, ◌*◌, ◌^◌, ◌||◌, ℕ, zero, suc, Bool, true, false, List, [], ◌∷◌, ◌++◌, map, length, drop, get_or, drop-cons, Option, Some, nat_eq, nat_lt, arith, refl, sym, ap, ◌∙◌, subst, append_assoc, append-nil, length-append, rules}
use Rattle.std.specs.Prelude.{count_ones, not}
use Rattle.std.proofs.Math.ListN.{drop_of_length-le}
use Rattle.std.proofs.lemmas.Bool.{lt-ltb, le-ltb, ne_eqb}
use Rattle.std.proofs.lemmas.List.{map-append}
use Rattle.bc_cover.specs.Masks.{without_bit, places_below}
use Rattle.bc_tree.specs.declared.tree.Leaf.{Leaf}
use Rattle.bc_tree.specs.Shape.{Shape, leaf, shapes_of, size, sizes}
use Rattle.bc_tree.specs.Cuts.{picked}
use Rattle.bc_factor.specs.Counts.{leaf_counts}
use Rattle.bc_carve.specs.declared.piece.Piece.{Piece as Coded, out-Piece, the_lemmas}
use Rattle.bc_carve.specs.Shape.{Shape as Piece, Shapes as Pieces, less, none, piece, shape as outline, shapes as outlines, AllProducts, EachProduct}
use Rattle.bc_carve.specs.Carving.{IsProduct}
use Rattle.bc_carved.specs.Carved.{meet_of, cut_of, piece_shape, piece_shapes, carved_shape}
use Rattle.bc_carved.specs.Parts.{within, own_place, half_spaces, in_meet, in_cut, first_taken, first_positive, inner_parts, piece_parts, places, Rise}
use Rattle.bc_carved.specs.Laws.{ArePlaces}
use Rattle.bc_carved.specs.Steps.{round_of, one_if, are_some, place_if, numbered, AddsInner, AddsPieces}
use Rattle.bc_carved.proofs.Counted.{picked_count}
use Rattle.bc_carved.proofs.Numbers.{at, sizes_append, picked_are, picked_size, cut_room}
use Rattle.bc_carved.proofs.Rising.{places_within, places_rise, rise_early}

-- ---- places one after another

pub numbered_length : (own : Bool) (n k : ℕ) → length (numbered own n k) ≡ k
numbered_length own n zero = refl
numbered_length own n (suc k) = omega (arith, numbered_length own (n + 1) k)

numbered_suc : (own : Bool) (n k : ℕ) → numbered own n (suc k) ≡ numbered own n k ++ place_if own (n + k) ∷ []
numbered_suc own n zero = let e : n ≡ n + 0 = omega arith in ap (λ m. place_if own m ∷ []) e
numbered_suc own n (suc k) =
    let e : n + 1 + k ≡ n + suc k = omega arith in
    ap (λ ps. place_if own n ∷ ps) (numbered_suc own (n + 1) k ∙ ap (λ m. numbered own (n + 1) k ++ place_if own m ∷ []) e)

pub numbered_pushed : (own : Bool) (n k : ℕ) (old mid new : List (Option ℕ)) (o : Option ℕ) → mid ≡ old ++ numbered own n k → o ≡ place_if own (n + k) → new ≡ mid ++ o ∷ [] → new ≡ old ++ numbered own n (k + 1)
numbered_pushed own n k old mid new o e f g =
    let up : suc k ≡ k + 1 = omega arith in
    g ∙ ap (λ ps. ps ++ o ∷ []) e ∙ append_assoc old (numbered own n k) (o ∷ [])
    ∙ ap (λ p. old ++ (numbered own n k ++ p ∷ [])) f
    ∙ ap (λ ps. old ++ ps) (sym (numbered_suc own n k) ∙ ap (numbered own n) up)

-- ---- counts

one_yes : (b : Bool) → b ≡ true → one_if b ≡ 1
one_yes b e = ap one_if e

one_no : (b : Bool) → b ≡ false → one_if b ≡ 0
one_no b e = ap one_if e

in_meet_count : (m : ℕ) (xs : List Shape) → in_meet m xs ≡ m + one_if (nat_lt 1 (length xs))
in_meet_count m [] = omega arith
in_meet_count m (s ∷ []) = omega arith
in_meet_count m (s ∷ t ∷ ss) =
    let many : one_if (nat_lt 1 (length (s ∷ t ∷ ss))) ≡ 1 = one_yes (nat_lt 1 (length (s ∷ t ∷ ss))) (lt-ltb 1 (length (s ∷ t ∷ ss)) (omega arith)) in
    omega (arith, many)

meet_size : (block : Leaf) (xs : List Shape) → sizes (shapes_of xs) ≡ length xs → size (meet_of block xs) ≡ length xs + one_if (nat_eq (length xs) 0) + one_if (nat_lt 1 (length xs))
meet_size block [] e = refl
meet_size block (s ∷ []) e = omega (arith, e)
meet_size block (s ∷ t ∷ ss) e =
    let xs = s ∷ t ∷ ss in
    let many : one_if (nat_lt 1 (length xs)) ≡ 1 = one_yes (nat_lt 1 (length xs)) (lt-ltb 1 (length xs) (omega arith)) in
    let some : one_if (nat_eq (length xs) 0) ≡ 0 = one_no (nat_eq (length xs) 0) (ne_eqb (length xs) 0 (λ z. omega (arith, z))) in
    omega (arith, many, some, e)

module _ (block : Leaf) (leaves : List Leaf) where
  round_size : (lone : Bool) → sizes (shapes_of (round_of block lone)) ≡ one_if lone
  round_size true = refl
  round_size false = refl

  round_length : (lone : Bool) → length (round_of block lone) ≡ one_if lone
  round_length true = refl
  round_length false = refl

  some_lt : (i : ℕ) (is : List ℕ) → nat_lt 0 (length (i ∷ is)) ≡ true
  some_lt i is = lt-ltb 0 (length (i ∷ is)) (omega arith)

  abbrev cuts_with : List ℕ → Pieces → Bool
  cuts_with qs holes = nat_lt 0 (length qs) || are_some holes

  in_cut_count : (n : ℕ) (qs : List ℕ) (holes : Pieces) → in_cut n (map (at block leaves) qs ++ piece_shapes block leaves holes) ≡ n + one_if (cuts_with qs holes)
  in_cut_count n [] none = omega arith
  in_cut_count n [] (piece s ss) = omega arith
  in_cut_count n (q ∷ qs) holes = let yes : one_if (cuts_with (q ∷ qs) holes) ≡ 1 = ap (λ b. one_if (b || are_some holes)) (some_lt q qs) in omega (arith, yes)

  own_count : (lone : Bool) (is qs : List ℕ) (holes : Pieces) (j : ℕ)
      → own_place (cut_of (meet_of block (round_of block lone ++ map (at block leaves) is)) (map (at block leaves) qs ++ piece_shapes block leaves holes)) j
      ≡ place_if (cuts_with qs holes || nat_lt 1 (one_if lone + length is)) j
  own_count lone is (q ∷ qs) holes j = sym (ap (λ b. place_if ((b || are_some holes) || nat_lt 1 (one_if lone + length is)) j) (some_lt q qs))
  own_count lone is [] (piece s ss) j = refl
  own_count true [] [] none j = refl
  own_count true (i ∷ is) [] none j = let many : nat_lt 1 (1 + length (i ∷ is)) ≡ true = lt-ltb 1 (1 + length (i ∷ is)) (omega arith) in sym (ap (λ b. place_if b j) many)
  own_count false [] [] none j = refl
  own_count false (i ∷ []) [] none j = refl
  own_count false (i ∷ k ∷ is) [] none j = let many : nat_lt 1 (0 + length (i ∷ k ∷ is)) ≡ true = lt-ltb 1 (0 + length (i ∷ k ∷ is)) (omega arith) in sym (ap (λ b. place_if b j) many)

  halves_numbered : (whole : Shape) (r : ℕ → Piece) (own : Bool) (n : ℕ) (is : List ℕ) → ((j : ℕ) → own_place whole j ≡ place_if own j) → map (λ p. p.place) (half_spaces block leaves whole r n is) ≡ numbered own n (length is)
  halves_numbered whole r own n [] e = refl
  halves_numbered whole r own n (i ∷ is) e = ap (λ p. p ∷ map (λ p. p.place) (half_spaces block leaves whole r (n + 1) is)) (e n) ∙ ap (λ ps. place_if own n ∷ ps) (halves_numbered whole r own (n + 1) is e)

  leaf_count_all : (is : List ℕ) → leaf_counts (shapes_of (map (at block leaves) is)) ≡ length is
  leaf_count_all [] = refl
  leaf_count_all (i ∷ is) = omega (arith, leaf_count_all is)

  module _ (few : length leaves ≤ 64) where
    -- a place for each bit
    ones_are : (word : ℕ) → word < 2 ^ length leaves → length (places_below 64 word) ≡ count_ones word
    ones_are word lt = sym (leaf_count_all (places_below 64 word)) ∙ ap (λ xs. leaf_counts (shapes_of xs)) (sym (picked_are block leaves word few lt)) ∙ picked_count word leaves lt

    module _ (lone : Bool) (n pos neg : ℕ) (holes : Pieces) (of : AllProducts (IsProduct (length leaves)) (less pos neg holes)) where
      abbrev round : List Shape
      round = round_of block lone

      abbrev taken : List Shape
      taken = picked neg 0 leaves ++ piece_shapes block leaves holes

      abbrev front : List Shape
      front = round ++ picked pos 0 leaves

      abbrev common : ℕ
      common = one_if lone + count_ones pos

      abbrev cuts : Bool
      cuts = nat_lt 0 (count_ones neg) || are_some holes

      abbrev behind : ℕ
      behind = n + one_if cuts + one_if (nat_lt 1 common) + common + one_if (nat_eq common 0)

      cut_at : in_cut n taken ≡ n + one_if cuts
      cut_at =
          ap (λ xs. in_cut n (xs ++ piece_shapes block leaves holes)) (picked_are block leaves neg few of.0.1) ∙ in_cut_count n (places_below 64 neg) holes
          ∙ ap (λ k. n + one_if (nat_lt 0 k || are_some holes)) (ones_are neg of.0.1)

      front_size : sizes (shapes_of front) ≡ common
      front_size = omega (arith, sizes_append round (picked pos 0 leaves), round_size lone, picked_size block leaves pos few of.0.0, ones_are pos of.0.0)

      front_length : length front ≡ common
      front_length =
          let leaves_in : length (picked pos 0 leaves) ≡ length (places_below 64 pos) = ap length (picked_are block leaves pos few of.0.0) ∙ length_at (places_below 64 pos) in
          omega (arith, length-append round (picked pos 0 leaves), round_length lone, leaves_in, ones_are pos of.0.0)
        where
          length_at : (is : List ℕ) → length (map (at block leaves) is) ≡ length is
          length_at [] = refl
          length_at (i ∷ is) = omega (arith, length_at is)

      positive_at : first_positive block leaves round n pos neg holes ≡ n + one_if cuts + one_if (nat_lt 1 common) + one_if lone
      positive_at =
          let many : one_if (nat_lt 1 (length front)) ≡ one_if (nat_lt 1 common) = ap (λ k. one_if (nat_lt 1 k)) front_length in
          omega (arith, cut_at, in_meet_count (in_cut n taken) front, many, round_size lone)

      taken_at : first_taken block leaves round n pos neg holes ≡ behind
      taken_at =
          let many : one_if (nat_lt 1 (length front)) ≡ one_if (nat_lt 1 common) = ap (λ k. one_if (nat_lt 1 k)) front_length in
          let no : one_if (nat_eq (length front) 0) ≡ one_if (nat_eq common 0) = ap (λ k. one_if (nat_eq k 0)) front_length in
          omega (arith, cut_at, meet_size block front (front_size ∙ sym front_length), many, no, front_length)

      owned : (j : ℕ) → own_place (piece_shape block leaves round (less pos neg holes)) j ≡ place_if (cuts || nat_lt 1 common) j
      owned j =
          ap (λ xs. own_place (cut_of (meet_of block (round ++ xs)) taken) j) (picked_are block leaves pos few of.0.0)
          ∙ ap (λ xs. own_place (cut_of (meet_of block (round ++ map (at block leaves) (places_below 64 pos))) (xs ++ piece_shapes block leaves holes)) j) (picked_are block leaves neg few of.0.1)
          ∙ own_count lone (places_below 64 pos) (places_below 64 neg) holes j
          ∙ ap (λ k. place_if ((nat_lt 0 k || are_some holes) || nat_lt 1 (one_if lone + length (places_below 64 pos))) j) (ones_are neg of.0.1)
          ∙ ap (λ k. place_if (cuts || nat_lt 1 (one_if lone + k)) j) (ones_are pos of.0.0)

      -- the places of the parts of a piece
      inner_are : map (λ p. p.place) (inner_parts block leaves round n (less pos neg holes))
          ≡ numbered (cuts || nat_lt 1 common) (n + one_if cuts + one_if (nat_lt 1 common) + one_if lone) (count_ones pos)
          ++ (numbered (cuts || nat_lt 1 common) behind (count_ones neg) ++ map (λ p. p.place) (piece_parts block leaves (behind + count_ones neg) holes))
      inner_are =
          let own = cuts || nat_lt 1 common in
          let whole = piece_shape block leaves round (less pos neg holes) in
          let p = first_positive block leaves round n pos neg holes in
          let k = first_taken block leaves round n pos neg holes in
          let r = λ (i : ℕ). less (without_bit pos i) neg holes in
          let o = λ (i : ℕ). less pos (without_bit neg i) holes in
          let A = half_spaces block leaves whole r p (places_below 64 pos) in
          let B = half_spaces block leaves whole o k (places_below 64 neg) in
          let C = piece_parts block leaves (k + length (places_below 64 neg)) holes in
          let a : map (λ p. p.place) A ≡ numbered own (n + one_if cuts + one_if (nat_lt 1 common) + one_if lone) (count_ones pos) =
          halves_numbered whole r own p (places_below 64 pos) owned ∙ ap (numbered own p) (ones_are pos of.0.0) ∙ ap (λ m. numbered own m (count_ones pos)) positive_at in
          let b : map (λ p. p.place) B ≡ numbered own behind (count_ones neg) =
          halves_numbered whole o own k (places_below 64 neg) owned ∙ ap (numbered own k) (ones_are neg of.0.1) ∙ ap (λ m. numbered own m (count_ones neg)) taken_at in
          let c : map (λ p. p.place) (map (within (less pos neg)) C) ≡ map (λ p. p.place) (piece_parts block leaves (behind + count_ones neg) holes) =
          places_within (less pos neg) C ∙ ap (λ m. map (λ p. p.place) (piece_parts block leaves (k + m) holes)) (ones_are neg of.0.1) ∙ ap (λ m. map (λ p. p.place) (piece_parts block leaves (m + count_ones neg) holes)) taken_at in
          map-append (λ p. p.place) A (B ++ map (within (less pos neg)) C)
          ∙ ap (λ ps. ps ++ map (λ p. p.place) (B ++ map (within (less pos neg)) C)) a
          ∙ ap (λ ps. numbered own (n + one_if cuts + one_if (nat_lt 1 common) + one_if lone) (count_ones pos) ++ ps)
          (map-append (λ p. p.place) B (map (within (less pos neg)) C)
          ∙ ap (λ ps. ps ++ map (λ p. p.place) (map (within (less pos neg)) C)) b
          ∙ ap (λ ps. numbered own behind (count_ones neg) ++ ps) c)

      inner_behind : behind + count_ones neg + sizes (shapes_of (piece_shapes block leaves holes)) ≡ n + size (piece_shape block leaves round (less pos neg holes))
      inner_behind =
          omega (arith, taken_at, cut_room n (meet_of block front) taken, sizes_append (picked neg 0 leaves) (piece_shapes block leaves holes), picked_size block leaves neg few of.0.1, ones_are neg of.0.1)

-- ---- the steps

module _ (lone : Bool) (n pos neg : ℕ) (holes : Pieces) where
  abbrev all_common : ℕ
  all_common = one_if lone + count_ones pos

  abbrev all_cut : Bool
  all_cut = nat_lt 0 (count_ones neg) || are_some holes

  abbrev owned_all : Bool
  owned_all = all_cut || nat_lt 1 all_common

  abbrev inside_at : ℕ
  inside_at = n + one_if all_cut + one_if (nat_lt 1 all_common)

  abbrev behind_at : ℕ
  behind_at = inside_at + all_common + one_if (nat_eq all_common 0)

  inner_base : (old one two new : List (Option ℕ)) (m : ℕ) → one ≡ old ++ numbered owned_all (inside_at + one_if lone) (count_ones pos) → two ≡ one ++ numbered owned_all behind_at (count_ones neg)
      → AddsPieces (behind_at + count_ones neg) holes two new m → AddsInner lone n (less pos neg holes) old new m
  inner_base old one two new m e f rest = record {
    added = λ block leaves few of.
        let A = numbered owned_all (inside_at + one_if lone) (count_ones pos) in
        let B = numbered owned_all behind_at (count_ones neg) in
        let C = map (λ p. p.place) (piece_parts block leaves (behind_at + count_ones neg) holes) in
        rest.added block leaves few of.1
        ∙ ap (λ ps. ps ++ C) (f ∙ ap (λ ps. ps ++ B) e)
        ∙ append_assoc (old ++ A) B C
        ∙ append_assoc old A (B ++ C)
        ∙ ap (λ ps. old ++ ps) (sym (inner_are block leaves few lone n pos neg holes of));
    behind = λ block leaves few of. rest.behind block leaves few of.1 ∙ inner_behind block leaves few lone n pos neg holes of;
  }

  pub inner_made : (s : Piece) (cuts own : Bool) (front a b d : ℕ) (old one two new : List (Option ℕ)) (m : ℕ)
      → s ≡ less pos neg holes → cuts ≡ all_cut → front ≡ one_if lone → own ≡ (cuts || nat_lt 1 (front + count_ones pos))
      → a ≡ one_if cuts → b ≡ one_if (nat_lt 1 (front + count_ones pos)) → d ≡ one_if (nat_eq (front + count_ones pos) 0)
      → one ≡ old ++ numbered own (n + a + b + front) (count_ones pos) → two ≡ one ++ numbered own (n + a + b + (front + count_ones pos) + d) (count_ones neg)
      → AddsPieces (n + a + b + (front + count_ones pos) + d + count_ones neg) holes two new m → AddsInner lone n s old new m
  inner_made s cuts own front a b d old one two new m es ec ef eo ea eb ed e1 e2 rest =
      let fa : a ≡ one_if all_cut = ea ∙ ap one_if ec in
      let fb : b ≡ one_if (nat_lt 1 all_common) = eb ∙ ap (λ f. one_if (nat_lt 1 (f + count_ones pos))) ef in
      let fd : d ≡ one_if (nat_eq all_common 0) = ed ∙ ap (λ f. one_if (nat_eq (f + count_ones pos) 0)) ef in
      let fo : own ≡ owned_all = eo ∙ ap (λ c. c || nat_lt 1 (front + count_ones pos)) ec ∙ ap (λ f. all_cut || nat_lt 1 (f + count_ones pos)) ef in
      let p : n + a + b + front ≡ inside_at + one_if lone = omega (arith, fa, fb, ef) in
      let q : n + a + b + (front + count_ones pos) + d ≡ behind_at = omega (arith, fa, fb, fd, ef) in
      subst (λ (s : Piece). AddsInner lone n s old new m) (sym es)
      (inner_base old one two new m
      (e1 ∙ ap (λ o. old ++ numbered o (n + a + b + front) (count_ones pos)) fo ∙ ap (λ j. old ++ numbered owned_all j (count_ones pos)) p)
      (e2 ∙ ap (λ o. one ++ numbered o (n + a + b + (front + count_ones pos) + d) (count_ones neg)) fo ∙ ap (λ j. one ++ numbered owned_all j (count_ones neg)) q)
      (subst (λ (j : ℕ). AddsPieces (j + count_ones neg) holes two new m) q rest))

one_most : (b : Bool) → one_if b ≤ 1
one_most true = omega arith
one_most false = omega arith

-- a lone piece has the block in common
lone_or_none : (lone : Bool) (k : ℕ) → one_if lone + one_if (nat_eq (one_if lone + k) 0) ≤ 1
lone_or_none true k = let some : one_if (nat_eq (1 + k) 0) ≡ 0 = one_no (nat_eq (1 + k) 0) (ne_eqb (1 + k) 0 (λ z. omega (arith, z))) in omega (arith, some)
lone_or_none false k = omega (arith, one_most (nat_eq (0 + k) 0))

-- at most three nodes stand for each part
pub soon_enough : (lone cuts own other : Bool) (n front a b d k q x y : ℕ) (old one two : List (Option ℕ)) → front ≡ one_if lone → a ≡ one_if cuts → b ≡ one_if other → d ≡ one_if (nat_eq (front + k) 0)
    → one ≡ old ++ numbered own x k → two ≡ one ++ numbered own y q → n ≤ 3 * length old + 1 → n + a + b + (front + k) + d + q ≤ 3 * length two + 4
soon_enough lone cuts own other n front a b d k q x y old one two ef ea eb ed e1 e2 le =
    let fd : d ≡ one_if (nat_eq (one_if lone + k) 0) = ed ∙ ap (λ f. one_if (nat_eq (f + k) 0)) ef in
    let l1 : length one ≡ length old + k = ap length e1 ∙ length-append old (numbered own x k) ∙ ap (λ j. length old + j) (numbered_length own x k) in
    let l2 : length two ≡ length one + q = ap length e2 ∙ length-append one (numbered own y q) ∙ ap (λ j. length one + j) (numbered_length own y q) in
    omega (arith, lone_or_none lone k, one_most cuts, one_most other, fd, l1, l2)

-- nothing is taken away where there are no negative half-spaces and no holes
pub no_cut : (negative : ℕ) (holes : List Coded) (b : Bool) → b ≡ nat_eq (length holes) 0 → negative ≤ 0 → not b ≡ (nat_lt 0 negative || are_some (outlines holes))
no_cut negative [] b e le = ap not e ∙ sym (ap (λ t. t || false) (le-ltb 0 negative le))
no_cut negative (h ∷ hs) b e le =
    ap not (e ∙ ne_eqb (length (h ∷ hs)) 0 (λ z. omega (arith, z))) ∙ sym (ap (λ t. t || true) (le-ltb 0 negative le))

pub piece_is : (p : Coded) (holes : List Coded) → holes ≡ (out-Piece p).holes → outline p ≡ less (out-Piece p).pos (out-Piece p).neg (outlines holes)
piece_is p holes e =
    let rolled : outline p ≡ less (out-Piece p).pos (out-Piece p).neg (outlines (out-Piece p).holes) = search (rules, the_lemmas) in
    rolled ∙ ap (λ hs. less (out-Piece p).pos (out-Piece p).neg (outlines hs)) (sym e)

-- ---- pieces one after another

-- the first of all pieces has number n, the first of the rest number m; the new list with the places of the rest is the old one
-- with those of all pieces
pub record WithRest (n : ℕ) (ss : Pieces) (m : ℕ) (rest : Pieces) (old new : List (Option ℕ)) : Type 0 where
  pub products : (k : ℕ) → EachProduct (IsProduct k) ss → EachProduct (IsProduct k) rest
  pub places : (block : Leaf) (leaves : List Leaf) → length leaves ≤ 64 → EachProduct (IsProduct (length leaves)) ss
      → new ++ map (λ p. p.place) (piece_parts block leaves m rest) ≡ old ++ map (λ p. p.place) (piece_parts block leaves n ss)
  pub behind : (block : Leaf) (leaves : List Leaf) → length leaves ≤ 64 → EachProduct (IsProduct (length leaves)) ss
      → m + sizes (shapes_of (piece_shapes block leaves rest)) ≡ n + sizes (shapes_of (piece_shapes block leaves ss))

-- one piece more
rest_step : (n m : ℕ) (ss rest : Pieces) (s : Piece) (k : ℕ) (old mid pushed new : List (Option ℕ)) → WithRest n ss m (piece s rest) old mid → pushed ≡ mid ++ Some m ∷ [] → AddsInner false m s pushed new k → WithRest n ss k rest old new
rest_step n m ss rest s k old mid pushed new w e h = record {
  products = λ j of. (w.products j of).1;
  places = λ block leaves few of.
      let one = (w.products (length leaves) of).0 in
      let t = piece_shape block leaves [] s in
      let A = inner_parts block leaves [] m s in
      let B = piece_parts block leaves (m + size t) rest in
      let whole : map (λ p. p.place) (piece_parts block leaves m (piece s rest)) ≡ Some m ∷ (map (λ p. p.place) A ++ map (λ p. p.place) B) =
      ap (λ ps. Some m ∷ ps)
      (map-append (λ p. p.place) (map (within (λ t. piece t rest)) A) (map (within (piece s)) B)
      ∙ ap (λ ps. ps ++ map (λ p. p.place) (map (within (piece s)) B)) (places_within (λ t. piece t rest) A)
      ∙ ap (λ ps. map (λ p. p.place) A ++ ps) (places_within (piece s) B)) in
      ap (λ j. new ++ map (λ p. p.place) (piece_parts block leaves j rest)) (h.behind block leaves few one)
      ∙ ap (λ ps. ps ++ map (λ p. p.place) B) (h.added block leaves few one ∙ ap (λ ps. ps ++ map (λ p. p.place) A) e)
      ∙ append_assoc (mid ++ Some m ∷ []) (map (λ p. p.place) A) (map (λ p. p.place) B)
      ∙ append_assoc mid (Some m ∷ []) (map (λ p. p.place) A ++ map (λ p. p.place) B)
      ∙ ap (λ ps. mid ++ ps) (sym whole)
      ∙ w.places block leaves few of;
  behind = λ block leaves few of. omega (arith, h.behind block leaves few (w.products (length leaves) of).0, w.behind block leaves few of);
}

pub rest_pushed : (n m : ℕ) (pieces : List Coded) (i : ℕ) (item : Coded) (k : ℕ) (old mid pushed new : List (Option ℕ)) → i < length pieces → item ≡ get_or pieces i item
    → WithRest n (outlines pieces) m (outlines (drop i pieces)) old mid → pushed ≡ mid ++ Some m ∷ [] → AddsInner false m (outline item) pushed new k
    → WithRest n (outlines pieces) k (outlines (drop (i + 1) pieces)) old new
rest_pushed n m pieces i item k old mid pushed new lt is w e h =
    let up : suc i ≡ i + 1 = omega arith in
    let cons : drop i pieces ≡ item ∷ drop (suc i) pieces = drop-cons pieces i item lt ∙ ap (λ p. p ∷ drop (suc i) pieces) (sym is) in
    let w' : WithRest n (outlines pieces) m (piece (outline item) (outlines (drop (i + 1) pieces))) old mid =
    subst (λ (j : ℕ). WithRest n (outlines pieces) m (piece (outline item) (outlines (drop j pieces))) old mid) up (subst (λ (ps : List Coded). WithRest n (outlines pieces) m (outlines ps) old mid) cons w) in
    rest_step n m (outlines pieces) (outlines (drop (i + 1) pieces)) (outline item) k old mid pushed new w' e h

pub rest_none : (n m : ℕ) (pieces : List Coded) (i : ℕ) (old new : List (Option ℕ)) → length pieces ≤ i → WithRest n (outlines pieces) m (outlines (drop i pieces)) old new → AddsPieces n (outlines pieces) old new m
rest_none n m pieces i old new le w =
    let end : WithRest n (outlines pieces) m none old new = subst (λ (ps : List Coded). WithRest n (outlines pieces) m (outlines ps) old new) (drop_of_length-le pieces le) w in
    record {
      added = λ block leaves few of. sym (append-nil new) ∙ end.places block leaves few of;
      behind = λ block leaves few of. let e = end.behind block leaves few of in omega (arith, e);
    }

pub rest_all : (n : ℕ) (ss : Pieces) (old : List (Option ℕ)) → WithRest n ss n ss old old
rest_all n ss old = record { products = λ k of. of; places = λ block leaves few of. refl; behind = λ block leaves few of. refl }

-- ---- the whole

module _ (ss : Pieces) (new : List (Option ℕ)) (m : ℕ) (few : m < 2 ^ 100)
    (are : (block : Leaf) (leaves : List Leaf) → length leaves ≤ 64 → EachProduct (IsProduct (length leaves)) ss → new ≡ places block leaves ss)
    (end : (block : Leaf) (leaves : List Leaf) → length leaves ≤ 64 → EachProduct (IsProduct (length leaves)) ss → m ≡ size (carved_shape block leaves ss)) where
  whole_placed : ArePlaces ss new
  whole_placed = record {
    are = are;
    early = λ block leaves most of.
        subst (Rise 0 (2 ^ 100)) (sym (are block leaves most of))
        (rise_early 0 (size (carved_shape block leaves ss)) (2 ^ 100) (places block leaves ss) (omega (arith, few, end block leaves most of)) (places_rise block leaves ss most of));
  }

pub lone_placed : (s : Piece) (first new : List (Option ℕ)) (m : ℕ) → first ≡ Some 0 ∷ [] → AddsInner true 0 s first new m → m < 2 ^ 100 → ArePlaces (piece s none) new
lone_placed s first new m e h few =
    whole_placed (piece s none) new m few
    (λ block leaves most of.
    let inner = inner_parts block leaves (leaf block ∷ []) 0 s in
    h.added block leaves most of.0 ∙ ap (λ ps. ps ++ map (λ p. p.place) inner) e ∙ ap (λ ps. Some 0 ∷ ps) (sym (places_within (λ t. piece t none) inner)))
    (λ block leaves most of. let end = h.behind block leaves most of.0 in omega (arith, end))

pub several_placed : (s t : Piece) (ss : Pieces) (first new : List (Option ℕ)) (m : ℕ) → first ≡ [] → AddsPieces 3 (piece s (piece t ss)) first new m → m < 2 ^ 100 → ArePlaces (piece s (piece t ss)) new
several_placed s t ss first new m e h few =
    let all = piece s (piece t ss) in
    whole_placed all new m few
    (λ block leaves most of. h.added block leaves most of ∙ ap (λ ps. ps ++ map (λ p. p.place) (piece_parts block leaves 3 all)) e)
    (λ block leaves most of. let end = h.behind block leaves most of in omega (arith, end))

pub only_one : (pieces : List Coded) (p : Coded) → length pieces ≡ 1 → p ≡ get_or pieces 0 p → outlines pieces ≡ piece (outline p) none
only_one [] p one e = absurd (omega (arith, one))
only_one (q ∷ []) p one e = ap (λ r. piece (outline r) none) (sym e)
only_one (q ∷ r ∷ ps) p one e = absurd (omega (arith, one))

pub all_placed : (pieces : List Coded) (first new : List (Option ℕ)) (m : ℕ) → 2 ≤ length pieces → first ≡ [] → AddsPieces 3 (outlines pieces) first new m → m < 2 ^ 100 → ArePlaces (outlines pieces) new
all_placed [] first new m two e h few = absurd (omega (arith, two))
all_placed (p ∷ []) first new m two e h few = absurd (omega (arith, two))
all_placed (p ∷ q ∷ ps) first new m two e h few = several_placed (outline p) (outline q) (outlines ps) first new m e h few
