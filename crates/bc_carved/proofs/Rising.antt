-- The places of the parts of a carving ascend strictly.
use Rattle.std.proofs.Common.{◌≡◌, ◌≤◌, ◌+◌, ◌⊎◌, ℕ, List, [], ◌∷◌, ◌++◌, map, length, Option, None, Some, arith, refl, sym, ap, ◌∙◌, subst, inl, inr, ⊎_elim}
use Rattle.std.proofs.lemmas.List.{map-append}
use Rattle.bc_cover.specs.Masks.{without_bit, places_below}
use Rattle.bc_tree.specs.declared.tree.Leaf.{Leaf}
use Rattle.bc_tree.specs.Shape.{Shape, leaf, union, meet, cut, shapes_of, size, sizes}
use Rattle.bc_tree.specs.Cuts.{picked}
use Rattle.bc_carve.specs.Shape.{Shape as Piece, Shapes as Pieces, less, none, piece, AllProducts, EachProduct}
use Rattle.bc_carve.specs.Carving.{IsProduct}
use Rattle.bc_carved.specs.Carved.{meet_of, cut_of, piece_shape, piece_shapes, carved_shape}
use Rattle.bc_carved.specs.Parts.{Part, within, own_place, half_spaces, in_meet, in_cut, first_taken, first_positive, inner_parts, piece_parts, places, Rise}
use Rattle.bc_carved.proofs.Numbers.{at, size_some, sizes_append, picked_are, picked_size, in_meet_from, in_cut_from, meet_room, cut_room}

-- ---- lists of places

rise_from : (n k m : ℕ) (ps : List (Option ℕ)) → n ≤ k → Rise k m ps → Rise n m ps
rise_from n k m [] le h = tt
rise_from n k m (None ∷ ps) le h = rise_from n k m ps le h
rise_from n k m (Some j ∷ ps) le h = (omega (arith, le, h.0), h.1, h.2)

rise_append : (n k m : ℕ) (ps qs : List (Option ℕ)) → n ≤ k → k ≤ m → Rise n k ps → Rise k m qs → Rise n m (ps ++ qs)
rise_append n k m [] qs le room h l = rise_from n k m qs le l
rise_append n k m (None ∷ ps) qs le room h l = rise_append n k m ps qs le room h l
rise_append n k m (Some j ∷ ps) qs le room h l = (h.0, omega (arith, room, h.1), rise_append (j + 1) k m ps qs (omega (arith, h.1)) room h.2 l)

pub places_within : {A B : Type 0} (f : A → B) (ps : List (Part A)) → map (λ p. p.place) (map (within f) ps) ≡ map (λ p. p.place) ps
places_within f [] = refl
places_within f (p ∷ ps) = ap (λ xs. p.place ∷ xs) (places_within f ps)

-- a tree is a leaf, so its half-spaces have no place, or it is none, and they have
pub own_or_not : (whole : Shape) → ((n : ℕ) → own_place whole n ≡ None) ⊎ ((n : ℕ) → own_place whole n ≡ Some n)
own_or_not (leaf l) = inl (λ n. refl)
own_or_not (union kids) = inr (λ n. refl)
own_or_not (meet kids) = inr (λ n. refl)
own_or_not (cut first kids) = inr (λ n. refl)

module _ (block : Leaf) (leaves : List Leaf) where
  abbrev halves : Shape → (ℕ → Piece) → ℕ → List ℕ → List (Option ℕ)
  halves whole r n is = map (λ p. p.place) (half_spaces block leaves whole r n is)

  halves_rise : (whole : Shape) (r : ℕ → Piece) (lo n m : ℕ) (is : List ℕ) → lo ≤ n → n + length is ≤ m → Rise lo m (halves whole r n is)
  halves_rise whole r lo n m [] le room = tt
  halves_rise whole r lo n m (i ∷ is) le room =
      let W : Option ℕ → Type 0 = λ o. Rise lo m (o ∷ halves whole r (n + 1) is) in
      ⊎_elim
      (λ no. subst W (sym (no n)) (halves_rise whole r lo (n + 1) m is (omega (arith, le)) (omega (arith, room))))
      (λ yes. subst W (sym (yes n)) (le, omega (arith, room), halves_rise whole r (n + 1) (n + 1) m is (omega arith) (omega (arith, room))))
      (own_or_not whole)

  -- of a leaf no half-space has a place
  halves_none : (whole : Shape) (r : ℕ → Piece) (lo n m : ℕ) (is : List ℕ) → ((k : ℕ) → own_place whole k ≡ None) → Rise lo m (halves whole r n is)
  halves_none whole r lo n m [] bare = tt
  halves_none whole r lo n m (i ∷ is) bare = subst (λ o. Rise lo m (o ∷ halves whole r (n + 1) is)) (sym (bare n)) (halves_none whole r lo (n + 1) m is bare)

  -- where a tree is no leaf, its half-spaces come behind its own node
  first_later : (round : List Shape) (n : ℕ) (is : List ℕ) (taken : List Shape)
      → ((k : ℕ) → own_place (cut_of (meet_of block (round ++ map (at block leaves) is)) taken) k ≡ None) ⊎ (n + 1 ≤ in_meet (in_cut n taken) (round ++ map (at block leaves) is) + sizes (shapes_of round))
  first_later round n is (t ∷ ts) = inr (omega (arith, in_meet_from (n + 1) (round ++ map (at block leaves) is)))
  first_later [] n [] [] = inl (λ k. refl)
  first_later [] n (i ∷ []) [] = inl (λ k. refl)
  first_later [] n (i ∷ j ∷ is) [] = inr (omega arith)
  first_later (r ∷ rs) n is [] = inr (omega (arith, in_meet_from n (r ∷ rs ++ map (at block leaves) is), size_some r))

  module _ (few : length leaves ≤ 64) where
    mutual
      inner_rise : (round : List Shape) (n : ℕ) (s : Piece) → AllProducts (IsProduct (length leaves)) s → Rise (n + 1) (n + size (piece_shape block leaves round s)) (map (λ p. p.place) (inner_parts block leaves round n s))
      inner_rise round n (less pos neg holes) of =
          let whole = piece_shape block leaves round (less pos neg holes) in
          let A = picked pos 0 leaves in
          let N = picked neg 0 leaves in
          let H = piece_shapes block leaves holes in
          let first = meet_of block (round ++ A) in
          let m = in_cut n (N ++ H) in
          let p = first_positive block leaves round n pos neg holes in
          let k = first_taken block leaves round n pos neg holes in
          let q = k + length (places_below 64 neg) in
          let end : k + sizes (shapes_of (N ++ H)) ≡ n + size whole = cut_room n first (N ++ H) in
          let both : sizes (shapes_of (N ++ H)) ≡ length (places_below 64 neg) + sizes (shapes_of H) = omega (arith, sizes_append N H, picked_size block leaves neg few of.0.1) in
          let later : n + 1 ≤ k = omega (arith, in_cut_from n (N ++ H), size_some first) in
          let room : p + length (places_below 64 pos) ≤ k = omega (arith, meet_room block m (round ++ A), sizes_append round A, picked_size block leaves pos few of.0.0) in
          let r = λ (i : ℕ). less (without_bit pos i) neg holes in
          let o = λ (i : ℕ). less pos (without_bit neg i) holes in
          let B = half_spaces block leaves whole r p (places_below 64 pos) in
          let C = half_spaces block leaves whole o k (places_below 64 neg) in
          let D = map (within (less pos neg)) (piece_parts block leaves q holes) in
          let positive : Rise (n + 1) k (halves whole r p (places_below 64 pos)) =
          ⊎_elim
          (λ no. halves_none whole r (n + 1) p k (places_below 64 pos) no)
          (λ le. halves_rise whole r (n + 1) p k (places_below 64 pos) le room)
          (subst (λ (xs : List Shape). ((j : ℕ) → own_place (cut_of (meet_of block (round ++ xs)) (N ++ H)) j ≡ None) ⊎ (n + 1 ≤ in_meet (in_cut n (N ++ H)) (round ++ xs) + sizes (shapes_of round))) (sym (picked_are block leaves pos few of.0.0)) (first_later round n (places_below 64 pos) (N ++ H))) in
          let negative : Rise k q (halves whole o k (places_below 64 neg)) = halves_rise whole o k k q (places_below 64 neg) (omega arith) (omega arith) in
          let hole : Rise q (n + size whole) (map (λ p. p.place) D) =
          subst (λ (xs : List (Option ℕ)). Rise q (n + size whole) xs) (sym (places_within (less pos neg) (piece_parts block leaves q holes)))
          (subst (λ (e : ℕ). Rise q e (map (λ p. p.place) (piece_parts block leaves q holes))) (omega (arith, end, both)) (pieces_rise q holes of.1)) in
          subst (λ (xs : List (Option ℕ)). Rise (n + 1) (n + size whole) xs)
          (sym (map-append (λ p. p.place) B (C ++ D) ∙ ap (λ xs. map (λ p. p.place) B ++ xs) (map-append (λ p. p.place) C D)))
          (rise_append (n + 1) k (n + size whole) (map (λ p. p.place) B) (map (λ p. p.place) C ++ map (λ p. p.place) D) later (omega (arith, end)) positive
          (rise_append k q (n + size whole) (map (λ p. p.place) C) (map (λ p. p.place) D) (omega arith) (omega (arith, end, both)) negative hole))

      pieces_rise : (n : ℕ) (ss : Pieces) → EachProduct (IsProduct (length leaves)) ss → Rise n (n + sizes (shapes_of (piece_shapes block leaves ss))) (map (λ p. p.place) (piece_parts block leaves n ss))
      pieces_rise n none of = tt
      pieces_rise n (piece s ss) of =
          let t = piece_shape block leaves [] s in
          let more = sizes (shapes_of (piece_shapes block leaves ss)) in
          let end = n + (size t + more) in
          let A = inner_parts block leaves [] n s in
          let B = piece_parts block leaves (n + size t) ss in
          let later : Rise (n + size t) end (map (λ p. p.place) B) = subst (λ (e : ℕ). Rise (n + size t) e (map (λ p. p.place) B)) (omega arith) (pieces_rise (n + size t) ss of.1) in (
            omega arith,
            omega (arith, size_some t),
            subst (λ (xs : List (Option ℕ)). Rise (n + 1) end xs)
                (sym (map-append (λ p. p.place) (map (within (λ t. piece t ss)) A) (map (within (piece s)) B)
                ∙ ap (λ xs. xs ++ map (λ p. p.place) (map (within (piece s)) B)) (places_within (λ t. piece t ss) A)
                ∙ ap (λ xs. map (λ p. p.place) A ++ xs) (places_within (piece s) B)))
                (rise_append (n + 1) (n + size t) end (map (λ p. p.place) A) (map (λ p. p.place) B) (omega (arith, size_some t)) (omega arith) (inner_rise [] n s of.0) later),
          )

pub places_rise : (block : Leaf) (leaves : List Leaf) (ss : Pieces) → length leaves ≤ 64 → EachProduct (IsProduct (length leaves)) ss → Rise 0 (size (carved_shape block leaves ss)) (places block leaves ss)
places_rise block leaves none few of = tt
places_rise block leaves (piece s none) few of =
    let t = piece_shape block leaves (leaf block ∷ []) s in (
      omega arith,
      omega (arith, size_some t),
      subst (λ (xs : List (Option ℕ)). Rise 1 (size t) xs) (sym (places_within (λ t. piece t none) (inner_parts block leaves (leaf block ∷ []) 0 s)))
          (subst (λ (e : ℕ). Rise 1 e (map (λ p. p.place) (inner_parts block leaves (leaf block ∷ []) 0 s))) (omega arith) (inner_rise block leaves few (leaf block ∷ []) 0 s of.0)),
    )
places_rise block leaves (piece s (piece t ss)) few of =
    let all = piece s (piece t ss) in
    let list = map (λ p. p.place) (piece_parts block leaves 3 all) in
    rise_from 0 3 (size (carved_shape block leaves all)) list (omega arith)
    (subst (λ (e : ℕ). Rise 3 e list) (omega arith) (pieces_rise block leaves few 3 all of))

-- below a greater number too
pub rise_early : (n m k : ℕ) (ps : List (Option ℕ)) → m ≤ k → Rise n m ps → Rise n k ps
rise_early n m k [] le h = tt
rise_early n m k (None ∷ ps) le h = rise_early n m k ps le h
rise_early n m k (Some j ∷ ps) le h = (h.0, omega (arith, le, h.1), rise_early (j + 1) m k ps le h.2)
