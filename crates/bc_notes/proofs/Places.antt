-- The places of some products and their literals are those of the cuts and of the leaves that are no boxes.
use Rattle.std.proofs.Common.{◌≡◌, ℕ, suc, ◌+◌, Bool, true, false, List, [], ◌∷◌, ◌++◌, map, length, nat_eq, if◌then◌else◌, refl, sym, ap, ◌∙◌, subst, arith, ⊎_elim, append_assoc}
use Rattle.std.specs.Prelude.{filter, slice_index_or}
use Rattle.std.specs.List.{All}
use Rattle.std.specs.Int.{bit_at}
use Rattle.std.proofs.lemmas.Bool.{cases_Bool}
use mathlib.Core.List.{map-map}
use Rattle.std.proofs.lemmas.List.{length-map, map-append, append-nil}
use Rattle.std.proofs.lemmas.List.Elements.{All-head, All-tail}
use Rattle.bc_cover.specs.Masks.{places_below}
use Rattle.bc_cover.specs.Covers.{Literal, positive, negative}
use Rattle.bc_tree.specs.declared.tree.Leaf.{Leaf}
use Rattle.bc_tree.specs.Shape.{Shape, leaf, meet, shapes_of}
use Rattle.bc_tree.specs.declared.product.Product.{Product}
use Rattle.bc_tree.specs.Cuts.{picked, product_shape, products_shape}
use Rattle.bc_notes.specs.Nodes.{nodes, each_nodes, Node, numbered_from, is_half_space, is_noted, noted_nodes}
use Rattle.bc_notes.specs.Products.{literals_of}
use Rattle.bc_notes.specs.Noted.{noted_literals, noted_product, noted_products, noted, half_space_of, node_of}

-- ---- counting

abbrev chosen : ℕ → List Shape → List Node
chosen n ss = filter (λ (m : Node). is_noted m.shape) (numbered_from n ss)

chosen_yes : (n : ℕ) (s : Shape) (ss : List Shape) → is_noted s ≡ true → chosen n (s ∷ ss) ≡ record { place = n; shape = s } ∷ chosen (n + 1) ss
chosen_yes n s ss e = ap (λ b. if b then record { place = n; shape = s } ∷ chosen (n + 1) ss else chosen (n + 1) ss) e

chosen_no : (n : ℕ) (s : Shape) (ss : List Shape) → is_noted s ≡ false → chosen n (s ∷ ss) ≡ chosen (n + 1) ss
chosen_no n s ss e = ap (λ b. if b then record { place = n; shape = s } ∷ chosen (n + 1) ss else chosen (n + 1) ss) e

next : (n k : ℕ) → n + 1 + k ≡ n + suc k
next n k = omega arith

chosen_append : (n : ℕ) (xs ys : List Shape) → chosen n (xs ++ ys) ≡ chosen n xs ++ chosen (n + length xs) ys
chosen_append n [] ys = let e : n ≡ n + 0 = omega arith in ap (λ m. chosen m ys) e
chosen_append n (x ∷ xs) ys =
    let later : chosen (n + 1) (xs ++ ys) ≡ chosen (n + 1) xs ++ chosen (n + length (x ∷ xs)) ys = chosen_append (n + 1) xs ys ∙ ap (λ m. chosen (n + 1) xs ++ chosen m ys) (next n (length xs)) in
    ⊎_elim
    (λ yes. chosen_yes n x (xs ++ ys) yes ∙ ap (λ ms. record { place = n; shape = x } ∷ ms) later ∙ sym (ap (λ ms. ms ++ chosen (n + length (x ∷ xs)) ys) (chosen_yes n x xs yes)))
    (λ no. chosen_no n x (xs ++ ys) no ∙ later ∙ sym (ap (λ ms. ms ++ chosen (n + length (x ∷ xs)) ys) (chosen_no n x xs no)))
    (cases_Bool (is_noted x))

-- ---- the leaves of a word

module _ (word : ℕ) where
  picked_nodes : (i : ℕ) (ls : List Leaf) → each_nodes (shapes_of (picked word i ls)) ≡ picked word i ls
  picked_nodes i [] = refl
  picked_nodes i (l ∷ ls) =
      let rest = picked word (i + 1) ls in
      let W : Bool → Type 0 = λ b. each_nodes (shapes_of (if b then leaf l ∷ rest else rest)) ≡ (if b then leaf l ∷ rest else rest) in
      ⊎_elim
      (λ yes. subst W (sym yes) (ap (λ ss. leaf l ∷ ss) (picked_nodes (i + 1) ls)))
      (λ no. subst W (sym no) (picked_nodes (i + 1) ls))
      (cases_Bool (nat_eq (bit_at word i) 1))

  -- no leaf is a box, so each is noted
  picked_noted : (n i : ℕ) (ls : List Leaf) → All (λ l. is_half_space l ≡ true) ls → chosen n (picked word i ls) ≡ numbered_from n (picked word i ls)
  picked_noted n i [] all = refl
  picked_noted n i (l ∷ ls) all =
      let rest = picked word (i + 1) ls in
      let W : Bool → Type 0 = λ b. chosen n (if b then leaf l ∷ rest else rest) ≡ numbered_from n (if b then leaf l ∷ rest else rest) in
      let tail = All-tail (λ l. is_half_space l ≡ true) l ls all in
      ⊎_elim
      (λ yes. subst W (sym yes) (chosen_yes n (leaf l) rest (All-head (λ l. is_half_space l ≡ true) l ls all) ∙ ap (λ ms. record { place = n; shape = leaf l } ∷ ms) (picked_noted (n + 1) (i + 1) ls tail)))
      (λ no. subst W (sym no) (picked_noted n (i + 1) ls tail))
      (cases_Bool (nat_eq (bit_at word i) 1))

  -- they are those at the places of the word's bits
  module _ (block : Leaf) (leaves : List Leaf) where
    abbrev at : ℕ → Shape
    at i = leaf (slice_index_or leaves i block)

    picked_places : (i : ℕ) (rest : List Leaf) → ((j : ℕ) → slice_index_or rest j block ≡ slice_index_or leaves (i + j) block) → map at (places_below i word) ++ picked word i rest ≡ map at (places_below (i + length rest) word)
    picked_places i [] same = let e : i ≡ i + 0 = omega arith in append-nil (map at (places_below i word)) ∙ ap (λ k. map at (places_below k word)) e
    picked_places i (l ∷ ls) same =
        let front = places_below i word in
        let rest = picked word (i + 1) ls in
        let here : leaf l ≡ at i = let e : i + 0 ≡ i = omega arith in ap leaf (same 0) ∙ ap at e in
        let more : map at (places_below (suc i) word) ++ rest ≡ map at (places_below (i + suc (length ls)) word) =
        let e : suc i ≡ i + 1 = omega arith in
        ap (λ k. map at (places_below k word) ++ rest) e
        ∙ picked_places (i + 1) ls (λ j. let f : i + suc j ≡ i + 1 + j = omega arith in same (suc j) ∙ ap (λ k. slice_index_or leaves k block) f)
        ∙ ap (λ k. map at (places_below k word)) (next i (length ls)) in
        let W : Bool → Type 0 = λ b. map at front ++ (if b then leaf l ∷ rest else rest) ≡ map at (if b then front ++ i ∷ [] else front) ++ rest in
        let step : W (nat_eq (bit_at word i) 1) =
        ⊎_elim
        (λ yes. subst W (sym yes)
        (ap (λ s. map at front ++ s ∷ rest) here
        ∙ sym (ap (λ ss. ss ++ rest) (map-append at front (i ∷ [])) ∙ append_assoc (map at front) (at i ∷ []) rest)))
        (λ no. subst W (sym no) refl)
        (cases_Bool (nat_eq (bit_at word i) 1)) in
        step ∙ more

    pub picked_all : map at (places_below (length leaves) word) ≡ picked word 0 leaves
    picked_all = sym (picked_places 0 leaves (λ j. let e : j ≡ 0 + j = omega arith in ap (λ k. slice_index_or leaves k block) e) ∙ ap (λ k. map at (places_below k word)) zero_plus)
      where
        zero_plus : 0 + length leaves ≡ length leaves
        zero_plus = omega arith

-- ---- one product

module _ (block : Leaf) (leaves : List Leaf) where
  abbrev literal_node : Literal → Shape
  literal_node l = leaf (slice_index_or leaves (half_space_of l) block)

  literals_are : (t : Product) → map literal_node (literals_of (length leaves) t) ≡ picked t.pos 0 leaves ++ picked t.neg 0 leaves
  literals_are t =
      map-append literal_node (map positive (places_below (length leaves) t.pos)) (map negative (places_below (length leaves) t.neg))
      ∙ ap (λ ss. ss ++ map literal_node (map negative (places_below (length leaves) t.neg))) (map-map literal_node positive (places_below (length leaves) t.pos) ∙ picked_all t.pos block leaves)
      ∙ ap (λ ss. picked t.pos 0 leaves ++ ss) (map-map literal_node negative (places_below (length leaves) t.neg) ∙ picked_all t.neg block leaves)

  counted_literals : (n : ℕ) (t : Product) (ls : List Literal) → map (node_of block leaves) (noted_literals n t ls) ≡ numbered_from n (map literal_node ls)
  counted_literals n t [] = refl
  counted_literals n t (l ∷ ls) = ap (λ ms. record { place = n; shape = literal_node l } ∷ ms) (counted_literals (n + 1) t ls)

  counted_append : (n : ℕ) (xs ys : List Shape) → numbered_from n (xs ++ ys) ≡ numbered_from n xs ++ numbered_from (n + length xs) ys
  counted_append n [] ys = let e : n ≡ n + 0 = omega arith in ap (λ m. numbered_from m ys) e
  counted_append n (x ∷ xs) ys = ap (λ ms. record { place = n; shape = x } ∷ ms) (counted_append (n + 1) xs ys ∙ ap (λ m. numbered_from (n + 1) xs ++ numbered_from m ys) (next n (length xs)))

  -- the nodes of a product
  product_nodes : (t : Product) → nodes (product_shape block leaves t) ≡ product_shape block leaves t ∷ (meet (shapes_of (leaf block ∷ picked t.pos 0 leaves)) ∷ (leaf block ∷ (picked t.pos 0 leaves ++ picked t.neg 0 leaves)))
  product_nodes t =
      ap (λ ss. product_shape block leaves t ∷ (meet (shapes_of (leaf block ∷ picked t.pos 0 leaves)) ∷ (leaf block ∷ ss)))
      (ap (λ ss. ss ++ each_nodes (shapes_of (picked t.neg 0 leaves))) (picked_nodes t.pos 0 leaves) ∙ ap (λ ss. picked t.pos 0 leaves ++ ss) (picked_nodes t.neg 0 leaves))

  product_length : (t : Product) → length (nodes (product_shape block leaves t)) ≡ 3 + length (literals_of (length leaves) t)
  product_length t =
      let inside = picked t.pos 0 leaves ++ picked t.neg 0 leaves in
      let all : length (nodes (product_shape block leaves t)) ≡ suc (suc (suc (length inside))) = ap length (product_nodes t) in
      let same : length inside ≡ length (literals_of (length leaves) t) = ap length (sym (literals_are t)) ∙ length-map (literals_of (length leaves) t) literal_node in
      omega (arith, all, same)

  module _ (boxed : is_half_space block ≡ false) (all : All (λ l. is_half_space l ≡ true) leaves) where
    chosen_literals : (n : ℕ) (t : Product) → chosen n (picked t.pos 0 leaves ++ picked t.neg 0 leaves) ≡ numbered_from n (picked t.pos 0 leaves ++ picked t.neg 0 leaves)
    chosen_literals n t =
        chosen_append n (picked t.pos 0 leaves) (picked t.neg 0 leaves)
        ∙ ap (λ ms. ms ++ chosen (n + length (picked t.pos 0 leaves)) (picked t.neg 0 leaves)) (picked_noted t.pos n 0 leaves all)
        ∙ ap (λ ms. numbered_from n (picked t.pos 0 leaves) ++ ms) (picked_noted t.neg (n + length (picked t.pos 0 leaves)) 0 leaves all)
        ∙ sym (counted_append n (picked t.pos 0 leaves) (picked t.neg 0 leaves))

    noted_are : (n i : ℕ) (t : Product) → map (node_of block leaves) (noted_product (length leaves) n i t) ≡ chosen n (nodes (product_shape block leaves t))
    noted_are n i t =
        let inside = picked t.pos 0 leaves ++ picked t.neg 0 leaves in
        let whole = meet (shapes_of (leaf block ∷ picked t.pos 0 leaves)) in
        let three : n + 1 + 1 + 1 ≡ n + 3 = omega arith in
        ap (λ ms. record { place = n; shape = product_shape block leaves t } ∷ ms) (counted_literals (n + 3) t (literals_of (length leaves) t) ∙ ap (numbered_from (n + 3)) (literals_are t))
        ∙ sym (ap (chosen n) (product_nodes t)
        ∙ chosen_yes n (product_shape block leaves t) (whole ∷ (leaf block ∷ inside)) refl
        ∙ ap (λ ms. record { place = n; shape = product_shape block leaves t } ∷ ms)
        (chosen_no (n + 1) whole (leaf block ∷ inside) refl ∙ chosen_no (n + 1 + 1) (leaf block) inside boxed ∙ ap (λ m. chosen m inside) three ∙ chosen_literals (n + 3) t))

    products_are : (n i : ℕ) (ts : List Product) → map (node_of block leaves) (noted_products (length leaves) n i ts) ≡ chosen n (each_nodes (shapes_of (map (product_shape block leaves) ts)))
    products_are n i [] = refl
    products_are n i (t ∷ ts) =
        let here = nodes (product_shape block leaves t) in
        let later = each_nodes (shapes_of (map (product_shape block leaves) ts)) in
        let e : n + 3 + length (literals_of (length leaves) t) ≡ n + length (nodes (product_shape block leaves t)) = omega (arith, product_length t) in
        map-append (node_of block leaves) (noted_product (length leaves) n i t) (noted_products (length leaves) (n + 3 + length (literals_of (length leaves) t)) (i + 1) ts)
        ∙ ap (λ ms. ms ++ map (node_of block leaves) (noted_products (length leaves) (n + 3 + length (literals_of (length leaves) t)) (i + 1) ts)) (noted_are n i t)
        ∙ ap (λ ms. chosen n here ++ ms) (products_are (n + 3 + length (literals_of (length leaves) t)) (i + 1) ts ∙ ap (λ m. chosen m later) e)
        ∙ sym (chosen_append n here later)

pub places_law : (block : Leaf) (leaves : List Leaf) (products : List Product) → is_half_space block ≡ false → All (λ l. is_half_space l ≡ true) leaves
    → map (node_of block leaves) (noted (length leaves) products) ≡ noted_nodes (products_shape block leaves products)
places_law block leaves products boxed all = products_are block leaves boxed all 1 0 products
