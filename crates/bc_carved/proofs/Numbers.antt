-- How many nodes stand in a tree, and the half-spaces of a word by their numbers.
use Rattle.std.proofs.Common.{◌≡◌, ◌≤◌, ◌<◌, ◌+◌, ◌^◌, ℕ, zero, suc, List, [], ◌∷◌, ◌++◌, map, length, nat_eq, if◌then◌else◌, arith, refl, sym, ap, ⊎_elim, ◌∙◌, append_assoc, length-append}
use Rattle.std.specs.Prelude.{slice_index_or}
use Rattle.std.proofs.lemmas.Bool.{cases_lt}
use Rattle.std.proofs.lemmas.Nat.Bits.{bit_at_above}
use Rattle.bc_cover.specs.Masks.{places_below}
use Rattle.bc_tree.specs.declared.tree.Leaf.{Leaf}
use Rattle.bc_tree.specs.Shape.{Shape, leaf, union, meet, cut, Shapes, none, child, shapes_of, size, sizes}
use Rattle.bc_tree.specs.Cuts.{picked}
use Rattle.bc_notes.specs.Nodes.{nodes, each_nodes}
use Rattle.bc_notes.proofs.Places.{picked_all}
use Rattle.bc_carved.specs.Carved.{meet_of, cut_of}
use Rattle.bc_carved.specs.Parts.{in_meet, in_cut}

-- ---- nodes

mutual
  pub count_nodes : (s : Shape) → length (nodes s) ≡ size s
  count_nodes (leaf l) = refl
  count_nodes (union kids) = omega (arith, count_each kids)
  count_nodes (meet kids) = omega (arith, count_each kids)
  count_nodes (cut first kids) = omega (arith, length-append (nodes first) (each_nodes kids), count_nodes first, count_each kids)

  pub count_each : (ss : Shapes) → length (each_nodes ss) ≡ sizes ss
  count_each none = refl
  count_each (child s ss) = omega (arith, length-append (nodes s) (each_nodes ss), count_nodes s, count_each ss)

pub size_some : (s : Shape) → 1 ≤ size s
size_some (leaf l) = omega arith
size_some (union kids) = omega arith
size_some (meet kids) = omega arith
size_some (cut first kids) = omega arith

pub sizes_append : (xs ys : List Shape) → sizes (shapes_of (xs ++ ys)) ≡ sizes (shapes_of xs) + sizes (shapes_of ys)
sizes_append [] ys = omega arith
sizes_append (x ∷ xs) ys = omega (arith, sizes_append xs ys)

pub nodes_append : (xs ys : List Shape) → each_nodes (shapes_of (xs ++ ys)) ≡ each_nodes (shapes_of xs) ++ each_nodes (shapes_of ys)
nodes_append [] ys = refl
nodes_append (x ∷ xs) ys = ap (λ ns. nodes x ++ ns) (nodes_append xs ys) ∙ sym (append_assoc (nodes x) (each_nodes (shapes_of xs)) (each_nodes (shapes_of ys)))

-- ---- half-spaces of a word

places_same : (m n word : ℕ) → n ≤ m → word < 2 ^ n → places_below m word ≡ places_below n word
places_same zero n word le lt = let e : zero ≡ n = omega (arith, le) in ap (λ k. places_below k word) e
places_same (suc m) n word le lt =
    ⊎_elim
    (λ below.
    let le' : n ≤ m = omega (arith, below) in
    ap (λ b. if nat_eq b 1 then places_below m word ++ m ∷ [] else places_below m word) (bit_at_above word n m lt le') ∙ places_same m n word le' lt)
    (λ above. let e : suc m ≡ n = omega (arith, le, above) in ap (λ k. places_below k word) e)
    (cases_lt n (suc m))

module _ (block : Leaf) (leaves : List Leaf) where
  abbrev pub at : ℕ → Shape
  at i = leaf (slice_index_or leaves i block)

  pub picked_are : (word : ℕ) → length leaves ≤ 64 → word < 2 ^ length leaves → picked word 0 leaves ≡ map at (places_below 64 word)
  picked_are word few lt = sym (ap (map at) (places_same 64 (length leaves) word few lt) ∙ picked_all word block leaves)

  pub leaf_nodes : (is : List ℕ) → each_nodes (shapes_of (map at is)) ≡ map at is
  leaf_nodes [] = refl
  leaf_nodes (i ∷ is) = ap (λ ns. at i ∷ ns) (leaf_nodes is)

  pub leaf_sizes : (is : List ℕ) → sizes (shapes_of (map at is)) ≡ length is
  leaf_sizes [] = refl
  leaf_sizes (i ∷ is) = omega (arith, leaf_sizes is)

  pub picked_nodes : (word : ℕ) → length leaves ≤ 64 → word < 2 ^ length leaves → each_nodes (shapes_of (picked word 0 leaves)) ≡ map at (places_below 64 word)
  picked_nodes word few lt = ap (λ ss. each_nodes (shapes_of ss)) (picked_are word few lt) ∙ leaf_nodes (places_below 64 word)

  pub picked_size : (word : ℕ) → length leaves ≤ 64 → word < 2 ^ length leaves → sizes (shapes_of (picked word 0 leaves)) ≡ length (places_below 64 word)
  picked_size word few lt = ap (λ ss. sizes (shapes_of ss)) (picked_are word few lt) ∙ leaf_sizes (places_below 64 word)

-- ---- meets and cuts

pub in_meet_from : (m : ℕ) (xs : List Shape) → m ≤ in_meet m xs
in_meet_from m [] = omega arith
in_meet_from m (s ∷ []) = omega arith
in_meet_from m (s ∷ t ∷ ss) = omega arith

pub in_cut_from : (n : ℕ) (xs : List Shape) → n ≤ in_cut n xs
in_cut_from n [] = omega arith
in_cut_from n (s ∷ ss) = omega arith

-- the trees in common end within what they have in common
pub meet_room : (block : Leaf) (m : ℕ) (xs : List Shape) → in_meet m xs + sizes (shapes_of xs) ≤ m + size (meet_of block xs)
meet_room block m [] = omega arith
meet_room block m (s ∷ []) = omega arith
meet_room block m (s ∷ t ∷ ss) = omega arith

pub cut_room : (n : ℕ) (first : Shape) (xs : List Shape) → in_cut n xs + size first + sizes (shapes_of xs) ≡ n + size (cut_of first xs)
cut_room n first [] = omega arith
cut_room n first (s ∷ ss) = omega arith
