-- The trees of products, unfolded by one group.
use Rattle.std.proofs.Common.{◌≡◌, ◌≤◌, ◌<◌, ◌+◌, ℕ, zero, suc, List, [], ◌∷◌, ◌++◌, map, length, Option, None, Some, arith, sym, ap, refl, subst, ◌∙◌, append_assoc, rules}
use Rattle.std.specs.Prelude.{not}
use Rattle.std.proofs.lemmas.List.Filters.{length-filter_both}
use Rattle.std.proofs.lemmas.List.{map-append}
use Rattle.std.proofs.lemmas.List.Sums.{length-filter}
use Rattle.bc_tree.specs.declared.tree.Leaf.{Leaf}
use Rattle.bc_cover.specs.declared.term.Term.{Term}
use Rattle.bc_tree.specs.declared.tree.Tree.{Tree, Union, the_lemmas}
use Rattle.bc_tree.specs.Shape.{Shape, union, shape, shapes_of}
use Rattle.bc_tree.specs.declared.product.Product.{Product}
use Rattle.bc_tree.specs.Cuts.{product_of, product_shape}
use Rattle.bc_cover.specs.Covers.{Literal}
use Rattle.bc_factor.specs.Shared.{stands, most_shared, common, stripped, with_literal, other_than}
use Rattle.bc_factor.specs.Factored.{group, parted, grouped, trees, factored_shape}
use Rattle.bc_factor.proofs.Choice.{chosen_shared}

-- the products in which a literal does not stand are fewer
pub others_fewer : (l : Literal) (ts : List Product) → most_shared ts ≡ Some l → length (other_than l ts) < length ts
others_fewer l ts is =
    let size = length-filter (stands l) ts in
    let two = chosen_shared l ts is in
    let both = length-filter_both (stands l) (λ t. not (stands l t)) (λ t. refl) ts in
    omega (arith, size, two, both)

module _ (alone : Product → Shape) (together : List Product → Shape) where
  parted_none : (later : List Product → List Shape) (o : Option Literal) → most_shared [] ≡ o → later [] ≡ [] → parted alone together later o [] ≡ []
  parted_none later None is h = refl
  parted_none later (Some l) is h = let fewer = others_fewer l [] is in absurd (omega (arith, fewer))

  grouped_none : (n : ℕ) → grouped alone together n [] ≡ []
  grouped_none zero = refl
  grouped_none (suc n) = parted_none (grouped alone together n) (most_shared []) refl (grouped_none n)

  parted_same : (m n : ℕ) (o : Option Literal) (ts : List Product) → most_shared ts ≡ o → length ts ≤ suc m → length ts ≤ suc n
      → ((us : List Product) → length us ≤ m → length us ≤ n → grouped alone together m us ≡ grouped alone together n us)
      → parted alone together (grouped alone together m) o ts ≡ parted alone together (grouped alone together n) o ts
  parted_same m n None ts is h k same = refl
  parted_same m n (Some l) ts is h k same =
      let fewer = others_fewer l ts is in
      ap (λ later. together (with_literal l ts) ∷ later) (same (other_than l ts) (omega (arith, fewer, h)) (omega (arith, fewer, k)))

  -- as many rounds as there are products are enough
  grouped_same : (m n : ℕ) (ts : List Product) → length ts ≤ m → length ts ≤ n → grouped alone together m ts ≡ grouped alone together n ts
  grouped_same zero zero ts h k = refl
  grouped_same zero (suc n) [] h k = sym (grouped_none (suc n))
  grouped_same zero (suc n) (t ∷ ts) h k = absurd (omega (arith, h))
  grouped_same (suc m) zero [] h k = grouped_none (suc m)
  grouped_same (suc m) zero (t ∷ ts) h k = absurd (omega (arith, k))
  grouped_same (suc m) (suc n) ts h k = parted_same m n (most_shared ts) ts refl h k (λ us. grouped_same m n us)

  grouped_step : (l : Literal) (ts : List Product) → most_shared ts ≡ Some l
      → grouped alone together (length ts) ts ≡ together (with_literal l ts) ∷ grouped alone together (length (other_than l ts)) (other_than l ts)
  grouped_step l [] is = let fewer = others_fewer l [] is in absurd (omega (arith, fewer))
  grouped_step l (t ∷ ts) is =
      let fewer = others_fewer l (t ∷ ts) is in
      ap (λ o. parted alone together (grouped alone together (length ts)) o (t ∷ ts)) is
      ∙ ap (λ later. together (with_literal l (t ∷ ts)) ∷ later) (grouped_same (length ts) (length (other_than l (t ∷ ts))) (other_than l (t ∷ ts)) (omega (arith, fewer)) (omega arith))

  grouped_end : (ts : List Product) → most_shared ts ≡ None → grouped alone together (length ts) ts ≡ map alone ts
  grouped_end [] is = refl
  grouped_end (t ∷ ts) is = ap (λ o. parted alone together (grouped alone together (length ts)) o (t ∷ ts)) is

-- where a literal is shared: its group, and then the trees of the others
pub trees_step : (block : Leaf) (leaves : List Leaf) (levels : ℕ) (l : Literal) (ts : List Product) → most_shared ts ≡ Some l
    → trees block leaves (levels + 1) ts
    ≡ group leaves (common (with_literal l ts)) (trees block leaves levels (map (stripped (common (with_literal l ts))) (with_literal l ts))) ∷ trees block leaves (levels + 1) (other_than l ts)
trees_step block leaves levels l ts is =
    let e : levels + 1 ≡ suc levels = omega arith in
    let G : List Product → Shape = λ shared. group leaves (common shared) (trees block leaves levels (map (stripped (common shared)) shared)) in
    subst (λ n. trees block leaves n ts ≡ G (with_literal l ts) ∷ trees block leaves n (other_than l ts)) (sym e) (grouped_step (product_shape block leaves) G l ts is)

-- where none is: the plain trees
pub trees_end : (block : Leaf) (leaves : List Leaf) (levels : ℕ) (ts : List Product) → most_shared ts ≡ None → trees block leaves (levels + 1) ts ≡ map (product_shape block leaves) ts
trees_end block leaves levels ts is =
    let e : levels + 1 ≡ suc levels = omega arith in
    let G : List Product → Shape = λ shared. group leaves (common shared) (trees block leaves levels (map (stripped (common shared)) shared)) in
    subst (λ n. trees block leaves n ts ≡ map (product_shape block leaves) ts) (sym e) (grouped_end (product_shape block leaves) G ts is)

-- ---- the loop over groups

-- one group more
pub group_made : (block : Leaf) (leaves : List Leaf) (levels : ℕ) (l : Literal) (made new : List Tree) (t : Tree) (shared others rest : List Product) (all : List Shape) → most_shared rest ≡ Some l
    → shared ≡ with_literal l rest → others ≡ other_than l rest → shape t ≡ group leaves (common shared) (trees block leaves levels (map (stripped (common shared)) shared)) → new ≡ made ++ t ∷ []
    → map shape made ++ trees block leaves (levels + 1) rest ≡ all → map shape new ++ trees block leaves (levels + 1) others ≡ all
group_made block leaves levels l made new t shared others rest all is a b g n e =
    let later = trees block leaves (levels + 1) (other_than l rest) in
    ap (λ ks. map shape ks ++ trees block leaves (levels + 1) others) n
    ∙ ap (λ ss. ss ++ trees block leaves (levels + 1) others) (map-append shape made (t ∷ []))
    ∙ append_assoc (map shape made) (shape t ∷ []) (trees block leaves (levels + 1) others)
    ∙ ap (λ us. map shape made ++ shape t ∷ trees block leaves (levels + 1) us) b
    ∙ ap (λ s. map shape made ++ s ∷ later) (g ∙ ap (λ us. group leaves (common us) (trees block leaves levels (map (stripped (common us)) us))) a)
    ∙ ap (λ ss. map shape made ++ ss) (sym (trees_step block leaves levels l rest is)) ∙ e

-- and the plain trees of the rest
pub rest_made : (block : Leaf) (leaves : List Leaf) (levels : ℕ) (made new : List Tree) (rest : List Product) (all : List Shape) → most_shared rest ≡ None
    → map shape new ≡ map shape made ++ map (product_shape block leaves) rest → map shape made ++ trees block leaves (levels + 1) rest ≡ all → map shape new ≡ all
rest_made block leaves levels made new rest all is n e = n ∙ ap (λ ss. map shape made ++ ss) (sym (trees_end block leaves levels rest is)) ∙ e

pub whole_shape : (block : Leaf) (leaves : List Leaf) (ks : List Tree) (products : List Product) (terms : List Term) → map shape ks ≡ trees block leaves 20 products → products ≡ map product_of terms
    → shape (Union ks) ≡ factored_shape block leaves terms
whole_shape block leaves ks products terms e f =
    let is : shape (Union ks) ≡ union (shapes_of (map shape ks)) = search (rules, the_lemmas) in
    is ∙ ap (λ ss. union (shapes_of ss)) (e ∙ ap (trees block leaves 20) f)

-- ---- the law

pub none_of_none : (block : Leaf) (leaves : List Leaf) (levels : ℕ) → trees block leaves levels [] ≡ []
none_of_none block leaves zero = refl
none_of_none block leaves (suc levels) = refl

pub plain_where_none : (block : Leaf) (leaves : List Leaf) (levels : ℕ) (ts : List Product) → most_shared ts ≡ None → trees block leaves levels ts ≡ map (product_shape block leaves) ts
plain_where_none block leaves zero ts is = refl
plain_where_none block leaves (suc levels) ts is =
    let e : levels + 1 ≡ suc levels = omega arith in
    subst (λ n. trees block leaves n ts ≡ map (product_shape block leaves) ts) e (trees_end block leaves levels ts is)
