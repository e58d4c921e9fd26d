-- What holds of each leaf of a factored tree, and that its meets are not empty.
use Rattle.std.proofs.Common.{ℕ, zero, suc, List, [], ◌∷◌, ◌++◌, map, length, Option, None, Some, ⊎_elim, inl, inr, arith, All}
use Rattle.bc_cover.specs.declared.term.Term.{Term}
use Rattle.bc_cover.specs.Covers.{Literal}
use Rattle.bc_tree.specs.declared.tree.Leaf.{Leaf}
use Rattle.bc_tree.specs.Leaves.{IsLeaf, IsFlat, IsSpaceLeaf}
use Rattle.bc_tree.specs.Shape.{Shape, union, Shapes, none, child, shapes_of, AllLeaves, EachLeaf}
use Rattle.bc_tree.specs.Spells.{AllMeetsMeet, EachMeetMeets, HasChild, IsAllowed}
use Rattle.bc_tree.specs.declared.product.Product.{Product}
use Rattle.bc_tree.specs.Cuts.{picked, product_shape, product_of}
use Rattle.bc_tree.proofs.Covers.{picked_leaves, picked_meets}
use Rattle.bc_factor.specs.Shared.{most_shared, common, stripped, with_literal, other_than}
use Rattle.bc_factor.specs.Factored.{group, parted, grouped, trees, factored_shape}
use Rattle.bc_factor.specs.Meanings.{AreOfOneKind}
use Rattle.bc_factor.proofs.Leaves.{factored_depth}

-- ---- what holds of plain trees and is kept by groups

module _ (Q : Shape → Type 0) (EachQ : Shapes → Type 0) (nothing : EachQ none) (more : (s : Shape) (ss : Shapes) → Q s → EachQ ss → EachQ (child s ss))
    (block : Leaf) (leaves : List Leaf) (plain : (t : Product) → Q (product_shape block leaves t)) (round : (c : Product) (inner : List Shape) → EachQ (shapes_of inner) → Q (group leaves c inner)) where
  plain_each : (ts : List Product) → EachQ (shapes_of (map (product_shape block leaves) ts))
  plain_each [] = nothing
  plain_each (t ∷ ts) = more _ _ (plain t) (plain_each ts)

  parted_each : (together : List Product → Shape) (later : List Product → List Shape) (o : Option Literal) (ts : List Product) → ((us : List Product) → Q (together us)) → ((us : List Product) → EachQ (shapes_of (later us)))
      → EachQ (shapes_of (parted (product_shape block leaves) together later o ts))
  parted_each together later None ts h k = plain_each ts
  parted_each together later (Some l) ts h k = more _ _ (h (with_literal l ts)) (k (other_than l ts))

  grouped_each : (together : List Product → Shape) (n : ℕ) (ts : List Product) → ((us : List Product) → Q (together us)) → EachQ (shapes_of (grouped (product_shape block leaves) together n ts))
  grouped_each together zero ts h = plain_each ts
  grouped_each together (suc n) ts h = parted_each together (grouped (product_shape block leaves) together n) (most_shared ts) ts h (λ us. grouped_each together n us h)

  trees_each : (levels : ℕ) (ts : List Product) → EachQ (shapes_of (trees block leaves levels ts))
  trees_each zero ts = plain_each ts
  trees_each (suc levels) ts =
      grouped_each (λ shared. group leaves (common shared) (trees block leaves levels (map (stripped (common shared)) shared))) (length ts) ts
      (λ us. round (common us) (trees block leaves levels (map (stripped (common us)) us)) (trees_each levels (map (stripped (common us)) us)))

-- ---- leaves

leaves_with : (P : Leaf → Type 0) (xs : List Shape) (s : Shape) → EachLeaf P (shapes_of xs) → AllLeaves P s → EachLeaf P (shapes_of (xs ++ s ∷ []))
leaves_with P [] s h k = (k, tt)
leaves_with P (x ∷ xs) s h k = (h.0, leaves_with P xs s h.1 k)

-- what holds of the block and of each literal holds of each leaf
pub factored_leaves : (P : Leaf → Type 0) (block : Leaf) (leaves : List Leaf) (terms : List Term) → P block → All P leaves → AllLeaves P (factored_shape block leaves terms)
factored_leaves P block leaves terms p h =
    trees_each (AllLeaves P) (EachLeaf P) tt (λ s ss k ks. (k, ks)) block leaves
    (λ t. ((p, picked_leaves P t.pos 0 leaves h), picked_leaves P t.neg 0 leaves h))
    (λ c inner k. (leaves_with P (picked c.pos 0 leaves) (union (shapes_of inner)) (picked_leaves P c.pos 0 leaves h) k, picked_leaves P c.neg 0 leaves h))
    20 (map product_of terms)

-- ---- meets

child_with : (xs : List Shape) (s : Shape) → HasChild (shapes_of (xs ++ s ∷ []))
child_with [] s = tt
child_with (x ∷ xs) s = tt

meets_with : (xs : List Shape) (s : Shape) → EachMeetMeets (shapes_of xs) → AllMeetsMeet s → EachMeetMeets (shapes_of (xs ++ s ∷ []))
meets_with [] s h k = (k, tt)
meets_with (x ∷ xs) s h k = (h.0, meets_with xs s h.1 k)

pub factored_meets : (block : Leaf) (leaves : List Leaf) (terms : List Term) → AllMeetsMeet (factored_shape block leaves terms)
factored_meets block leaves terms =
    trees_each AllMeetsMeet EachMeetMeets tt (λ s ss k ks. (k, ks)) block leaves
    (λ t. ((tt, (tt, picked_meets t.pos 0 leaves)), picked_meets t.neg 0 leaves))
    (λ c inner k. (
      (child_with (picked c.pos 0 leaves) (union (shapes_of inner)), meets_with (picked c.pos 0 leaves) (union (shapes_of inner)) (picked_meets c.pos 0 leaves) k),
      picked_meets c.neg 0 leaves,
    ))
    20 (map product_of terms)

pub factored_allowed : (block : Leaf) (leaves : List Leaf) (terms : List Term) → AreOfOneKind block leaves → IsAllowed (factored_shape block leaves terms)
factored_allowed block leaves terms h = record {
  ranges = factored_leaves IsLeaf block leaves terms h.first h.others;
  nested = let deep = factored_depth block leaves terms in omega (arith, deep);
  meets = factored_meets block leaves terms;
  kind = ⊎_elim
      (λ flat. inl (factored_leaves IsFlat block leaves terms flat.0 flat.1))
      (λ solid. inr (factored_leaves IsSpaceLeaf block leaves terms solid.0 solid.1))
      h.kind;
}
