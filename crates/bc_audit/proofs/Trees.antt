-- Tests of trees, by what they tell of leaves.
use Rattle.std.proofs.Common.{◌≡◌, ◌↔◌, ◌⊎◌, Bool, true, false, not, ◌&&◌, ◌||◌, List, [], ◌∷◌, ◌++◌, refl, inl, inr, rules}
use Rattle.std.specs.List.{All}
use Rattle.std.proofs.lemmas.List.Elements.{All-nil, All-cons, All-head, All-tail}
use Rattle.bc_tree.specs.declared.frame.Frame3.{Frame3}
use Rattle.bc_tree.specs.declared.tree.Leaf.{Leaf}
use Rattle.bc_tree.specs.declared.tree.Leaf.TheVariants.{Slab, Strip, Disc, Block, Tile}
use Rattle.bc_tree.specs.declared.tree.Tree.{Tree, the_lemmas}
use Rattle.bc_tree.specs.declared.tree.Tree.TheVariants as trees
use Rattle.bc_tree.specs.Shape.{Shape, leaf, union, meet, cut, Shapes, none, child, shape, shapes, AllLeaves, EachLeaf}
use Rattle.bc_tree.specs.Holds.{HoldsBy, SomeHolds, EachHolds}
use Rattle.bc_audit.specs.Told.{holds_by, some_holds, each_holds}
use Rattle.bc_audit.specs.Blocks.{every, all_pass}
use Rattle.bc_audit.specs.SlabPlanes.{slabs, all_slabs, leaf_slabs}

-- ---- shapes

pub shape-Union : (kids : List Tree) → shape (trees.Union kids) ≡ union (shapes kids)
shape-Union kids = search (rules, the_lemmas)

pub shape-Meet : (kids : List Tree) → shape (trees.Meet kids) ≡ meet (shapes kids)
shape-Meet kids = search (rules, the_lemmas)

pub shape-Cut : (first : Tree) (kids : List Tree) → shape (trees.Cut first kids) ≡ cut (shape first) (shapes kids)
shape-Cut first kids = search (rules, the_lemmas)

-- ---- tests

either : (P Q : Type 0) (a b : Bool) → (a ≡ true) ↔ P → (b ≡ true) ↔ Q → ((a || b) ≡ true) ↔ (P ⊎ Q)
either P Q true b f g = (λ t. inl (f.0 refl), λ h. refl)
either P Q false b f g = (λ t. inr (g.0 t), λ h. elim h [ inl p ↦ absurd (let e : false ≡ true = f.1 p in cc) | inr q ↦ g.1 q ])

pub both : (P Q : Type 0) (a b : Bool) → (a ≡ true) ↔ P → (b ≡ true) ↔ Q → ((a && b) ≡ true) ↔ (P × Q)
both P Q true b f g = (λ t. (f.0 refl, g.0 t), λ h. g.1 h.1)
both P Q false b f g = (λ t. cc, λ h. f.1 h.0)

pub turned : (P : Type 0) (a : Bool) → (a ≡ true) ↔ P → (not a ≡ true) ↔ (P → ⊥)
turned P true f = (λ t. cc, λ h. absurd (h (f.0 refl)))
turned P false f = (λ t p. let e : false ≡ true = f.1 p in cc, λ h. refl)

-- a tree holds exactly where its test is passed, if that is so of each leaf
module _ {P : Type 0} (In : Leaf → P → Type 0) (p : P) (test : Leaf → Bool) where
  abbrev pub IsToldOf : Leaf → Type 0
  IsToldOf l = (test l ≡ true) ↔ In l p

  mutual
    pub told_is : (s : Shape) → AllLeaves IsToldOf s → (holds_by test s ≡ true) ↔ HoldsBy In s p
    told_is (leaf l) h = h
    told_is (union kids) h = some_is kids h
    told_is (meet kids) h = each_is kids h
    told_is (cut first kids) h =
        both (HoldsBy In first p) (SomeHolds In kids p → ⊥) (holds_by test first) (not (some_holds test kids)) (told_is first h.0)
        (turned (SomeHolds In kids p) (some_holds test kids) (some_is kids h.1))

    some_is : (ss : Shapes) → EachLeaf IsToldOf ss → (some_holds test ss ≡ true) ↔ SomeHolds In ss p
    some_is none h = (λ t. cc, λ x. absurd x)
    some_is (child s ss) h = either (HoldsBy In s p) (SomeHolds In ss p) (holds_by test s) (some_holds test ss) (told_is s h.0) (some_is ss h.1)

    each_is : (ss : Shapes) → EachLeaf IsToldOf ss → (each_holds test ss ≡ true) ↔ EachHolds In ss p
    each_is none h = (λ t. tt, λ x. refl)
    each_is (child s ss) h = both (HoldsBy In s p) (EachHolds In ss p) (holds_by test s) (each_holds test ss) (told_is s h.0) (each_is ss h.1)

-- each leaf is so exactly where each passes the test
module _ (P : Leaf → Type 0) (test : Leaf → Bool) (tells : (l : Leaf) → (test l ≡ true) ↔ P l) where
  mutual
    pub every_is : (s : Shape) → (every test s ≡ true) ↔ AllLeaves P s
    every_is (leaf l) = tells l
    every_is (union kids) = all_are kids
    every_is (meet kids) = all_are kids
    every_is (cut first kids) = both (AllLeaves P first) (EachLeaf P kids) (every test first) (all_pass test kids) (every_is first) (all_are kids)

    all_are : (ss : Shapes) → (all_pass test ss ≡ true) ↔ EachLeaf P ss
    all_are none = (λ t. tt, λ x. refl)
    all_are (child s ss) = both (AllLeaves P s) (EachLeaf P ss) (every test s) (all_pass test ss) (every_is s) (all_are ss)

-- what holds of each leaf holds of it with more that is known of each leaf
mutual
  pub leaves_by : (P Q R : Leaf → Type 0) → ((l : Leaf) → P l → Q l → R l) → (s : Shape) → AllLeaves P s → AllLeaves Q s → AllLeaves R s
  leaves_by P Q R f (leaf l) h k = f l h k
  leaves_by P Q R f (union kids) h k = each_by P Q R f kids h k
  leaves_by P Q R f (meet kids) h k = each_by P Q R f kids h k
  leaves_by P Q R f (cut first kids) h k = (leaves_by P Q R f first h.0 k.0, each_by P Q R f kids h.1 k.1)

  each_by : (P Q R : Leaf → Type 0) → ((l : Leaf) → P l → Q l → R l) → (ss : Shapes) → EachLeaf P ss → EachLeaf Q ss → EachLeaf R ss
  each_by P Q R f none h k = tt
  each_by P Q R f (child s ss) h k = (leaves_by P Q R f s h.0 k.0, each_by P Q R f ss h.1 k.1)

-- ---- slabs

-- of the slabs of a tree as of its leaves
abbrev pub OfSlab : (Frame3 → Type 0) → Leaf → Type 0
OfSlab P (Slab f) = P f
OfSlab P (Strip f) = Unit {0}
OfSlab P (Disc d) = Unit {0}
OfSlab P (Block b) = Unit {0}
OfSlab P (Tile b) = Unit {0}

front : {X : Type 0} (P : X → Type 0) (xs ys : List X) → All P (xs ++ ys) → All P xs
front P [] ys h = All-nil P
front P (x ∷ xs) ys h = All-cons P x xs (All-head P x (xs ++ ys) h) (front P xs ys (All-tail P x (xs ++ ys) h))

back : {X : Type 0} (P : X → Type 0) (xs ys : List X) → All P (xs ++ ys) → All P ys
back P [] ys h = h
back P (x ∷ xs) ys h = back P xs ys (All-tail P x (xs ++ ys) h)

join : {X : Type 0} (P : X → Type 0) (xs ys : List X) → All P xs → All P ys → All P (xs ++ ys)
join P [] ys h k = k
join P (x ∷ xs) ys h k = All-cons P x (xs ++ ys) (All-head P x xs h) (join P xs ys (All-tail P x xs h) k)

module _ (P : Frame3 → Type 0) where
  leaf_from : (l : Leaf) → All P (leaf_slabs l) → OfSlab P l
  leaf_from (Slab f) h = All-head P f [] h
  leaf_from (Strip f) h = tt
  leaf_from (Disc d) h = tt
  leaf_from (Block b) h = tt
  leaf_from (Tile b) h = tt

  leaf_to : (l : Leaf) → OfSlab P l → All P (leaf_slabs l)
  leaf_to (Slab f) h = All-cons P f [] h (All-nil P)
  leaf_to (Strip f) h = All-nil P
  leaf_to (Disc d) h = All-nil P
  leaf_to (Block b) h = All-nil P
  leaf_to (Tile b) h = All-nil P

  mutual
    pub leaves_from_slabs : (s : Shape) → All P (slabs s) → AllLeaves (OfSlab P) s
    leaves_from_slabs (leaf l) h = leaf_from l h
    leaves_from_slabs (union kids) h = each_from_slabs kids h
    leaves_from_slabs (meet kids) h = each_from_slabs kids h
    leaves_from_slabs (cut first kids) h = (leaves_from_slabs first (front P (slabs first) (all_slabs kids) h), each_from_slabs kids (back P (slabs first) (all_slabs kids) h))

    each_from_slabs : (ss : Shapes) → All P (all_slabs ss) → EachLeaf (OfSlab P) ss
    each_from_slabs none h = tt
    each_from_slabs (child s ss) h = (leaves_from_slabs s (front P (slabs s) (all_slabs ss) h), each_from_slabs ss (back P (slabs s) (all_slabs ss) h))

  mutual
    pub slabs_from_leaves : (s : Shape) → AllLeaves (OfSlab P) s → All P (slabs s)
    slabs_from_leaves (leaf l) h = leaf_to l h
    slabs_from_leaves (union kids) h = slabs_from_each kids h
    slabs_from_leaves (meet kids) h = slabs_from_each kids h
    slabs_from_leaves (cut first kids) h = join P (slabs first) (all_slabs kids) (slabs_from_leaves first h.0) (slabs_from_each kids h.1)

    slabs_from_each : (ss : Shapes) → EachLeaf (OfSlab P) ss → All P (all_slabs ss)
    slabs_from_each none h = All-nil P
    slabs_from_each (child s ss) h = join P (slabs s) (all_slabs ss) (slabs_from_leaves s h.0) (slabs_from_each ss h.1)
