-- What the notes of a text say. Before each product stands a point where this product alone holds, before each literal one that
-- its product would hold without it; or the note is undecided, where no point that it may name is such.
use Rattle.std.specs.Prelude.{◌≡◌, ◌↔◌, ◌⊎◌, ℕ, true, false, List, map, length, Option, None, Some, slice_get}
use Rattle.std.specs.List.{All, AllZip}
use Rattle.bc_cover.specs.Covers.{Literal}
use Rattle.bc_tree.specs.declared.tree.Leaf.{Leaf}
use Rattle.bc_tree.specs.Holds.{HoldsBy}
use Rattle.bc_tree.specs.declared.product.Product.{Product}
use Rattle.bc_tree.specs.Cuts.{product_shape, products_shape}
use Rattle.bc_text.specs.declared.note.Spot.{Spot}
use Rattle.bc_text.specs.declared.note.Mark.{Mark}
use Rattle.bc_text.specs.declared.note.Note.{Note}
use Rattle.bc_notes.specs.Nodes.{noted_nodes}
use Rattle.bc_notes.specs.Products.{HoldsMask, literals_of, without_literal}
use Rattle.bc_notes.specs.Noted.{Subject, the_product, the_literal, Noted, noted, node_of}
use Rattle.bc_notes.specs.Chosen.{IsAlone, own_mark, out_mark}
use Rattle.bc_formula.specs.Geometry.{Geometry}

module _ {B P X : Type 0} (k : Geometry B P X) (b : B) (box : X) where
  -- strictly inside the box, on no half-space boundary, and in lowest terms
  pub record IsFreePoint (p : P) : Type 0 where
    pub inside : k.inside box p
    pub off : k.off b p
    pub reduced : k.reduced p

  module _ (leaves : List Leaf) where
    -- the product holds at p
    abbrev pub HoldsAt : Product → P → Type 0
    HoldsAt q p = HoldsBy k.in_leaf (product_shape (k.block box) leaves q) p

    -- an own point of the product at place i: the crossings are odd, this product holds, and no other does
    pub record IsOwnPoint (products : List Product) (i : ℕ) (p : P) : Type 0 where
      pub free : IsFreePoint p
      pub odd : k.odd b p
      pub alone : (j : ℕ) (q : Product) → slice_get products j ≡ Some q → (HoldsAt q p ↔ (j ≡ i))

    -- an out point of the literal: the crossings are even, and the product holds once the literal is taken out of it
    pub record IsOutPoint (q : Product) (l : Literal) (p : P) : Type 0 where
      pub free : IsFreePoint p
      pub even : k.odd b p → ⊥
      pub holds : HoldsAt (without_literal q l) p

    -- the mark names a point that is such; or it is undecided, and no point that it may name is such
    abbrev pub Names : (P → Type 0) → (Option Spot → Mark) → Mark → Type 0
    Names Such mark_of mark =
        ((p : P) × Such p × k.named b box p × (mark ≡ mark_of (Some (k.spot p))))
        ⊎ ((mark ≡ mark_of None) × k.may_fail b × ((p : P) → k.named b box p → Such p → ⊥))

    abbrev pub SaysOf : List Product → Subject → Mark → Type 0
    SaysOf products (the_product i q) mark = Names (IsOwnPoint products i) own_mark mark
    SaysOf products (the_literal q l) mark = Names (IsOutPoint q l) out_mark mark

    pub record IsNote (products : List Product) (e : Noted) (note : Note) : Type 0 where
      pub at : note.place ≡ e.place
      pub says : SaysOf products e.subject note.mark

    -- the notes of the tree of these products
    pub record AreNotes (products : List Product) (notes : List Note) : Type 0 where
      -- one stands before each cut and each leaf that is no box, and before no other node
      pub places : map (λ note. note.place) notes ≡ map (λ n. n.place) (noted_nodes (products_shape (k.block box) leaves products))
      -- these nodes are the cuts of the products and the leaves of their literals, in this order and with these numbers
      pub nodes : map (node_of (k.block box) leaves) (noted (length leaves) products) ≡ noted_nodes (products_shape (k.block box) leaves products)
      -- and each note says what it is to say of its product or literal
      pub each : AllZip (IsNote products) (noted (length leaves) products) notes

  -- no product and no literal is idle, by the lean masks: each product alone holds an odd one, and each literal keeps out an even one
  pub record AreNeeded (bits : ℕ) (products : List Product) : Type 0 where
    pub own : (i : ℕ) (q : Product) → slice_get products i ≡ Some q → (mask : ℕ) × k.lean_mask b box true mask × IsAlone products i mask
    pub out : All (λ q. All (λ l. (mask : ℕ) × k.lean_mask b box false mask × HoldsMask (without_literal q l) mask) (literals_of bits q)) products
