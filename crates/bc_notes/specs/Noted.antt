-- What each note of a formula is of: a product or a literal of a product, with the number of its node.
use Rattle.std.specs.Prelude.{ℕ, ◌+◌, List, [], ◌∷◌, ◌++◌, length, slice_index_or}
use Rattle.bc_cover.specs.Covers.{Literal, positive, negative}
use Rattle.bc_tree.specs.declared.tree.Leaf.{Leaf}
use Rattle.bc_tree.specs.Shape.{Shape, leaf}
use Rattle.bc_tree.specs.declared.product.Product.{Product}
use Rattle.bc_tree.specs.Cuts.{product_shape}
use Rattle.bc_notes.specs.Nodes.{Node}
use Rattle.bc_notes.specs.Products.{literals_of}

-- the product at a place of the list of products, or a literal of a product
pub data Subject : Type 0 where
  the_product : ℕ → Product → Subject
  the_literal : Product → Literal → Subject

pub record Noted : Type 0 where
  pub place : ℕ
  pub subject : Subject

-- some literals of a product, the first of which has number n
abbrev pub noted_literals : ℕ → Product → List Literal → List Noted
noted_literals n p [] = []
noted_literals n p (l ∷ ls) = record { place = n; subject = the_literal p l } ∷ noted_literals (n + 1) p ls

-- a product over `bits` half-spaces, whose cut has number n, and its literals: between them stand the meet and the box
abbrev pub noted_product : ℕ → ℕ → ℕ → Product → List Noted
noted_product bits n i p = record { place = n; subject = the_product i p } ∷ noted_literals (n + 3) p (literals_of bits p)

-- products, the first of which is that at place i and has number n
abbrev pub noted_products : ℕ → ℕ → ℕ → List Product → List Noted
noted_products bits n i [] = []
noted_products bits n i (p ∷ ps) = noted_product bits n i p ++ noted_products bits (n + 3 + length (literals_of bits p)) (i + 1) ps

-- the products and their literals, in the order in which they are written; the union of the products is node 0
abbrev pub noted : ℕ → List Product → List Noted
noted bits products = noted_products bits 1 0 products

-- the place of a literal's half-space
abbrev pub half_space_of : Literal → ℕ
half_space_of (positive i) = i
half_space_of (negative i) = i

-- a product or a literal as a part of the tree, over a box and leaves
abbrev pub subject_shape : Leaf → List Leaf → Subject → Shape
subject_shape block leaves (the_product i p) = product_shape block leaves p
subject_shape block leaves (the_literal p l) = leaf (slice_index_or leaves (half_space_of l) block)

abbrev pub node_of : Leaf → List Leaf → Noted → Node
node_of block leaves e = record { place = e.place; shape = subject_shape block leaves e.subject }
