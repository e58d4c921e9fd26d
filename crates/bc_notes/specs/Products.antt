-- Products of half-spaces by their masks: their literals, a product once a literal is taken out, and which masks it holds.
use Rattle.std.specs.Prelude.{ℕ, List, ◌++◌, map, IsTrue}
use Rattle.bc_cover.specs.declared.term.Term.{Term}
use Rattle.bc_cover.specs.Masks.{without_bit, places_below, admits}
use Rattle.bc_cover.specs.Covers.{Literal, positive, negative}
use Rattle.bc_tree.specs.declared.product.Product.{Product}
use Rattle.bc_tree.specs.Cuts.{product_of}

-- the products that these terms stand for
abbrev pub products_of : List Term → List Product
products_of terms = map product_of terms

-- the literals over n half-spaces: those whose inside the product takes, in index order, then those that it takes away
abbrev pub literals_of : ℕ → Product → List Literal
literals_of n p = map positive (places_below n p.pos) ++ map negative (places_below n p.neg)

-- the product once the literal is taken out
abbrev pub without_literal : Product → Literal → Product
without_literal p (positive i) = record p { pos = without_bit p.pos i }
without_literal p (negative i) = record p { neg = without_bit p.neg i }

-- the product holds the mask: it has all bits of pos and none of neg
abbrev pub HoldsMask : Product → ℕ → Type 0
HoldsMask p mask = IsTrue (admits p.pos p.neg mask)
