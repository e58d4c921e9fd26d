-- The factored tree of some terms: a literal that several of them share is written once. (This project's own rule.)
use Rattle.std.specs.Prelude.{ℕ, zero, suc, List, [], ◌∷◌, ◌++◌, map, length, Option, None, Some}
use Rattle.bc_cover.specs.declared.term.Term.{Term}
use Rattle.bc_cover.specs.Covers.{Literal}
use Rattle.bc_tree.specs.declared.tree.Leaf.{Leaf}
use Rattle.bc_tree.specs.Shape.{Shape, union, meet, cut, shapes_of}
use Rattle.bc_tree.specs.declared.product.Product.{Product}
use Rattle.bc_tree.specs.Cuts.{picked, product_shape, product_of}
use Rattle.bc_factor.specs.Shared.{most_shared, common, stripped, with_literal, other_than}

-- a tree with the literals c round it: the meet of the positive ones and of the union of these trees, cut by the negative ones
abbrev pub group : List Leaf → Product → List Shape → Shape
group leaves c inner = cut (meet (shapes_of (picked c.pos 0 leaves ++ union (shapes_of inner) ∷ []))) (shapes_of (picked c.neg 0 leaves))

-- the trees of the products, where some literal may be taken out of those that share it: the tree of these together, and then
-- the trees of the others
abbrev pub parted : (Product → Shape) → (List Product → Shape) → (List Product → List Shape) → Option Literal → List Product → List Shape
parted alone together later None ts = map alone ts
parted alone together later (Some l) ts = together (with_literal l ts) ∷ later (other_than l ts)

-- this for the literal that is shared most, again and again, over at most so many literals
abbrev pub grouped : (Product → Shape) → (List Product → Shape) → ℕ → List Product → List Shape
grouped alone together zero ts = map alone ts
grouped alone together (suc n) ts = parted alone together (grouped alone together n) (most_shared ts) ts

-- the trees of some products, with groups nested in one another at most so many levels deep. Those that share the chosen
-- literal have what they all have in common round them, and inside the trees of what is left of them
abbrev pub trees : Leaf → List Leaf → ℕ → List Product → List Shape
trees block leaves zero ts = map (product_shape block leaves) ts
trees block leaves (suc levels) ts =
    grouped (product_shape block leaves) (λ shared. group leaves (common shared) (trees block leaves levels (map (stripped (common shared)) shared))) (length ts) ts

-- the whole tree, of 20 levels
abbrev pub factored_shape : Leaf → List Leaf → List Term → Shape
factored_shape block leaves terms = union (shapes_of (trees block leaves 20 (map product_of terms)))
