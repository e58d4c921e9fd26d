-- The law of the places of notes.
use Rattle.std.specs.Prelude.{◌≡◌, true, false, List, map, length}
use Rattle.std.specs.List.{All}
use Rattle.bc_tree.specs.declared.tree.Leaf.{Leaf}
use Rattle.bc_tree.specs.declared.product.Product.{Product}
use Rattle.bc_tree.specs.Cuts.{products_shape}
use Rattle.bc_notes.specs.Nodes.{is_half_space, noted_nodes}
use Rattle.bc_notes.specs.Noted.{noted, node_of}

-- the cuts and the leaves that are no boxes of the tree of some products are these products and their literals, in the same
-- order and with the same numbers
abbrev pub PlacesLaw : Type 0
PlacesLaw = (block : Leaf) (leaves : List Leaf) (products : List Product) → is_half_space block ≡ false → All (λ l. is_half_space l ≡ true) leaves
    → map (node_of block leaves) (noted (length leaves) products) ≡ noted_nodes (products_shape block leaves products)
