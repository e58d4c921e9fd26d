-- The carved tree of a boundary, of any kind: what `carve` writes.
use Rattle.std.specs.Prelude.{◌≡◌, ◌↔◌, ◌+◌, ℕ, true, false, List, length}
use Rattle.std.specs.List.{Contains}
use Rattle.bc_carve.specs.declared.piece.Piece.{Piece}
use Rattle.bc_carve.specs.Shape.{shapes, literals_in}
use Rattle.bc_carved.specs.Carved.{carved_shape}
use Rattle.bc_carved.specs.Counts.{all_blocks}
use Rattle.bc_factor.specs.Counts.{leaf_count}
use Rattle.bc_tree.specs.declared.tree.Leaf.{Leaf}
use Rattle.bc_tree.specs.Shape.{Shape}
use Rattle.bc_tree.specs.Spells.{IsAllowed}
use Rattle.bc_formula.specs.Geometry.{Geometry}
use Rattle.bc_formula.specs.Headline.{Means}
use Rattle.bc_pieces.specs.Carved.{ArePiecesOf}

-- these pieces, over these leaves, are pieces of the boundary
pub record ArePieces {B P X : Type 0} (k : Geometry B P X) (b : B) (box : X) (leaves : List Leaf) (pieces : List Piece) : Type 0 where
  -- the leaves are those of its half-spaces, each once and in their order
  pub of_input : k.leaves b leaves
  -- the lean masks of the parts into which it divides its box: each odd one and no other, each even one and no other
  pub odd : List ℕ
  pub even : List ℕ
  pub odd_are : (mask : ℕ) → k.lean_mask b box true mask ↔ Contains odd mask
  pub even_are : (mask : ℕ) → k.lean_mask b box false mask ↔ Contains even mask
  -- the pieces hold each odd mask and no even one, and nothing in them is idle
  pub carving : ArePiecesOf odd even (length leaves) pieces

-- the tree is a carved one of the boundary
pub record IsCarvedTree {B P X : Type 0} (k : Geometry B P X) (b : B) (box : X) (t : Shape) : Type 0 where
  -- the boundary has no more half-spaces than a conversion takes, and this is its box
  pub within : k.within b
  pub box_of : k.box_of b box
  -- it is that of these pieces of the boundary
  pub leaves : List Leaf
  pub pieces : List Piece
  pub of_boundary : ArePieces k b box leaves pieces
  pub form : t ≡ carved_shape (k.block box) leaves (shapes pieces)
  -- it means the boundary: at each rational point strictly inside the box and on no half-space boundary it holds exactly if
  -- the downward ray crosses the boundary an odd number of times, and outside the closed box neither is so
  pub means : Means k b box t
  -- it has a leaf for each literal of the pieces, and the block round them and where a piece has no positive half-space
  pub leaves_are : leaf_count t ≡ literals_in (shapes pieces) + all_blocks (shapes pieces)
  -- a text may spell it
  pub allowed : IsAllowed t
