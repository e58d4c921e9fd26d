-- What the tree of a carving means.
use Rattle.std.specs.Prelude.{◌≡◌, ◌↔◌, ℕ, true, List, slice_get, Some}
use Rattle.std.specs.Int.{bit_at}
use Rattle.bc_tree.specs.declared.tree.Leaf.{Leaf}
use Rattle.bc_tree.specs.Shape.{Shape}
use Rattle.bc_tree.specs.Leaves.{InLeaf2, InLeaf3}
use Rattle.bc_tree.specs.Holds.{HoldsBy}
use Rattle.bc_carve.specs.Shape.{Shapes as Pieces, some_holds}

-- bit i of the mask tells whether the point is in the set of leaf i
abbrev pub IsMaskAt : {P : Type 0} → (Leaf → P → Type 0) → List Leaf → P → ℕ → Type 0
IsMaskAt In leaves p mask = (i : ℕ) (l : Leaf) → slice_get leaves i ≡ Some l → (In l p ↔ (bit_at mask i ≡ 1))

-- the tree holds in its block alone, and at a point of the block exactly where some piece holds the point's mask
pub record MeansBy {P : Type 0} (In : Leaf → P → Type 0) (block : Leaf) (leaves : List Leaf) (pieces : Pieces) (t : Shape) : Type 0 where
  pub in_block : (p : P) → HoldsBy In t p → In block p
  pub at_mask : (p : P) (mask : ℕ) → In block p → IsMaskAt In leaves p mask → HoldsBy In t p ↔ (some_holds mask pieces ≡ true)

-- so it is at the rational points of the plane, and of space
pub record MeansCarving (block : Leaf) (leaves : List Leaf) (pieces : Pieces) (t : Shape) : Type 0 where
  pub in_plane : MeansBy InLeaf2 block leaves pieces t
  pub in_space : MeansBy InLeaf3 block leaves pieces t
