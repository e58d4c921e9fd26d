-- Trees that hold at the same points, and leaves of which a tree may be made.
use Rattle.std.specs.Prelude.{◌↔◌, ◌⊎◌, List}
use Rattle.std.specs.List.{All}
use Rattle.bc_num.specs.declared.p2.P2.{P2}
use Rattle.bc_num.specs.declared.p3.P3.{P3}
use Rattle.bc_tree.specs.declared.tree.Leaf.{Leaf}
use Rattle.bc_tree.specs.Leaves.{IsLeaf, IsFlat, IsSpaceLeaf}
use Rattle.bc_tree.specs.Shape.{Shape}
use Rattle.bc_tree.specs.Holds.{Holds2, Holds3}

-- at each rational point
pub record HoldAlike (s t : Shape) : Type 0 where
  pub in_plane : (p : P2) → Holds2 s p ↔ Holds2 t p
  pub in_space : (p : P3) → Holds3 s p ↔ Holds3 t p

-- the block and the literals are within their ranges, and all of the plane or all of space
pub record AreOfOneKind (block : Leaf) (literals : List Leaf) : Type 0 where
  pub first : IsLeaf block
  pub others : All IsLeaf literals
  pub kind : (IsFlat block × All IsFlat literals) ⊎ (IsSpaceLeaf block × All IsSpaceLeaf literals)
