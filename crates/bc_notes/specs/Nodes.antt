-- The nodes of a tree in the order in which they are written, with their numbers, and which of them have a note before them.
use Rattle.std.specs.Prelude.{ℕ, ◌+◌, Bool, true, false, List, [], ◌∷◌, ◌++◌, filter}
use Rattle.bc_tree.specs.declared.tree.Leaf.{Leaf}
use Rattle.bc_tree.specs.declared.tree.Leaf.TheVariants as leaves
use Rattle.bc_tree.specs.Shape.{Shape, leaf, union, meet, cut, Shapes, none, child}

-- a node stands before what stands in it
abbrev mutual
  pub nodes : Shape → List Shape
  nodes (leaf l) = leaf l ∷ []
  nodes (union kids) = union kids ∷ each_nodes kids
  nodes (meet kids) = meet kids ∷ each_nodes kids
  nodes (cut first kids) = cut first kids ∷ (nodes first ++ each_nodes kids)

  pub each_nodes : Shapes → List Shape
  each_nodes none = []
  each_nodes (child s ss) = nodes s ++ each_nodes ss

-- a node with its number
pub record Node : Type 0 where
  pub place : ℕ
  pub shape : Shape

-- the first one has number n
abbrev pub numbered_from : ℕ → List Shape → List Node
numbered_from n [] = []
numbered_from n (s ∷ ss) = record { place = n; shape = s } ∷ numbered_from (n + 1) ss

-- a leaf that is no box
abbrev pub is_half_space : Leaf → Bool
is_half_space (leaves.Slab f) = true
is_half_space (leaves.Strip f) = true
is_half_space (leaves.Disc d) = true
is_half_space (leaves.Block b) = false
is_half_space (leaves.Tile b) = false

-- the cuts, and the leaves that are no boxes
abbrev pub is_noted : Shape → Bool
is_noted (leaf l) = is_half_space l
is_noted (union kids) = false
is_noted (meet kids) = false
is_noted (cut first kids) = true

-- the nodes of a tree that have a note before them, in order; the root has number 0
abbrev pub noted_nodes : Shape → List Node
noted_nodes t = filter (λ n. is_noted n.shape) (numbered_from 0 (nodes t))
