-- How many leaves a tree has, and whether terms share a literal.
use Rattle.std.specs.Prelude.{ℕ, ◌+◌, ◌≤◌, ◌<◌, List, map}
use Rattle.bc_tree.specs.Shape.{Shape, leaf, union, meet, cut, Shapes, none, child}
use Rattle.bc_tree.specs.Cuts.{product_of}
use Rattle.bc_cover.specs.declared.term.Term.{Term}
use Rattle.bc_cover.specs.Covers.{Literal}
use Rattle.bc_factor.specs.Shared.{place, count}

abbrev mutual
  pub leaf_count : Shape → ℕ
  leaf_count (leaf l) = 1
  leaf_count (union kids) = leaf_counts kids
  leaf_count (meet kids) = leaf_counts kids
  leaf_count (cut first kids) = leaf_count first + leaf_counts kids

  pub leaf_counts : Shapes → ℕ
  leaf_counts none = 0
  leaf_counts (child s ss) = leaf_count s + leaf_counts ss

-- some literal stands in two terms; a mask has 64 half-spaces
abbrev pub Share : List Term → Type 0
Share terms = (l : Literal) × (place l < 64) × (2 ≤ count l (map product_of terms))
