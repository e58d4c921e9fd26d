-- How often the block stands in the tree of a carving.
use Rattle.std.specs.Prelude.{ℕ, ◌+◌, nat_eq, if◌then◌else◌}
use Rattle.bc_carve.specs.Shape.{Shape as Piece, Shapes as Pieces, less, none, piece}

abbrev mutual
  -- in a piece it stands where no half-space is positive; and it may stand in the holes
  pub blocks : Piece → ℕ
  blocks (less pos neg holes) = (if nat_eq pos 0 then 1 else 0) + blocks_in holes

  pub blocks_in : Pieces → ℕ
  blocks_in none = 0
  blocks_in (piece s ss) = blocks s + blocks_in ss

-- in the whole it stands round all pieces too; in a lone piece it stands once, whether a half-space is positive or none
abbrev pub all_blocks : Pieces → ℕ
all_blocks none = 0
all_blocks (piece (less pos neg holes) none) = 1 + blocks_in holes
all_blocks (piece s (piece t ss)) = 1 + blocks_in (piece s (piece t ss))
