use Rattle.std.proofs.Common.{◌≡◌, ◌++◌, [], map, take, ◌+◌, ◌*◌}
use Rattle.bc_tree.specs.Shape.{shape}
use Rattle.bc_carve.specs.Shape.{shape as outline, shapes as outlines}
use Rattle.bc_carved.specs.Carved.{piece_shape}
use Rattle.bc_carved.proofs.Sizes.{products, products_in}
use Rattle.bc_carved.proofs.build.+pieces.Given as goal

abbrev pub decreases-add_pieces : goal.decreases-add_pieces
decreases-add_pieces l = 2 * products_in (outlines l.pieces.now) + 1

abbrev pub decreases-piece_tree : goal.decreases-piece_tree
decreases-piece_tree l = 2 * products (outline l.piece.now)

-- the trees of the pieces so far
abbrev pub invariant-add_pieces-loop-piece : goal.invariant-add_pieces-loop-piece
invariant-add_pieces-loop-piece l = map shape l.made ≡ map shape l.initial.made ++ map (λ p. piece_shape l.block l.leaves [] (outline p)) (take l.piece-index l.pieces)
