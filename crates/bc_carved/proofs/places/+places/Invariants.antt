use Rattle.std.proofs.Common.{◌≤◌, ◌+◌, ◌*◌, drop, length}
use Rattle.bc_carve.specs.Shape.{shape as outline, shapes as outlines}
use Rattle.bc_carved.proofs.Sizes.{products, products_in}
use Rattle.bc_carved.proofs.Placing.{WithRest}
use Rattle.bc_carved.proofs.places.+places.Given as goal

abbrev pub decreases-add_pieces : goal.decreases-add_pieces
decreases-add_pieces l = 2 * products_in (outlines l.pieces.now) + 1

abbrev pub decreases-add_inner : goal.decreases-add_inner
decreases-add_inner l = 2 * products (outline l.piece.now)

-- with the places of the pieces that are left they are all
abbrev pub invariant-add_pieces-loop-piece : goal.invariant-add_pieces-loop-piece
invariant-add_pieces-loop-piece l = record {
  soon : l.next ≤ 3 * length l.places.items + 4;
  all : WithRest l.n (outlines l.pieces) l.next (outlines (drop l.piece-index l.pieces)) l.initial.places.items l.places.items;
}
