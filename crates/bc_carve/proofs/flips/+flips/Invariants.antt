use Rattle.std.proofs.Common.{◌+◌, ◌*◌}
use Rattle.bc_carve.specs.Shape.{shape, shapes}
use Rattle.bc_carve.proofs.Sizes.{products, products_in}
use Rattle.bc_carve.proofs.FlipFacts.{IsNext, AreFound}
use Rattle.bc_carve.proofs.flips.+flips.Given as goal

-- with what the pieces that are left add it is what all add
abbrev pub invariant-add_flips-loop-piece : goal.invariant-add_flips-loop-piece
invariant-add_flips-loop-piece l = record {
  next : IsNext l.holding l.mask l.start l.pieces l.piece-index l.at;
  so_far : AreFound l.holding l.mask l.start l.pieces l.initial.places.items l.piece-index l.at l.places.items;
}

abbrev pub decreases-add_flips : goal.decreases-add_flips
decreases-add_flips l = 3 * products_in (shapes l.pieces.now) + 2

abbrev pub decreases-add_flips_of : goal.decreases-add_flips_of
decreases-add_flips_of l = 3 * products (shape l.piece.now) + 1

abbrev pub decreases-add_flips_in : goal.decreases-add_flips_in
decreases-add_flips_in l = 3 * products (shape l.piece.now)
