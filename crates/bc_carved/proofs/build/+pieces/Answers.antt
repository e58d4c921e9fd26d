use Rattle.std.proofs.Common.{◌≤◌, map, sym, subst, arith}
use Rattle.bc_tree.specs.Shape.{shape}
use Rattle.bc_carve.specs.declared.piece.Piece.{Piece}
use Rattle.bc_carve.specs.Shape.{shape as outline, shapes as outlines}
use Rattle.bc_carved.proofs.Sizes.{products, products_in, one_of_all}
use Rattle.bc_carved.proofs.Made.{all_made}
use Rattle.bc_carved.proofs.build.+pieces.Goals as goal

pub add_pieces-piece_tree-requires : goal.add_pieces-piece_tree-requires
add_pieces-piece_tree-requires t c =
    let le : products (outline c.piece-item.result) ≤ products_in (outlines c.args.pieces.now) =
    subst (λ (p : Piece). products (outline p) ≤ products_in (outlines c.args.pieces.now)) (sym c.piece-item.is) (one_of_all c.args.pieces.now c.loop-piece.piece-index c.piece-item.result c.loop-piece-test.true) in
    (omega (arith, le), tt)

pub add_pieces-returns : goal.add_pieces-returns
add_pieces-returns t c = all_made c.args.block c.args.leaves.now c.args.pieces.now c.loop-piece.piece-index (map shape c.args.made.now) (map shape c.loop-piece.made) c.loop-piece-test.false c.loop-piece.invariant
