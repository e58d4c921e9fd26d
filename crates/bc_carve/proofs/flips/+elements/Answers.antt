use Rattle.std.proofs.Common.{◌≡◌, ◌+◌, arith, ap}
use Rattle.bc_carve.specs.Shape.{shape, shapes}
use Rattle.bc_carve.specs.Flips.{bits_of, elements, elements_in}
use Rattle.bc_carve.specs.declared.piece.Piece.{out-Piece}
use Rattle.bc_carve.proofs.ShapeFacts.{piece_shape}
use Rattle.bc_carve.proofs.FlipFacts.{all_elements_counted, few_bits}
use Rattle.bc_carve.proofs.flips.+elements.Goals as goal

pub elements_of-overflow_add-own : goal.elements_of-overflow_add-own
elements_of-overflow_add-own t c = omega (arith, few_bits (out-Piece c.args.piece.now).pos, few_bits (out-Piece c.args.piece.now).neg, c.bits_of.ensures, c.bits_of-2.ensures)

pub elements_of-returns : goal.elements_of-returns
elements_of-returns t c =
    let e : elements (shape c.args.piece.now) ≡ bits_of (out-Piece c.args.piece.now).pos + bits_of (out-Piece c.args.piece.now).neg + elements_in (shapes (out-Piece c.args.piece.now).holes) = ap elements (piece_shape c.args.piece.now) in
    let f : elements_in (shapes c.as_slice.result.now) ≡ elements_in (shapes (out-Piece c.args.piece.now).holes) = ap (λ hs. elements_in (shapes hs)) c.as_slice.ensures in
    omega (arith, e, f, c.saturating_add.ensures, c.elements_in.ensures, c.bits_of.ensures, c.bits_of-2.ensures)

pub elements_in-returns : goal.elements_in-returns
elements_in-returns t c = all_elements_counted c.args.pieces.now c.loop-piece.piece-index c.loop-piece.count c.loop-piece-test.false c.loop-piece.invariant.small c.loop-piece.invariant.all
