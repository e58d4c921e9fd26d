use Rattle.std.proofs.Common.{◌≡◌, ◌≤◌, ◌+◌, ◌∷◌, [], Some, length, nat_lt, sym, ap, ◌∙◌, subst, arith, length-append}
use Rattle.std.specs.Prelude.{count_ones}
use Rattle.bc_carve.specs.declared.piece.Piece.{Piece, out-Piece}
use Rattle.bc_carve.specs.Shape.{shape as outline, shapes as outlines}
use Rattle.bc_carved.proofs.Sizes.{products, products_in, one_of_all}
use Rattle.bc_carved.proofs.Placing.{soon_enough, piece_is, inner_made, rest_pushed}
use Rattle.bc_carved.proofs.places.+places.Goals as goal

pub add_inner-add_pieces-requires : goal.add_inner-add_pieces-requires
add_inner-add_pieces-requires t c =
    let front = c.one_if-front.result in
    let k = count_ones (out-Piece c.args.piece.now).pos in
    let q = count_ones (out-Piece c.args.piece.now).neg in
    let deep : products (outline c.args.piece.now) ≡ 1 + products_in (outlines c.as_slice-holes.result.now) = ap products (piece_is c.args.piece.now c.as_slice-holes.result.now c.as_slice-holes.ensures) in (
      omega (arith, deep),
      soon_enough c.args.lone c.is_cut-cuts.result c.has_nodes-own.result (nat_lt 1 (front + k)) c.args.n front c.one_if.result c.one_if-2.result c.one_if-3.result k q _ _
          c.args.places.now.items c.add_half_spaces.new.places.items c.add_half_spaces-2.new.places.items
          c.one_if-front.ensures c.one_if.ensures c.one_if-2.ensures c.one_if-3.ensures c.in_ok-add_half_spaces.ensures c.in_ok-add_half_spaces-2.ensures c.requires,
    )

pub add_inner-returns-clause-added : goal.add_inner-returns-clause-added
add_inner-returns-clause-added t c =
    let p = out-Piece c.args.piece.now in
    inner_made c.args.lone c.args.n p.pos p.neg (outlines c.as_slice-holes.result.now) (outline c.args.piece.now) c.is_cut-cuts.result c.has_nodes-own.result c.one_if-front.result c.one_if.result c.one_if-2.result c.one_if-3.result
    c.args.places.now.items c.add_half_spaces.new.places.items c.add_half_spaces-2.new.places.items c.add_pieces.new.places.items c.in_ok-add_pieces.field-0
    (piece_is c.args.piece.now c.as_slice-holes.result.now c.as_slice-holes.ensures) c.is_cut-cuts.ensures c.one_if-front.ensures c.has_nodes-own.ensures
    c.one_if.ensures c.one_if-2.ensures c.one_if-3.ensures c.in_ok-add_half_spaces.ensures c.in_ok-add_half_spaces-2.ensures c.in_ok-add_pieces.ensures.added

pub add_pieces-add_inner-requires : goal.add_pieces-add_inner-requires
add_pieces-add_inner-requires t c =
    let le : products (outline c.piece-item.result) ≤ products_in (outlines c.args.pieces.now) =
    subst (λ (p : Piece). products (outline p) ≤ products_in (outlines c.args.pieces.now)) (sym c.piece-item.is) (one_of_all c.args.pieces.now c.loop-piece.piece-index c.piece-item.result c.loop-piece-test.true) in
    let more : length c.push.new.self.items ≡ length c.loop-piece.places.items + 1 = ap length c.in_ok-push.ensures.items ∙ length-append c.loop-piece.places.items (Some c.loop-piece.next ∷ []) in
    let soon = c.loop-piece.invariant.soon in
    (omega (arith, le), omega (arith, more, soon))

pub add_pieces-loop-piece-preserved : goal.add_pieces-loop-piece-preserved
add_pieces-loop-piece-preserved t c = record {
  soon = c.in_ok-next.ensures.soon;
  all = rest_pushed c.args.n c.loop-piece.next c.args.pieces.now c.loop-piece.piece-index c.piece-item.result c.in_ok-next.next
      c.args.places.now.items c.loop-piece.places.items c.push.new.self.items c.add_inner.new.places.items c.loop-piece-test.true c.piece-item.is c.loop-piece.invariant.all c.in_ok-push.ensures.items c.in_ok-next.ensures.added;
}
