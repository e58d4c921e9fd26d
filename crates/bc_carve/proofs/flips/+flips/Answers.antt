use Rattle.std.proofs.Common.{ℕ, List, ◌≡◌, ◌+◌, ◌++◌, ap, sym, ◌∙◌, arith, rules, true, false, append-nil, cond, Bool, refl, Result, Ok, Err}
use Rattle.std.specs.Result.{OnOk}
use mir.Val.{bool_byte}
use Rattle.std.proofs.lemmas.Bool.{both_ways}
use Rattle.bc_carve.specs.declared.piece.Piece.{Piece, out-Piece}
use Rattle.bc_carve.specs.Shape.{shape, shapes, holds, some_holds}
use Rattle.bc_carve.specs.Flips.{bits_of, elements, elements_in, flips, neg_flips, trues_from}
use Rattle.bc_carve.proofs.ShapeFacts.{piece_shape}
use Rattle.bc_carve.proofs.FlipFacts.{room_for, next_step, found_step, all_found, added_admitted, added_lacking, added_none, of_others, products_at}
use Rattle.bc_carve.proofs.flips.+flips.Goals as goal
use Rattle.bc_carve.proofs.flips.+flips.Goals.{add_flips_in-else-lacks_one-via-then-lacks_one+else-not-is_held, add_flips_in-else-lacks_one-via-else-lacks_one}

pub add_flips-add_flips_of-requires : goal.add_flips-add_flips_of-requires
add_flips-add_flips_of-requires t c = (
  (let fewer = products_at c.args.pieces.now c.loop-piece.piece-index c.piece-item.result c.loop-piece-test.true c.piece-item.is in search (rules, fewer)),
  room_for c.holders_of-holding.result c.args.mask c.args.start c.args.pieces.now c.loop-piece.piece-index c.loop-piece.at c.piece-item.result c.loop-piece-test.true c.piece-item.is c.loop-piece.invariant.next c.requires,
)

pub add_flips-loop-piece-preserved : goal.add_flips-loop-piece-preserved
add_flips-loop-piece-preserved t c =
    let p = c.piece-item.result in
    let on = c.loop-piece.at + (1 + c.elements_of.result) in
    let room = room_for c.holders_of-holding.result c.args.mask c.args.start c.args.pieces.now c.loop-piece.piece-index c.loop-piece.at p c.loop-piece-test.true c.piece-item.is c.loop-piece.invariant.next c.requires in
    let e : on ≡ c.loop-piece.at + (1 + elements (shape p)) = omega (arith, c.elements_of.ensures, room) in
    record {
      next = next_step c.holders_of-holding.result c.args.mask c.args.start c.args.pieces.now c.loop-piece.piece-index c.loop-piece.at p c.loop-piece-test.true c.piece-item.is on e c.loop-piece.invariant.next;
      so_far = found_step c.holders_of-holding.result c.args.mask c.args.start c.args.pieces.now c.loop-piece.piece-index c.loop-piece.at p c.loop-piece-test.true c.piece-item.is on c.args.places.now.items c.loop-piece.places.items c.add_flips_of.new.places.items e c.loop-piece.invariant.so_far c.in_ok-add_flips_of.ensures;
    }

pub add_flips-returns : goal.add_flips-returns
add_flips-returns t c = all_found c.args.mask c.args.start c.loop-piece.at c.loop-piece.piece-index c.holders_of-holding.result c.args.pieces.now c.args.places.now.items c.loop-piece.places.items c.holders_of-holding.ensures c.loop-piece-test.false c.loop-piece.invariant.so_far

pub add_flips_in-returns-then-is_admitted : goal.add_flips_in-returns-then-is_admitted
add_flips_in-returns-then-is_admitted t c =
    let piece = out-Piece c.args.piece.now in
    on_ok c.add_flips.result
    (λ h.
    added_admitted (shape c.args.piece.now) c.args.mask piece.pos piece.neg c.args.start (shapes piece.holes) (piece_shape c.args.piece.now) c.args.places.now.items c.add_flips.new.places.items
    (sym c.is_admitted.ensures ∙ c.if-is_admitted.true)
    (h
    ∙ (λ i. c.args.places.now.items ++ trues_from (c.args.start + c.bits_of.ensures i + c.bits_of-then-is_admitted.ensures i) (flips c.args.mask (shapes (c.as_slice-holes.ensures i))))))
    c.add_flips.ensures
  where
    on_ok : {X E : Type 0} {P Q : Type 0} (r : Result X E) → (P → Q) → OnOk r P → OnOk r Q
    on_ok (Ok x) f h = f h
    on_ok (Err e) f h = h

pub add_flips_in-add_neg-requires : goal.add_flips_in-add_neg-requires
add_flips_in-add_neg-requires t c =
    let e : elements (shape c.args.piece.now) ≡ bits_of (out-Piece c.args.piece.now).pos + bits_of (out-Piece c.args.piece.now).neg + elements_in (shapes (out-Piece c.args.piece.now).holes) = ap elements (piece_shape c.args.piece.now) in
    omega (arith, e, c.requires, c.bits_of.ensures)

pub add_flips_in-returns-in_ok-add_neg : goal.add_flips_in-returns-in_ok-add_neg
add_flips_in-returns-in_ok-add_neg t c =
    let piece = out-Piece c.args.piece.now in
    let held : some_holds c.args.mask (shapes piece.holes) ≡ c.is_held.result = sym (c.is_held.ensures ∙ ap (λ (ps : List Piece). some_holds c.args.mask (shapes ps)) c.as_slice-holes.ensures) in
    added_lacking (shape c.args.piece.now) c.args.mask piece.pos piece.neg c.args.start (shapes piece.holes) (piece_shape c.args.piece.now) c.args.places.now.items c.add_neg.new.places.items
    (sym c.is_admitted.ensures ∙ c.if-is_admitted.false)
    (held ∙ c.if-not-is_held.true)
    c.add_pos.new.places.items c.in_ok-add_pos.ensures
    (c.in_ok-add_neg.ensures ∙ ap (λ n. c.add_pos.new.places.items ++ trues_from (c.args.start + n) (neg_flips piece.pos piece.neg c.args.mask)) c.bits_of.ensures)

pub add_flips_in-returns-else-lacks_one : goal.add_flips_in-returns-else-lacks_one
add_flips_in-returns-else-lacks_one t c =
    let piece = out-Piece c.args.piece.now in
    added_none (shape c.args.piece.now) c.args.mask piece.pos piece.neg c.args.start (shapes piece.holes) (piece_shape c.args.piece.now) c.args.places.now.items c.args.places.now.items
    (sym c.is_admitted.ensures ∙ c.if-is_admitted.false)
    (λ free. elim c.else-lacks_one.branch [
      | add_flips_in-else-lacks_one-via-then-lacks_one+else-not-is_held w ↦
          (let held : some_holds c.args.mask (shapes piece.holes) ≡ w.is_held.result = sym (w.is_held.ensures ∙ ap (λ (ps : List Piece). some_holds c.args.mask (shapes ps)) c.as_slice-holes.ensures) in
          absurd (both_ways _ free (held ∙ w.if-not-is_held.false)))
      | add_flips_in-else-lacks_one-via-else-lacks_one w ↦ (c.lacks_one.ensures.pos w.if-lacks_one.false, c.lacks_one.ensures.neg w.if-lacks_one.false)
    ])
    refl

as_one : Bool → ℕ
as_one b = cond b 1 0

as_number : (b : Bool) → bool_byte b ≡ as_one b
unfolding as_one
as_number true = refl
as_number false = refl

pub add_flips_of-returns-else-holding-from : goal.add_flips_of-returns-else-holding-from
unfolding as_one
add_flips_of-returns-else-holding-from t c =
    let not_one : ¬ (c.args.holding ≡ cond (holds c.args.mask (shape c.args.piece.now)) 1 0) = λ e. c.if-holding-from.false (e ∙ sym (c.from.ensures ∙ as_number c.holds-held.result ∙ ap as_one c.holds-held.ensures)) in
    sym (append-nil c.args.places.now.items) ∙ ap (λ ns. c.args.places.now.items ++ ns) (sym (of_others c.args.mask c.args.holding c.args.start (shape c.args.piece.now) not_one))
