use Rattle.std.proofs.Common.{◌≡◌, ◌++◌, length, ap, sym, ◌∙◌, arith, subst, get_or}
use Rattle.std.specs.List.{AllZip}
use Rattle.bc_carve.specs.Shape.{shapes}
use Rattle.bc_carve.specs.Cuts.{all_cuts}
use Rattle.bc_carve.specs.Flips.{flips, trues_from}
use Rattle.bc_carve.specs.Witnesses.{IsShown}
use Rattle.bc_carve.proofs.WitnessFacts.{AreSoFar, named_within, inside_step, outside_step, all_shown}
use Rattle.bc_carve.proofs.witness.witnesses.Goals as goal

pub fill-requires : goal.fill-requires
fill-requires c =
    let m = get_or c.args.inside.now c.loop-place.place 0 in
    let e : c.deref.result.now ≡ trues_from 0 (flips m (shapes c.args.pieces.now)) = c.deref.ensures.value ∙ c.in_ok-add_flips.ensures ∙ ap (λ ns. ns ++ trues_from 0 (flips m (shapes c.args.pieces.now))) c.clear.ensures.items in
    named_within m (shapes c.args.pieces.now) c.deref.result.now c.loop-place.shown.items e c.loop-place.invariant.long

pub loop-place-preserved : goal.loop-place-preserved
loop-place-preserved c =
    let m = get_or c.args.inside.now c.loop-place.place 0 in
    let e : c.deref.result.now ≡ trues_from 0 (flips m (shapes c.args.pieces.now)) = c.deref.ensures.value ∙ c.in_ok-add_flips.ensures ∙ ap (λ ns. ns ++ trues_from 0 (flips m (shapes c.args.pieces.now))) c.clear.ensures.items in
    inside_step c.args.inside.now c.args.outside.now (shapes c.args.pieces.now) c.deref.result.now c.loop-place.shown.items c.fill.new.shown.items c.loop-place.place 0 (omega arith) c.requires.held e c.fill.ensures c.loop-place.invariant

pub loop-place-2-init : goal.loop-place-2-init
loop-place-2-init c =
    let all : c.loop-place.place ≡ length c.args.inside.now = omega arith in
    subst (λ i. AreSoFar c.args.inside.now c.args.outside.now i 0 (shapes c.args.pieces.now) c.loop-place.shown.items) all c.loop-place.invariant

pub fill-requires-in-loop-place-2 : goal.fill-requires-in-loop-place-2
fill-requires-in-loop-place-2 c =
    let m = get_or c.args.outside.now c.loop-place-2.place 0 in
    let e : c.deref-in-loop-place-2.result.now ≡ trues_from 0 (flips m (shapes c.args.pieces.now)) = c.deref-in-loop-place-2.ensures.value ∙ c.in_ok-add_flips-2.ensures ∙ ap (λ ns. ns ++ trues_from 0 (flips m (shapes c.args.pieces.now))) c.clear-in-loop-place-2.ensures.items in
    named_within m (shapes c.args.pieces.now) c.deref-in-loop-place-2.result.now c.loop-place-2.shown.items e c.loop-place-2.invariant.long

pub loop-place-2-preserved : goal.loop-place-2-preserved
loop-place-2-preserved c =
    let m = get_or c.args.outside.now c.loop-place-2.place 0 in
    let e : c.deref-in-loop-place-2.result.now ≡ trues_from 0 (flips m (shapes c.args.pieces.now)) = c.deref-in-loop-place-2.ensures.value ∙ c.in_ok-add_flips-2.ensures ∙ ap (λ ns. ns ++ trues_from 0 (flips m (shapes c.args.pieces.now))) c.clear-in-loop-place-2.ensures.items in
    outside_step c.args.inside.now c.args.outside.now (shapes c.args.pieces.now) c.deref-in-loop-place-2.result.now c.loop-place-2.shown.items c.fill-in-loop-place-2.new.shown.items (length c.args.inside.now) c.loop-place-2.place (omega arith) c.requires.free e c.fill-in-loop-place-2.ensures c.loop-place-2.invariant

pub returns : goal.returns
returns c =
    subst (AllZip (IsShown c.args.inside.now c.args.outside.now) (all_cuts (shapes c.args.pieces.now))) (sym c.from_vec.ensures)
    (all_shown c.args.inside.now c.args.outside.now (length c.args.inside.now) c.loop-place-2.place (shapes c.args.pieces.now) c.loop-place-2.shown.items (omega arith) (omega arith) c.loop-place-2.invariant)
