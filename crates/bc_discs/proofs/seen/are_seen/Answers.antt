use Rattle.std.proofs.Common.{◌≢◌, get_or, None, Some, slice_get, refl}
use Rattle.std.proofs.lemmas.List.{take_all}
use Rattle.std.proofs.lemmas.List.Elements.{All-more}
use Rattle.bc_discs.proofs.SeenSlots.{slot_filled}
use Rattle.bc_discs.proofs.seen.are_seen.Goals as goal

pub loop-set-preserved : goal.loop-set-preserved
loop-set-preserved c =
    All-more (λ set. slice_get c.args.slots.now.items set ≢ Some None) c.args.sets.now c.loop-set.set-index 0 c.loop-set-test.true c.loop-set.invariant
    (slot_filled c.index.result.now c.args.slots.now.items (get_or c.args.sets.now c.loop-set.set-index 0) (c.requires c.loop-set.set-index 0 c.loop-set-test.true) c.index.ensures c.if-is_none.ensures)

pub returns : goal.returns
returns c =
    let e = take_all c.loop-set.set-index c.args.sets.now c.loop-set-test.false in
    (λ _. rw e at c.loop-set.invariant, λ _. refl)
