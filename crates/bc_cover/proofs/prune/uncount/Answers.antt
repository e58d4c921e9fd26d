use Rattle.std.proofs.Common.{ℕ, ◌≡◌, ◌∙◌, ◌<◌, arith, refl, get_or, length, length-set}
use Rattle.std.proofs.lemmas.List.{get_or_default}
use Rattle.bc_cover.proofs.PlaceFacts.{none_before, uncount_set}
use Rattle.bc_cover.proofs.prune.uncount.Goals as goal

pub overflow_sub-index_mut : goal.overflow_sub-index_mut
overflow_sub-index_mut c =
    let p : ℕ = get_or c.args.places.now c.loop-place.place-index 0 in
    let lt : p < length c.loop-place.counts.items = let at = c.requires.within c.loop-place.place-index 0 c.loop-place-test.true in omega (arith, at, c.loop-place.invariant.size) in
    let read : c.index_mut.result.now ≡ get_or c.loop-place.counts.items p 0 = c.index_mut.ensures.value ∙ get_or_default c.loop-place.counts.items p c.index_mut.result.now 0 lt in
    let none = none_before c.args.places.now c.loop-place.place-index p c.loop-place-test.true refl (c.requires.once p) in
    let some : 0 < get_or c.args.counts.now.items p 0 = c.requires.some c.loop-place.place-index 0 c.loop-place-test.true in
    omega (arith, none, some, c.loop-place.invariant.less p, read)

pub loop-place-preserved : goal.loop-place-preserved
loop-place-preserved c =
    let p : ℕ = get_or c.args.places.now c.loop-place.place-index 0 in
    let lt : p < length c.loop-place.counts.items = let at = c.requires.within c.loop-place.place-index 0 c.loop-place-test.true in omega (arith, at, c.loop-place.invariant.size) in
    let read : c.index_mut.result.now ≡ get_or c.loop-place.counts.items p 0 = c.index_mut.ensures.value ∙ get_or_default c.loop-place.counts.items p c.index_mut.result.now 0 lt in
    let none = none_before c.args.places.now c.loop-place.place-index p c.loop-place-test.true refl (c.requires.once p) in
    let some : 0 < get_or c.args.counts.now.items p 0 = c.requires.some c.loop-place.place-index 0 c.loop-place-test.true in
    rw read record {
      size = length-set c.loop-place.counts.items p _ ∙ c.loop-place.invariant.size;
      less = uncount_set c.args.counts.now.items c.loop-place.counts.items c.args.places.now c.loop-place.place-index c.loop-place-test.true lt (omega (arith, none, some, c.loop-place.invariant.less p)) c.loop-place.invariant.less;
    }
