use Rattle.std.proofs.Common.{◌≡◌, ◌+◌, ◌-◌, ◌∷◌, [], ◌++◌, length, sym, ap, ◌∙◌, subst, arith}
use Rattle.std.proofs.lemmas.List.{length-drop}
use Rattle.std.proofs.lemmas.List.Elements.{All-drop}
use Rattle.std.specs.List.{All}
use Rattle.bc_space.specs.Discs.{IsSizedDisc}
use Rattle.bc_discs.specs.Sieves.{Fires, AreSets}
use Rattle.bc_discs.proofs.Firsts.{never_fires}
use Rattle.bc_discs.proofs.KeptSets.{sets_none, tail_whole, tail_more, tail_before, tail_none, tail_all}
use Rattle.bc_discs.proofs.sieve.kept_sets.Goals as goal

pub loop-i-init : goal.loop-i-init
loop-i-init c =
    let e : c.push.new.self ≡ 0 ∷ [] = c.in_ok-push.ensures.ok ∙ ap (λ xs. xs ++ 0 ∷ []) c.new-sets.ensures in
    subst (λ ds. AreSets (Fires c.args.sieve c.args.corners.now c.args.walls.now) ds c.push.new.self) (sym (tail_none c.args.discs.now))
    (subst (λ sets. AreSets (Fires c.args.sieve c.args.corners.now c.args.walls.now) [] sets) (sym e)
    (sets_none (Fires c.args.sieve c.args.corners.now c.args.walls.now) (never_fires c.args.corners.now c.args.walls.now c.args.sieve)))

pub with_one_more-requires-clause-few : goal.with_one_more-requires-clause-few
with_one_more-requires-clause-few c =
    let e = tail_whole c.args.discs.now (length c.args.discs.now - 1 - c.loop-i.i + 1) in
    let f = length-drop (length c.args.discs.now - 1 - c.loop-i.i + 1) c.args.discs.now in
    let few = c.requires.few in
    let l = c.loop-i-test.true in
    rw e (omega arith)

pub with_one_more-requires-clause-rest_sized : goal.with_one_more-requires-clause-rest_sized
with_one_more-requires-clause-rest_sized c =
    subst (All IsSizedDisc) (sym (tail_whole c.args.discs.now (length c.args.discs.now - 1 - c.loop-i.i + 1))) (All-drop IsSizedDisc (length c.args.discs.now - 1 - c.loop-i.i + 1) c.args.discs.now c.requires.discs_sized)

pub with_one_more-requires-clause-sets : goal.with_one_more-requires-clause-sets
with_one_more-requires-clause-sets c =
    subst (λ ds. AreSets (Fires c.args.sieve c.args.corners.now c.args.walls.now) ds c.loop-i.sets) (sym (tail_before c.args.discs.now c.loop-i.i c.loop-i-test.true)) c.loop-i.invariant

pub loop-i-preserved : goal.loop-i-preserved
loop-i-preserved c =
    subst (λ ds. AreSets (Fires c.args.sieve c.args.corners.now c.args.walls.now) ds c.in_ok-sets.sets) (tail_more c.args.discs.now c.loop-i.i c.index-discs-k.result c.loop-i-test.true c.index-discs-k.is) c.in_ok-sets.ensures

pub returns : goal.returns
returns c = subst (λ ds. AreSets (Fires c.args.sieve c.args.corners.now c.args.walls.now) ds c.loop-i.sets) (tail_all c.args.discs.now c.loop-i.i c.loop-i-test.false) c.loop-i.invariant
