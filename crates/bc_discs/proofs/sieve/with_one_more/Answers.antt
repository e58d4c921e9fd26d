use Rattle.std.proofs.Common.{◌+◌, ◌^◌, ◌<◌, ◌≤◌, length, take, sym, subst, arith}
use Rattle.std.proofs.Math.Pow.{pow_mono}
use Rattle.std.specs.List.{All, AllPairs}
use Rattle.bc_discs.specs.Rules.{choices_of}
use Rattle.bc_discs.specs.Sieves.{Fires}
use Rattle.bc_discs.proofs.Firsts.{fires_more}
use Rattle.bc_discs.proofs.KeptSets.{AreOf, of_more, sets_more}
use Rattle.bc_discs.proofs.sieve.with_one_more.Goals as goal

pub add_both-requires-clause-few : goal.add_both-requires-clause-few
add_both-requires-clause-few c =
    let w = subst (All (λ n. n < 2 ^ length c.args.rest.now)) (sym c.as_slice-set-items.ensures) c.requires.sets.within in
    let l = w c.loop-set.set-index 0 c.loop-set-test.true in
    let few = c.requires.few in
    let m : 2 ^ length c.args.rest.now ≤ 2 ^ 10 = pow_mono {j = 10} (omega arith) in
    omega arith

pub loop-set-preserved : goal.loop-set-preserved
loop-set-preserved c =
    let Rule = Fires c.args.sieve c.args.corners.now c.args.walls.now in
    let sets = c.as_slice-set-items.result.now in
    let b = c.in_ok-add_both.ensures in
    let rising = subst (AllPairs ◌<◌) (sym c.as_slice-set-items.ensures) c.requires.sets.order in
    let kept = subst (All (λ n. Fires c.args.sieve c.args.corners.now c.args.walls.now (choices_of n c.args.rest.now) → ⊥)) (sym c.as_slice-set-items.ensures) c.requires.sets.each in
    subst (AreOf (Fires c.args.sieve c.args.corners.now c.args.walls.now) c.args.disc.now c.args.rest.now (take (c.loop-set.set-index + 1) c.as_slice-set-items.result.now)) (sym b.1)
    (of_more (Fires c.args.sieve c.args.corners.now c.args.walls.now) c.args.disc.now c.args.rest.now c.as_slice-set-items.result.now c.loop-set.more b.0 c.loop-set.set-index c.loop-set-test.true rising c.loop-set.invariant
    (b.2 (kept c.loop-set.set-index 0 c.loop-set-test.true)))

pub returns : goal.returns
returns c =
    let inv = subst (λ xs. AreOf (Fires c.args.sieve c.args.corners.now c.args.walls.now) c.args.disc.now c.args.rest.now (take c.loop-set.set-index xs) c.loop-set.more) c.as_slice-set-items.ensures c.loop-set.invariant in
    sets_more (Fires c.args.sieve c.args.corners.now c.args.walls.now) c.args.disc.now c.args.rest.now c.args.sets.now c.loop-set.more c.loop-set.set-index
    (λ first cs h. fires_more c.args.corners.now c.args.walls.now first cs c.args.sieve h)
    (subst (λ xs. length xs ≤ c.loop-set.set-index) c.as_slice-set-items.ensures c.loop-set-test.false)
    c.requires.sets inv
