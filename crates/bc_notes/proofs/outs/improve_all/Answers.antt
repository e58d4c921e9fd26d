use Rattle.std.proofs.Common.{◌≡◌, ◌+◌, length, take, inl, refl, ◌∙◌}
use Rattle.std.specs.Prelude.{All, Contains}
use Rattle.std.specs.Int.{bit_at}
use Rattle.std.specs.Int.Bits.{bit_and, bit_xor}
use Rattle.bc_cover.specs.Masks.{without_bit}
use Rattle.bc_notes.specs.declared.sign.Sign.TheVariants.{Positive, Negative}
use Rattle.bc_notes.specs.Chosen.{IsChosen}
use Rattle.bc_notes.specs.Bests.{IsSpotOf, LetsIn, word_of}
use Rattle.bc_notes.proofs.Choosing.{IsBest, seen_contained, best_start, best_step, best_seen}
use Rattle.bc_notes.proofs.Stepping.{step_as, all_as, all_step}
use Rattle.bc_notes.proofs.Letting.{positive_parts, positive_whole, negative_parts, negative_whole}
use Rattle.bc_notes.proofs.outs.improve_all.Goals as goal

pub loop-m-init : goal.loop-m-init
loop-m-init c =
    let p = c.args.p in
    let all = c.args.outside.now.all.now in
    let seen = c.args.outside.now.seen.now in
    record {
      positive_len = refl;
      negative_len = refl;
      positive = all_as (λ i spot. IsSpotOf (LetsIn p Positive i) all spot) (λ i spot. IsBest (LetsIn p Positive i) all (take 0 seen) spot) c.args.positive.now.items (λ i spot h. best_start (LetsIn p Positive i) all seen spot h) c.requires.positive;
      negative = all_as (λ i spot. IsSpotOf (LetsIn p Negative i) all spot) (λ i spot. IsBest (LetsIn p Negative i) all (take 0 seen) spot) c.args.negative.now.items (λ i spot h. best_start (LetsIn p Negative i) all seen spot h) c.requires.negative;
    }

pub loop-m-preserved : goal.loop-m-preserved
loop-m-preserved c =
    let p = c.args.p in
    let all = c.args.outside.now.all.now in
    let seen = c.args.outside.now.seen.now in
    let m = c.m-item.result in
    let k = c.loop-m.m-index in
    let of : All (Contains c.args.outside.now.all.now) c.args.outside.now.seen.now = seen_contained all seen c.requires.seen in
    let lacks = bit_xor p.pos (bit_and p.pos m.mask) in
    let extra = bit_and p.neg m.mask in
    let positive_same : length c.improve.new.bests.items ≡ length c.loop-m.positive.items = c.improve.ensures.len in
    let negative_same : length c.improve-in-loop-m.new.bests.items ≡ length c.loop-m.negative.items = c.improve-in-loop-m.ensures.len in
    record {
      positive_len = positive_same ∙ c.loop-m.invariant.positive_len;
      negative_len = negative_same ∙ c.loop-m.invariant.negative_len;
      positive = all_step (λ i spot. IsBest (LetsIn p Positive i) all (take k seen) spot) (λ i spot. IsBest (LetsIn p Positive i) all (take (k + 1) seen) spot) (λ i. (extra ≡ 0) × (without_bit lacks i ≡ 0)) m.spot c.loop-m.positive.items c.improve.new.bests.items positive_same
          (λ i a b l step h.
          best_step (LetsIn p Positive i) all seen of k m c.loop-m-test.true c.m-item.is a b
          (step_as m.spot ((extra ≡ 0) × (without_bit lacks i ≡ 0)) (LetsIn p Positive i m.mask) a b (positive_whole p.pos p.neg m.mask i) (λ will. inl (positive_parts p.pos p.neg m.mask i will)) step) h)
          c.improve.ensures.each c.loop-m.invariant.positive;
      negative = all_step (λ i spot. IsBest (LetsIn p Negative i) all (take k seen) spot) (λ i spot. IsBest (LetsIn p Negative i) all (take (k + 1) seen) spot) (λ i. (lacks ≡ 0) × (without_bit extra i ≡ 0)) m.spot c.loop-m.negative.items c.improve-in-loop-m.new.bests.items negative_same
          (λ i a b l step h.
          best_step (LetsIn p Negative i) all seen of k m c.loop-m-test.true c.m-item.is a b
          (step_as m.spot ((lacks ≡ 0) × (without_bit extra i ≡ 0)) (LetsIn p Negative i m.mask) a b (negative_whole p.pos p.neg m.mask i) (λ will. inl (negative_parts p.pos p.neg m.mask i will)) step) h)
          c.improve-in-loop-m.ensures.each c.loop-m.invariant.negative;
    }

pub returns-clause-positive : goal.returns-clause-positive
returns-clause-positive c =
    let p = c.args.p in
    let all = c.args.outside.now.all.now in
    let seen = c.args.outside.now.seen.now in
    all_as (λ i spot. IsBest (LetsIn p Positive i) all (take c.loop-m.m-index seen) spot) (λ i spot. bit_at (word_of Positive p) i ≡ 1 → IsChosen (LetsIn p Positive i) all spot) c.loop-m.positive.items
    (λ i spot h one. best_seen (LetsIn p Positive i) all seen c.requires.seen spot c.loop-m.m-index c.loop-m-test.false h)
    c.loop-m.invariant.positive

pub returns-clause-negative : goal.returns-clause-negative
returns-clause-negative c =
    let p = c.args.p in
    let all = c.args.outside.now.all.now in
    let seen = c.args.outside.now.seen.now in
    all_as (λ i spot. IsBest (LetsIn p Negative i) all (take c.loop-m.m-index seen) spot) (λ i spot. bit_at (word_of Negative p) i ≡ 1 → IsChosen (LetsIn p Negative i) all spot) c.loop-m.negative.items
    (λ i spot h one. best_seen (LetsIn p Negative i) all seen c.requires.seen spot c.loop-m.m-index c.loop-m-test.false h)
    c.loop-m.invariant.negative
