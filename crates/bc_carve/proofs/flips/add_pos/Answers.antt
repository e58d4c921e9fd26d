use Rattle.std.proofs.Common.{◌≡◌, ap, ◌∙◌, arith}
use Rattle.std.specs.Int.{bit_at}
use Rattle.std.proofs.lemmas.Bool.{both_ways}
use Rattle.bc_cover.specs.Masks.{admits, without_bit}
use Rattle.bc_carve.proofs.FlipFacts.{few_places, next_more, next_same, placed_more, placed_same, pos_placed}
use Rattle.bc_carve.proofs.flips.add_pos.Goals as goal
use Rattle.bc_carve.proofs.flips.add_pos.Goals.{then-has_bit+in_ok-put_if, else-has_bit}

pub overflow_add-at : goal.overflow_add-at
overflow_add-at c = omega (arith, c.loop-i.invariant.next, few_places c.loop-i.i c.args.pos)

pub loop-i-preserved : goal.loop-i-preserved
loop-i-preserved c =
    elim c.if-has_bit.branch [
      | then-has_bit+in_ok-put_if w ↦
          (let one : bit_at c.args.pos c.loop-i.i ≡ 1 = c.has_bit.ensures.0 w.if-has_bit.true in
          record {
            next = w.at-is ∙ next_more (λ i. admits (without_bit c.args.pos i) c.args.neg c.args.mask) c.args.start c.loop-i.at c.loop-i.i c.args.pos c.loop-i.invariant.next one;
            so_far = ap (λ v. v.items) w.places-is ∙ placed_more (λ i. admits (without_bit c.args.pos i) c.args.neg c.args.mask) c.args.start c.loop-i.at c.loop-i.i c.args.pos c.loop-i.invariant.next w.is_admitted.result c.args.places.now.items c.loop-i.places.items w.put_if.new.places.items one (w.is_admitted.ensures ∙ ap (λ p. admits p c.args.neg c.args.mask) w.take_out.ensures) c.loop-i.invariant.so_far w.in_ok-put_if.ensures;
          })
      | else-has_bit w ↦
          (let not_one : ¬ (bit_at c.args.pos c.loop-i.i ≡ 1) = λ one. both_ways _ w.if-has_bit.false (c.has_bit.ensures.1 one) in
          record {
            next = w.at-is ∙ next_same (λ i. admits (without_bit c.args.pos i) c.args.neg c.args.mask) c.args.start c.loop-i.at c.loop-i.i c.args.pos c.loop-i.invariant.next not_one;
            so_far = ap (λ v. v.items) w.places-is ∙ placed_same (λ i. admits (without_bit c.args.pos i) c.args.neg c.args.mask) c.args.start c.loop-i.at c.loop-i.i c.args.pos c.loop-i.invariant.next c.args.places.now.items c.loop-i.places.items not_one c.loop-i.invariant.so_far;
          })
    ]

pub returns : goal.returns
returns c = pos_placed c.args.pos c.args.neg c.args.mask c.args.start c.loop-i.i c.args.places.now.items c.loop-i.places.items (omega arith) c.loop-i.invariant.so_far
