use Rattle.std.proofs.Common.{ap, sym, ◌∙◌, eqb}
use Rattle.bc_carve.proofs.FlipFacts.{no_pos_flips, no_neg_flips}
use Rattle.bc_carve.proofs.flips.lacks_one.Goals as goal

pub returns-else-lacking-eq0-clause-pos : goal.returns-else-lacking-eq0-clause-pos
returns-else-lacking-eq0-clause-pos c = λ more. no_pos_flips c.args.pos c.args.neg c.args.mask c.lowest_bit.result c.lowest_bit.ensures.here (sym (ap (λ n. eqb n 0) c.take_out.ensures) ∙ more)

pub returns-else-lacking-eq0-clause-neg : goal.returns-else-lacking-eq0-clause-neg
returns-else-lacking-eq0-clause-neg c = λ more. no_neg_flips c.args.pos c.args.neg c.args.mask c.lowest_bit.result c.lowest_bit.ensures.here (sym (ap (λ n. eqb n 0) c.take_out.ensures) ∙ more)
