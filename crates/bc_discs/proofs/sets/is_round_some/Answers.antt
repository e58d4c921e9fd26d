use Rattle.std.proofs.Common.{◌≡◌, true, refl}
use Rattle.bc_discs.specs.declared.choice.Choice.{Choice}
use Rattle.bc_discs.specs.Rules.{IsNestedIn}
use Rattle.bc_cells.proofs.Gather.{all_step}
use Rattle.bc_discs.proofs.Loops.{never, some_found, none_found}
use Rattle.bc_discs.proofs.sets.is_round_some.Goals as goal

pub loop-choice-preserved : goal.loop-choice-preserved
loop-choice-preserved c = all_step (λ (z : Choice). ((z.is_in ≡ true) × IsNestedIn z.disc c.args.d.now) → ⊥) c.args.choices.now c.loop-choice.choice-index c.choice-item.result c.loop-choice-test.true c.choice-item.is c.loop-choice.invariant (λ h. never (c.if-is_round.ensures.1 h))

pub returns-then-is_round : goal.returns-then-is_round
returns-then-is_round c = some_found (λ (z : Choice). ((z.is_in ≡ true) × IsNestedIn z.disc c.args.d.now)) c.args.choices.now c.loop-choice.choice-index c.choice-item.result c.loop-choice-test.true c.choice-item.is (c.if-is_round.ensures.0 refl)

pub returns : goal.returns
returns c = none_found (λ (z : Choice). ((z.is_in ≡ true) × IsNestedIn z.disc c.args.d.now)) c.args.choices.now c.loop-choice.choice-index c.loop-choice-test.false c.loop-choice.invariant
