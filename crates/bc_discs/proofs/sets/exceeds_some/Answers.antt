use Rattle.std.proofs.Common.{◌≡◌, true, refl}
use Rattle.bc_discs.specs.declared.choice.Choice.{Choice}
use Rattle.bc_discs.specs.Thinning.{IsExceeded}
use Rattle.bc_cells.proofs.Gather.{all_step}
use Rattle.bc_discs.proofs.Loops.{never, some_found, none_found}
use Rattle.bc_discs.proofs.sets.exceeds_some.Goals as goal

pub loop-choice-preserved : goal.loop-choice-preserved
loop-choice-preserved c = all_step (λ (z : Choice). ((z.is_in ≡ true) × IsExceeded c.args.corners.now z.disc c.args.d.now) → ⊥) c.args.choices.now c.loop-choice.choice-index c.choice-item.result c.loop-choice-test.true c.choice-item.is c.loop-choice.invariant (λ h. never (c.if-exceeds.ensures.1 h))

pub returns-then-exceeds : goal.returns-then-exceeds
returns-then-exceeds c = some_found (λ (z : Choice). ((z.is_in ≡ true) × IsExceeded c.args.corners.now z.disc c.args.d.now)) c.args.choices.now c.loop-choice.choice-index c.choice-item.result c.loop-choice-test.true c.choice-item.is (c.if-exceeds.ensures.0 refl)

pub returns : goal.returns
returns c = none_found (λ (z : Choice). ((z.is_in ≡ true) × IsExceeded c.args.corners.now z.disc c.args.d.now)) c.args.choices.now c.loop-choice.choice-index c.loop-choice-test.false c.loop-choice.invariant
