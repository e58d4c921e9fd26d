use Rattle.std.proofs.Common.{◌≡◌, false, refl}
use Rattle.bc_discs.specs.declared.choice.Choice.{Choice}
use Rattle.bc_discs.specs.Thinning.{IsExceeded}
use Rattle.bc_cells.proofs.Gather.{all_step}
use Rattle.bc_discs.proofs.Loops.{never, some_found, none_found}
use Rattle.bc_discs.proofs.sets.is_exceeded_by_some.Goals as goal

pub loop-choice-preserved : goal.loop-choice-preserved
loop-choice-preserved c = all_step (λ (z : Choice). ((z.is_in ≡ false) × IsExceeded c.args.corners.now c.args.d.now z.disc) → ⊥) c.args.choices.now c.loop-choice.choice-index c.choice-item.result c.loop-choice-test.true c.choice-item.is c.loop-choice.invariant (λ h. never (c.if-is_exceeded_by.ensures.1 h))

pub returns-then-is_exceeded_by : goal.returns-then-is_exceeded_by
returns-then-is_exceeded_by c = some_found (λ (z : Choice). ((z.is_in ≡ false) × IsExceeded c.args.corners.now c.args.d.now z.disc)) c.args.choices.now c.loop-choice.choice-index c.choice-item.result c.loop-choice-test.true c.choice-item.is (c.if-is_exceeded_by.ensures.0 refl)

pub returns : goal.returns
returns c = none_found (λ (z : Choice). ((z.is_in ≡ false) × IsExceeded c.args.corners.now c.args.d.now z.disc)) c.args.choices.now c.loop-choice.choice-index c.loop-choice-test.false c.loop-choice.invariant
