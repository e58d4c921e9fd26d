use Rattle.std.proofs.Common.{◌≡◌, false, All, take}
use Rattle.bc_discs.specs.declared.choice.Choice.{Choice}
use Rattle.bc_discs.specs.Thinning.{IsExceeded}
use Rattle.bc_discs.proofs.sets.is_exceeded_by_some.Given as goal

abbrev pub invariant-loop-choice : goal.invariant-loop-choice
invariant-loop-choice l = All (λ (z : Choice). ((z.is_in ≡ false) × IsExceeded l.corners l.d z.disc) → ⊥) (take l.choice-index l.choices)
