use Rattle.std.proofs.Common.{◌≡◌, true, All, take}
use Rattle.bc_discs.specs.declared.choice.Choice.{Choice}
use Rattle.bc_discs.specs.Rules.{IsNestedIn}
use Rattle.bc_discs.proofs.sets.is_round_some.Given as goal

abbrev pub invariant-loop-choice : goal.invariant-loop-choice
invariant-loop-choice l = All (λ (z : Choice). ((z.is_in ≡ true) × IsNestedIn z.disc l.fn.d) → ⊥) (take l.choice-index l.choices)
