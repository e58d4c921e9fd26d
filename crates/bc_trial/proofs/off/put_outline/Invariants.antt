use Rattle.std.proofs.Common.{◌≡◌, ◌-◌, ◌++◌}
use Rattle.std.specs.List.{flat_map, range_with_len}
use Rattle.bc_trial.specs.Texts.{row, step}
use Rattle.bc_trial.proofs.off.put_outline.Given as goal

abbrev pub invariant-loop-i : goal.invariant-loop-i
invariant-loop-i l = l.text.items ≡ l.initial.text.items ++ flat_map row (flat_map (step l.y) (range_with_len 1 (l.i - 1)))
