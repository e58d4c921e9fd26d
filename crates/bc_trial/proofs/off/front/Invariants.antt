use Rattle.std.proofs.Common.{◌≡◌, ◌∷◌, ◌-◌}
use Rattle.std.specs.List.{range_with_len}
use Rattle.bc_trial.proofs.off.front.Given as goal

abbrev pub invariant-loop-i : goal.invariant-loop-i
invariant-loop-i l = l.numbers.items ≡ l.m ∷ range_with_len l.first (l.i - l.first)
