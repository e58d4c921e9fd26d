use Rattle.std.proofs.Common.{◌≡◌, ◌++◌}
use Rattle.std.specs.List.{flat_map, range_with_len}
use Rattle.bc_trial.specs.Texts.{rectangle, hole, ended}
use Rattle.bc_trial.proofs.contour.trial_contour.Given as goal

abbrev pub invariant-loop-i : goal.invariant-loop-i
invariant-loop-i l = l.text.items ≡ flat_map ended (rectangle l.n) ++ flat_map ended (flat_map hole (range_with_len 0 l.i))
