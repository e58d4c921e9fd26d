use Rattle.std.proofs.Common.{◌≡◌, ◌++◌, map}
use Rattle.std.specs.List.{flat_map, range_with_len}
use Rattle.bc_trial.specs.Texts.{row, side}
use Rattle.bc_trial.proofs.off.put_sides.Given as goal

abbrev pub invariant-loop-k : goal.invariant-loop-k
invariant-loop-k l = l.text.items ≡ l.initial.text.items ++ flat_map row (map (side l.m) (range_with_len 0 l.k))
