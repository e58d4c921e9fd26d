use Rattle.std.proofs.Common.{◌≡◌, ◌++◌}
use Rattle.bc_carved.specs.Steps.{numbered}
use Rattle.bc_carved.proofs.places.add_half_spaces.Given as goal

abbrev pub invariant-loop-k : goal.invariant-loop-k
invariant-loop-k l = l.places.items ≡ l.initial.places.items ++ numbered l.own l.n l.k
