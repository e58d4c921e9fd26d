use Rattle.std.proofs.Common.{◌≡◌, ◌+◌, drop}
use Rattle.bc_num.specs.Numbers.{digits}
use Rattle.bc_num.proofs.whole.count_digits.Given as goal

abbrev pub invariant-loop-b : goal.invariant-loop-b
invariant-loop-b l = record { at_is : l.count ≡ l.b-index; rest : l.count + digits (drop l.b-index l.bytes) ≡ digits l.bytes }
