use Rattle.std.proofs.Common.{◌≡◌, ◌≤◌, ◌^◌, min, drop}
use Rattle.bc_num.specs.Numbers.{value}
use Rattle.bc_num.proofs.whole.capped_value.Given as goal

abbrev pub invariant-loop-b : goal.invariant-loop-b
invariant-loop-b l = record { small : l.size ≤ 2 ^ 62; rest : min (2 ^ 62) (value l.size (drop l.b-index l.digits)) ≡ min (2 ^ 62) (value 0 l.digits) }
