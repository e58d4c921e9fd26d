use Rattle.std.proofs.Common.{◌≡◌, drop}
use Rattle.bc_num.specs.Numbers.{has_nonzero}
use Rattle.bc_num.proofs.whole.any_nonzero.Given as goal

abbrev pub invariant-loop-b : goal.invariant-loop-b
invariant-loop-b l = has_nonzero (drop l.b-index l.bytes) ≡ has_nonzero l.bytes
