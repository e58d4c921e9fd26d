use Rattle.std.proofs.Common.{◌≡◌, drop}
use Rattle.bc_num.specs.Words.{is_ignored}
use Rattle.bc_lex.proofs.gwords.ignored.Given as goal

abbrev pub invariant-loop-b : goal.invariant-loop-b
invariant-loop-b l = is_ignored (drop l.b-index l.bytes) ≡ is_ignored l.bytes
