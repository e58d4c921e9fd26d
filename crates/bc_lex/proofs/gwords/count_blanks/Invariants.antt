use Rattle.std.proofs.Common.{◌≡◌, ◌+◌, drop}
use Rattle.bc_num.specs.Words.{blanks}
use Rattle.bc_lex.proofs.gwords.count_blanks.Given as goal

abbrev pub invariant-loop-b : goal.invariant-loop-b
invariant-loop-b l = record { at_is : l.count ≡ l.b-index; rest : l.count + blanks (drop l.b-index l.bytes) ≡ blanks l.bytes }
