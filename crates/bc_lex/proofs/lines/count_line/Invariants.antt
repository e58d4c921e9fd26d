use Rattle.std.proofs.Common.{◌≡◌, ◌+◌, drop}
use Rattle.bc_lex.specs.Lines.{line_length}
use Rattle.bc_lex.proofs.lines.count_line.Given as goal

abbrev pub invariant-loop-b : goal.invariant-loop-b
invariant-loop-b l = record { at_is : l.count ≡ l.b-index; rest : l.count + line_length (drop l.b-index l.bytes) ≡ line_length l.bytes }
