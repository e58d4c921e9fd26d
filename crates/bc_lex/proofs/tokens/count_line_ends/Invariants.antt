use Rattle.std.proofs.Common.{◌≡◌, ◌≤◌, ◌+◌, drop}
use Rattle.bc_lex.specs.Tokens.{line_ends}
use Rattle.bc_lex.proofs.tokens.count_line_ends.Given as goal

abbrev pub invariant-loop-b : goal.invariant-loop-b
invariant-loop-b l = record { few : l.count ≤ l.b-index; rest : l.count + line_ends (drop l.b-index l.bytes) ≡ line_ends l.bytes }
