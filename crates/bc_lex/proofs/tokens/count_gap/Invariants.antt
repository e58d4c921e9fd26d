use Rattle.std.proofs.Common.{◌≡◌, drop}
use Rattle.bc_lex.specs.Tokens.{free_length}
use Rattle.bc_lex.proofs.TokenGaps.{free_with, came}
use Rattle.bc_lex.proofs.tokens.count_gap.Given as goal

abbrev pub invariant-loop-b : goal.invariant-loop-b
invariant-loop-b l = record { at_is : came l.count l.inside ≡ l.b-index; rest : free_with l.count l.inside (drop l.b-index l.bytes) ≡ free_length l.bytes }
