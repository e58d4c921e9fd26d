use Rattle.std.proofs.Common.{◌≡◌, ◌+◌, length, drop}
use Rattle.bc_num.specs.Tokens.{is_word, front}
use Rattle.bc_lex.proofs.tokens.count_word.Given as goal

abbrev pub invariant-loop-b : goal.invariant-loop-b
invariant-loop-b l = record { at_is : l.count ≡ l.b-index; rest : l.count + length (front is_word (drop l.b-index l.bytes)) ≡ length (front is_word l.bytes) }
