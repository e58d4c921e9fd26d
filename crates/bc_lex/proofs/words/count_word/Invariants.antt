use Rattle.std.proofs.Common.{◌≡◌, ◌+◌, drop}
use Rattle.bc_lex.specs.Words.{word_length}
use Rattle.bc_lex.proofs.words.count_word.Given as goal

abbrev pub invariant-loop-b : goal.invariant-loop-b
invariant-loop-b l = record { at_is : l.count ≡ l.b-index; rest : l.count + word_length (drop l.b-index l.bytes) ≡ word_length l.bytes }
