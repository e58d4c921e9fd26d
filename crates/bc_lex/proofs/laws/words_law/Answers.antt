use Rattle.bc_lex.proofs.Nexts.{next_word_is_first, all_words_are_left}
use Rattle.bc_lex.proofs.laws.words_law.Goals as goal

pub returns : goal.returns
returns c = record { next = next_word_is_first; all = all_words_are_left }
