use Rattle.bc_lex.proofs.PlainSteps.{next_plain_is_first, all_plain_are_left}
use Rattle.bc_lex.proofs.laws.plain_words_law.Goals as goal

pub returns : goal.returns
returns c = record { next = next_plain_is_first; all = all_plain_are_left }
