use Rattle.bc_lex.proofs.Orders.{words_stand_in_order, words_end, words_break}
use Rattle.bc_lex.proofs.laws.word_order_law.Goals as goal

pub returns-clause-order : goal.returns-clause-order
returns-clause-order c = words_stand_in_order

pub returns-clause-end : goal.returns-clause-end
returns-clause-end c = words_end

pub returns-clause-bad : goal.returns-clause-bad
returns-clause-bad c = words_break
