use Rattle.bc_lex.proofs.TokenOrders.{tokens_stand_in_order, tokens_end, tokens_break, breaks_again}
use Rattle.bc_lex.proofs.laws.token_order_law.Goals as goal

pub returns-clause-order : goal.returns-clause-order
returns-clause-order c = tokens_stand_in_order

pub returns-clause-end : goal.returns-clause-end
returns-clause-end c = tokens_end

pub returns-clause-bad : goal.returns-clause-bad
returns-clause-bad c = tokens_break

pub returns-clause-again : goal.returns-clause-again
returns-clause-again c = breaks_again
