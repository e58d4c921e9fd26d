use Rattle.bc_lex.proofs.Orders.{lines_stand_in_order}
use Rattle.bc_lex.proofs.laws.line_order_law.Goals as goal

pub returns-clause-order : goal.returns-clause-order
returns-clause-order c = lines_stand_in_order
