use Rattle.bc_lex.proofs.PlainOrders.{plain_stand_in_order, plain_end}
use Rattle.bc_lex.proofs.laws.plain_order_law.Goals as goal

pub returns : goal.returns
returns c = record { order = plain_stand_in_order; end = plain_end }
