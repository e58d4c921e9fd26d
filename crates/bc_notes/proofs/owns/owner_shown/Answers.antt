use Rattle.std.proofs.Common.{sym, ◌∙◌}
use Rattle.bc_notes.proofs.Choosing.{no_spot}
use Rattle.bc_notes.proofs.Holders.{owner_as_shown}
use Rattle.bc_notes.proofs.owns.owner_shown.Goals as goal

pub returns-then-is_some : goal.returns-then-is_some
returns-then-is_some c = owner_as_shown c.args.products.now c.args.m.now c.owner_of.result c.owner_of.ensures

pub returns-else-is_some : goal.returns-else-is_some
returns-else-is_some c = λ i within alone. no_spot c.args.m.now.spot (sym c.is_some.ensures ∙ c.if-is_some.false)
