use Rattle.bc_carved.proofs.Placing.{no_cut}
use Rattle.bc_carved.proofs.places.is_cut.Goals as goal

pub returns-else-negative-gt0 : goal.returns-else-negative-gt0
returns-else-negative-gt0 c = no_cut c.args.negative c.args.holes.now c.is_empty.result c.is_empty.ensures c.if-negative-gt0.false
