use Rattle.bc_parity.proofs.Ways.{forward, backward}
use Rattle.bc_parity.proofs.arc_crossings.crosses_arc.Goals as goal

pub returns-then-ccw : goal.returns-then-ccw
returns-then-ccw c = forward c.args.a.now c.args.b.now c.args.c.now c.args.ccw c.args.p.now c.crosses_between.result c.if-ccw.true c.crosses_between.ensures

pub returns-else-ccw : goal.returns-else-ccw
returns-else-ccw c = backward c.args.a.now c.args.b.now c.args.c.now c.args.ccw c.args.p.now c.crosses_between-else-ccw.result c.if-ccw.false c.crosses_between-else-ccw.ensures
