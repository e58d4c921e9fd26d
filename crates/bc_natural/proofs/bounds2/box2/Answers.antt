use Rattle.std.proofs.Common.{arith}
use Rattle.bc_natural.proofs.Spans2.{box_of_spans}
use Rattle.bc_natural.proofs.bounds2.box2.Goals as goal

pub returns-clause-box_of : goal.returns-clause-box_of
returns-clause-box_of c =
    let b = c.box_round.ensures in
    box_of_spans c.args.s.now c.whole_extent.result.x c.whole_extent.result.y c.box_round.result (omega arith)
    c.whole_extent.ensures.x c.whole_extent.ensures.y b.x0 b.y0 b.x1 b.y1
