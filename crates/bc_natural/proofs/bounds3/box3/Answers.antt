use Rattle.std.proofs.Common.{arith}
use Rattle.bc_natural.proofs.Spans3.{box3_of_spans, box3_near}
use Rattle.bc_natural.proofs.bounds3.box3.Goals as goal

pub returns-clause-box_of : goal.returns-clause-box_of
returns-clause-box_of c =
    let b = c.box_round3.ensures in
    box3_of_spans c.args.s.now c.solid_extent.result c.box_round3.result (omega arith) c.solid_extent.ensures b.x0 b.y0 b.z0 b.x1 b.y1 b.z1

pub returns-clause-near : goal.returns-clause-near
returns-clause-near c = box3_near c.args.s.now c.box_round3.result c.law.ensures.facets (returns-clause-box_of c)
