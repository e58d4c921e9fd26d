use Rattle.std.proofs.Common.{arith}
use Rattle.bc_natural.specs.Spans.{IsAt}
use Rattle.bc_natural.proofs.Spans3.{spans_first, spans_more, spans_all}
use Rattle.bc_natural.proofs.bounds3.face_extent.Goals as goal

pub loop-i-init : goal.loop-i-init
loop-i-init c = λ facet e. spans_first IsAt facet.corners c.first_corner.result c.place_extent-all.result (c.first_corner.ensures.corner facet e) c.place_extent-all.ensures

pub corner-requires-clause-place : goal.corner-requires-clause-place
corner-requires-clause-place c = λ facet e. let count = c.corners-i-end.ensures facet e in omega arith

pub loop-i-preserved : goal.loop-i-preserved
loop-i-preserved c = λ facet e.
    spans_more IsAt facet.corners c.loop-i.i c.corner.result c.loop-i.all c.place_extent.result c.extent_hull-all.result
    (c.corner.ensures.at facet e) (c.loop-i.invariant facet e) c.place_extent.ensures c.extent_hull-all.ensures

pub returns : goal.returns
returns c = λ facet e. let count = c.corners-i-end.ensures facet e in spans_all IsAt facet.corners c.loop-i.i c.loop-i.all (omega arith) (c.loop-i.invariant facet e)
