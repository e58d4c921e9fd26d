use Rattle.std.proofs.Common.{arith}
use Rattle.bc_solid.specs.Facets.{Facet}
use Rattle.bc_natural.specs.Spans.{IsAlong}
use Rattle.bc_natural.proofs.Lists.{place_has}
use Rattle.bc_natural.proofs.Spans3.{spans_first, spans_more, spans_all}
use Rattle.bc_natural.proofs.bounds3.solid_extent.Goals as goal

pub loop-f-init : goal.loop-f-init
loop-f-init c =
    let facet = place_has c.args.s.now 0 c.requires in
    spans_first (λ (f : Facet). IsAlong f.corners) c.args.s.now facet.0 c.face_extent-all.result facet.1 (c.face_extent-all.ensures facet.0 facet.1)

pub loop-f-preserved : goal.loop-f-preserved
loop-f-preserved c =
    let facet = place_has c.args.s.now c.loop-f.f (omega arith) in
    spans_more (λ (f : Facet). IsAlong f.corners) c.args.s.now c.loop-f.f facet.0 c.loop-f.all c.face_extent.result c.extent_hull-all.result
    facet.1 c.loop-f.invariant (c.face_extent.ensures facet.0 facet.1) c.extent_hull-all.ensures

pub returns : goal.returns
returns c = spans_all (λ (f : Facet). IsAlong f.corners) c.args.s.now c.loop-f.f c.loop-f.all (omega arith) c.loop-f.invariant
