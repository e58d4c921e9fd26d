use Rattle.std.proofs.Common.{sym, subst}
use Rattle.bc_num.specs.Measures.{square_between}
use Rattle.bc_solid.specs.declared.element.Element.{Element}
use Rattle.bc_solid.specs.Boxes.{IsXOf, IsYOf}
use Rattle.bc_natural.specs.Spans.{IsSpan}
use Rattle.bc_natural.proofs.Spans2.{span_ends, span_arc}
use Rattle.bc_natural.proofs.bounds2.extent_of.Goals as goal

pub returns-in-Edge-clause-x : goal.returns-in-Edge-clause-x
returns-in-Edge-clause-x c =
    subst (λ (e : Element). IsSpan (IsXOf e) c.span_of.result) (sym c.in-Edge.is)
    (span_ends c.in-Edge.a.x c.in-Edge.b.x c.span_of.result c.span_of.ensures.low c.span_of.ensures.high)

pub returns-in-Edge-clause-y : goal.returns-in-Edge-clause-y
returns-in-Edge-clause-y c =
    subst (λ (e : Element). IsSpan (IsYOf e) c.span_of-in-Edge.result) (sym c.in-Edge.is)
    (span_ends c.in-Edge.a.y c.in-Edge.b.y c.span_of-in-Edge.result c.span_of-in-Edge.ensures.low c.span_of-in-Edge.ensures.high)

pub returns-in-Arc-clause-x : goal.returns-in-Arc-clause-x
returns-in-Arc-clause-x c =
    let arc = c.in-Arc in
    subst (λ (e : Element). IsSpan (IsXOf e) c.hull_of.result) (sym c.in-Arc.is)
    (span_arc (square_between arc.c arc.a) arc.a.x arc.b.x arc.c.x c.reach_of-reach.result c.span_of-in-Arc.result c.rim_of.result c.hull_of.result
    c.span_of-in-Arc.ensures.low c.span_of-in-Arc.ensures.high c.reach_of-reach.ensures.reach c.rim_of.ensures.low c.rim_of.ensures.high c.hull_of.ensures)

pub returns-in-Arc-clause-y : goal.returns-in-Arc-clause-y
returns-in-Arc-clause-y c =
    let arc = c.in-Arc in
    subst (λ (e : Element). IsSpan (IsYOf e) c.hull_of-in-Arc.result) (sym c.in-Arc.is)
    (span_arc (square_between arc.c arc.a) arc.a.y arc.b.y arc.c.y c.reach_of-reach.result c.span_of-in-Arc-2.result c.rim_of-in-Arc.result c.hull_of-in-Arc.result
    c.span_of-in-Arc-2.ensures.low c.span_of-in-Arc-2.ensures.high c.reach_of-reach.ensures.reach c.rim_of-in-Arc.ensures.low c.rim_of-in-Arc.ensures.high c.hull_of-in-Arc.ensures)
