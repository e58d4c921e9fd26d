use Rattle.std.proofs.Common.{arith}
use Rattle.bc_solid.specs.Boxes.{IsXOf, IsYOf}
use Rattle.bc_natural.proofs.Spans2.{span_first, span_more, span_all}
use Rattle.bc_natural.proofs.bounds2.whole_extent.Goals as goal

pub loop-i-init : goal.loop-i-init
loop-i-init c = record {
  x = span_first IsXOf c.args.s.now c.element.result c.extent_of-all.result.x c.element.ensures.element c.extent_of-all.ensures.x;
  y = span_first IsYOf c.args.s.now c.element.result c.extent_of-all.result.y c.element.ensures.element c.extent_of-all.ensures.y;
}

pub loop-i-preserved : goal.loop-i-preserved
loop-i-preserved c = record {
  x = span_more IsXOf c.args.s.now c.loop-i.i c.element-in-loop-i.result c.loop-i.all.x c.extent_of-next.result.x c.hull_of.result
      c.element-in-loop-i.ensures.element c.loop-i.invariant.x c.extent_of-next.ensures.x c.hull_of.ensures;
  y = span_more IsYOf c.args.s.now c.loop-i.i c.element-in-loop-i.result c.loop-i.all.y c.extent_of-next.result.y c.hull_of-in-loop-i.result
      c.element-in-loop-i.ensures.element c.loop-i.invariant.y c.extent_of-next.ensures.y c.hull_of-in-loop-i.ensures;
}

pub returns-clause-x : goal.returns-clause-x
returns-clause-x c = span_all IsXOf c.args.s.now c.loop-i.i c.loop-i.all.x (omega arith) c.loop-i.invariant.x

pub returns-clause-y : goal.returns-clause-y
returns-clause-y c = span_all IsYOf c.args.s.now c.loop-i.i c.loop-i.all.y (omega arith) c.loop-i.invariant.y
