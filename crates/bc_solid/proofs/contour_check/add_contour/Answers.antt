use Rattle.bc_solid.proofs.Walks.{end_whole, end_faults}
use Rattle.bc_solid.proofs.contour_check.add_contour.Goals as goal

pub returns : goal.returns
returns c = record {
  added = end_whole c.args.items.now c.args.contour.now c.loop-element.items c.loop-element.element-index c.loop-element.invariant c.loop-element-test.false;
  ok = end_faults c.args.items.now c.args.contour.now c.loop-element.items c.loop-element.element-index c.loop-element.invariant c.loop-element-test.false;
  err = tt;
}
