use Rattle.std.proofs.Common.{rules}
use Rattle.bc_solid.specs.Closed.{joined}
use Rattle.bc_solid.specs.ContourFaults.{IsFault}
use Rattle.bc_solid.proofs.Walks.{all_whole, all_faults, near_next, fault_next, step, of_item}
use Rattle.bc_solid.proofs.contour_check.add_contours.Goals as goal

pub returns : goal.returns
returns c = record {
  added = all_whole c.args.contours.now c.loop-contour.items c.loop-contour.contour-index c.loop-contour.invariant c.loop-contour-test.false;
  ok = all_faults c.args.contours.now c.loop-contour.items c.loop-contour.contour-index c.loop-contour.invariant c.loop-contour-test.false;
  err = tt;
}

pub add_contour-requires-clause-near : goal.add_contour-requires-clause-near
add_contour-requires-clause-near c =
    near_next c.args.contours.now c.loop-contour.items c.loop-contour.contour-index c.as_slice.result.now c.loop-contour.invariant c.loop-contour-test.true
    (of_item c.as_slice.result.now c.contour-item.result c.args.contours.now c.loop-contour.contour-index c.as_slice.ensures c.contour-item.is) c.requires.near

pub returns-in_err-add_contour-clause-err : goal.returns-in_err-add_contour-clause-err
returns-in_err-add_contour-clause-err c =
    let f : IsFault 0 (joined c.args.contours.now) c.in_err-add_contour.field-0.0 =
    fault_next c.args.contours.now c.loop-contour.items c.loop-contour.contour-index c.as_slice.result.now c.loop-contour.invariant c.loop-contour-test.true
    (of_item c.as_slice.result.now c.contour-item.result c.args.contours.now c.loop-contour.contour-index c.as_slice.ensures c.contour-item.is)
    c.in_err-add_contour.field-0.0 c.in_err-add_contour.ensures.err in
    search rules

pub loop-contour-preserved : goal.loop-contour-preserved
loop-contour-preserved c =
    step c.args.contours.now c.loop-contour.items c.loop-contour.contour-index c.as_slice.result.now c.loop-contour.invariant c.loop-contour-test.true
    (of_item c.as_slice.result.now c.contour-item.result c.args.contours.now c.loop-contour.contour-index c.as_slice.ensures c.contour-item.is)
    c.add_contour.new.items c.in_ok-add_contour.ensures.added c.in_ok-add_contour.ensures.ok
