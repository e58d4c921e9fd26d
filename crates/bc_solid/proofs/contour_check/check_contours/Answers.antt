use Rattle.std.proofs.Common.{rules, ◌≢◌}
use Rattle.bc_solid.specs.declared.contour_fault.ContourFault.TheVariants.{Memory}
use Rattle.bc_solid.specs.Closed.{AreClosed}
use Rattle.bc_solid.proofs.ContourChecks.{whole, closed, profile, not_closed}
use Rattle.bc_solid.proofs.contour_check.check_contours.Goals as goal

pub returns-in_err-add_contours-clause-open : goal.returns-in_err-add_contours-clause-open
returns-in_err-add_contours-clause-open c =
    let f : c.in_err-add_contours.field-0.0 ≢ Memory → AreClosed c.args.raw.contours → ⊥ =
    not_closed c.args.raw.contours c.as_slice.result.now c.as_slice.ensures c.in_err-add_contours.field-0.0 c.in_err-add_contours.ensures.err in
    search rules

pub invariant_of-result : goal.invariant_of-result
invariant_of-result c =
    profile c.args.raw.contours c.as_slice.result.now c.as_slice.ensures c.add_contours.new.items c.in_ok-add_contours.ensures.added
    c.args.raw.are_closed c.args.raw.are_drawn c.args.raw.are_few c.in_ok-add_contours.ensures.ok

pub returns : goal.returns
returns c = record {
  elements = whole c.args.raw.contours c.as_slice.result.now c.as_slice.ensures c.add_contours.new.items c.in_ok-add_contours.ensures.added;
  closed = closed c.args.raw.contours c.as_slice.result.now c.as_slice.ensures c.args.raw.are_closed c.args.raw.are_drawn c.in_ok-add_contours.ensures.ok;
  fault = tt;
  «open» = tt;
}
