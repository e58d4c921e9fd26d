use Rattle.std.proofs.Common.{sym, ◌∙◌, arith}
use Rattle.bc_prism.proofs.Meeting.{got, overlap_here, overlap_later}
use Rattle.bc_prism.proofs.overlaps.find_overlap.Goals as goal

pub returns-in-Some : goal.returns-in-Some
returns-in-Some c =
    let one = got c.args.sections.now c.loop-second.second c.get.result.now c.get.ensures in
    sym (overlap_here c.args.sections.now c.loop-second.second c.get.result.now (omega (arith, c.loop-second-test.true, c.len-second-end.ensures)) one c.in-Some.first (rw (sym c.as_slice.ensures) (sym c.in-Some.ensures))) ∙ c.loop-second.invariant

pub loop-second-preserved : goal.loop-second-preserved
loop-second-preserved c =
    let one = got c.args.sections.now c.loop-second.second c.get.result.now c.get.ensures in
    overlap_later c.args.sections.now c.loop-second.second c.get.result.now (omega (arith, c.loop-second-test.true, c.len-second-end.ensures)) one (rw (sym c.as_slice.ensures) (sym c.in_default.ensures)) ∙ c.loop-second.invariant
