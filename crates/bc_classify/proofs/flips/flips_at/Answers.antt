use Rattle.bc_parity.specs.Sums.{odd}
use Rattle.bc_parity.proofs.Loops.{one_more}
use Rattle.bc_classify.specs.OddMasks.{flips}
use Rattle.bc_classify.specs.RegionParities.{is_odd_overlap}
use Rattle.bc_classify.proofs.Overlaps.{overlap_xor}
use Rattle.bc_classify.proofs.flips.flips_at.Goals as goal

pub loop-i-preserved : goal.loop-i-preserved
loop-i-preserved c mask =
    one_more (flips c.args.table.now c.args.q.now mask) (is_odd_overlap mask c.loop-i.flips) _ (is_odd_overlap mask c.flip_of-flips.result) (odd (flips c.args.table.now c.args.q.now mask) c.args.s.now) c.args.s.now c.loop-i.i c.element.result
    c.element.ensures.element (c.flip_of-flips.ensures mask) (overlap_xor mask c.loop-i.flips c.flip_of-flips.result) (c.loop-i.invariant mask)
