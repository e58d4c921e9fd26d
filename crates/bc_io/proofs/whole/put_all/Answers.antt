use Rattle.std.proofs.Common.{◌++◌, ◌∙◌, take}
use Rattle.bc_io.proofs.Known.{Appends-trans, taken}
use Rattle.bc_io.proofs.whole.put_all.Goals as goal

pub loop-rest-preserved : goal.loop-rest-preserved
loop-rest-preserved g c =
    let so_far = c.loop-rest.invariant.bytes in
    record {
      bytes = (so_far.0 ++ take c.in_ok-count.count c.loop-rest.rest.now, taken _ _ _ _ c.in_ok-count.ensures.bound so_far.1, Appends-trans _ _ _ _ _ so_far.2 c.in_ok-count.ensures.bytes);
      good = c.in_ok-count.ensures.good ∙ c.loop-rest.invariant.good;
    }
