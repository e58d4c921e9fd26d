use Rattle.bc_carved.proofs.Placing.{numbered_pushed}
use Rattle.bc_carved.proofs.places.add_half_spaces.Goals as goal

pub loop-k-preserved : goal.loop-k-preserved
loop-k-preserved c =
    numbered_pushed c.args.own c.args.n c.loop-k.k c.args.places.now.items c.loop-k.places.items c.push.new.self.items c.place_if.result c.loop-k.invariant c.place_if.ensures c.in_ok-push.ensures.items
