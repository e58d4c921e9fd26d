use Rattle.std.proofs.Common.{take}
use Rattle.bc_discs.specs.Slots.{AreSeen}
use Rattle.bc_discs.proofs.seen.are_seen.Given as goal

abbrev pub invariant-loop-set : goal.invariant-loop-set
invariant-loop-set l = AreSeen l.slots.items (take l.set-index l.sets)
