use Rattle.std.proofs.Common.{take}
use Rattle.bc_discs.specs.Sieves.{Fires}
use Rattle.bc_discs.proofs.KeptSets.{AreOf}
use Rattle.bc_discs.proofs.sieve.with_one_more.Given as goal

abbrev pub invariant-loop-set : goal.invariant-loop-set
invariant-loop-set l = AreOf (Fires l.sieve l.corners l.walls) l.disc l.rest (take l.set-index l.set-items) l.more
