use Rattle.std.proofs.Common.{◌-◌, length, drop}
use Rattle.bc_discs.specs.Sieves.{Fires, AreSets}
use Rattle.bc_discs.proofs.sieve.kept_sets.Given as goal

abbrev pub invariant-loop-i : goal.invariant-loop-i
invariant-loop-i l = AreSets (Fires l.sieve l.corners l.walls) (drop (length l.discs - l.i) l.discs) l.sets
