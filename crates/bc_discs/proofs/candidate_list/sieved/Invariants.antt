use Rattle.bc_discs.specs.Sieves.{keeps}
use Rattle.bc_discs.proofs.Found.{AreOfRegions}
use Rattle.bc_discs.proofs.candidate_list.sieved.Given as goal

abbrev pub invariant-loop-r : goal.invariant-loop-r
invariant-loop-r l = AreOfRegions (keeps l.sieve) l.bounds l.lines l.discs l.regions l.r l.found
