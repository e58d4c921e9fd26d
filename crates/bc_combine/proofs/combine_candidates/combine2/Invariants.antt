use Rattle.std.proofs.Common.{take}
use Rattle.bc_classify.specs.Splits.{marked}
use Rattle.bc_combine.specs.Combined.{is_chosen}
use Rattle.bc_combine.proofs.Lists.{AreTwo}
use Rattle.bc_combine.proofs.combine_candidates.combine2.Given as goal

abbrev pub invariant-loop-candidate : goal.invariant-loop-candidate
invariant-loop-candidate l = AreTwo marked (is_chosen l.op l.a l.b l.c l.regions) (take l.candidate-index l.all) l.inside l.outside
