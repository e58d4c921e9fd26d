use Rattle.std.proofs.Common.{take}
use Rattle.bc_classify.specs.Splits.{IsSplit}
use Rattle.bc_classify.proofs.classify_candidates.classify2.Given as goal

abbrev pub invariant-loop-candidate : goal.invariant-loop-candidate
invariant-loop-candidate l = IsSplit l.s l.c l.regions (take l.candidate-index l.all) (record { inside = l.inside; outside = l.outside })
