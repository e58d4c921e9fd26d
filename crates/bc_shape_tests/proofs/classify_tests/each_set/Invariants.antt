use Rattle.std.proofs.Common.{◌<◌, All, length}
use Rattle.bc_shape_tests.proofs.classify_tests.each_set.Given as goal

abbrev pub invariant-loop-r : goal.invariant-loop-r
invariant-loop-r l = All (λ k. k.region < length l.regions) l.all
