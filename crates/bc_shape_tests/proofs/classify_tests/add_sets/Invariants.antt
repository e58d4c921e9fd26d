use Rattle.std.proofs.Common.{◌<◌, All}
use Rattle.bc_shape_tests.proofs.classify_tests.add_sets.Given as goal

abbrev pub invariant-loop-set : goal.invariant-loop-set
invariant-loop-set l = All (λ k. k.region < l.count) l.all
