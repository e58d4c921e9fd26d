use Rattle.std.proofs.Common.{arith}
use Rattle.std.proofs.lemmas.Int.{ints, clamps}
use Rattle.bc_natural.proofs.bounds2.hull_of.Goals as goal

pub invariant_of-result : goal.invariant_of-result
invariant_of-result c = record {
  low_near = record { within = omega (arith, ints, clamps) };
  high_near = record { within = omega (arith, ints, clamps) };
  ordered = omega (arith, ints, clamps);
}
