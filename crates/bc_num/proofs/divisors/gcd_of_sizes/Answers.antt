use Rattle.std.proofs.Common.{arith}
use Rattle.std.proofs.lemmas.Nat.Gcd.{IsGcd-from_zero, IsGcd-from_mod}
use Rattle.bc_num.proofs.divisors.gcd_of_sizes.Goals as goal

pub loop-y-preserved : goal.loop-y-preserved
loop-y-preserved c = record {
  divisors = λ g h. c.loop-y.invariant.divisors g (IsGcd-from_mod _ _ g h);
  bounded = omega arith;
}

pub returns-clause-common : goal.returns-clause-common
returns-clause-common c = c.loop-y.invariant.divisors _ (IsGcd-from_zero _ _ (omega arith))
