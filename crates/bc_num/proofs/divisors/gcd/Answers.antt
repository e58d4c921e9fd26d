use Rattle.std.proofs.Common.{◌≡◌, pos, arith, to_z}
use Rattle.std.proofs.lemmas.Int.{ints, to_z-of_z}
use Rattle.std.specs.Int.{IsGcd}
use Rattle.std.specs.Int.RustNames.{unsigned_abs, FitsSigned}
use Rattle.bc_num.proofs.Dividing.{IsGcdOf_of-sizes}
use Rattle.bc_num.proofs.divisors.gcd.Goals as goal
use mir.Syntax.{w128}

pub returns-clause-greatest : goal.returns-clause-greatest
returns-clause-greatest c =
    let n = c.gcd_of_sizes.result in
    let e : to_z w128 n ≡ pos n = omega (arith, ints) in
    let fits_a : FitsSigned w128 c.args.a = c.ranges.a in
    let fits_b : FitsSigned w128 c.args.b = c.ranges.b in
    let h : IsGcd (unsigned_abs c.args.a) (unsigned_abs c.args.b) n =
    simp (c.unsigned_abs.ensures.value, c.unsigned_abs-2.ensures.value, to_z-of_z) at c.gcd_of_sizes.ensures.common in
    rw e (IsGcdOf_of-sizes c.args.a c.args.b n h)
