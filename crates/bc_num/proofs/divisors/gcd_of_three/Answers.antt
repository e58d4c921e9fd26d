use Rattle.std.proofs.Common.{rules}
use Rattle.std.proofs.lemmas.Int.{to_z-of_z}
use Rattle.std.specs.Int.RustNames.{FitsSigned}
use Rattle.bc_num.proofs.Dividing.{IsGcdOf3_of-two}
use Rattle.bc_num.proofs.divisors.gcd_of_three.Goals as goal
use mir.Syntax.{w128}

pub returns : goal.returns
returns c =
    let fits_a : FitsSigned w128 c.args.a = c.ranges.a in
    let fits_b : FitsSigned w128 c.args.b = c.ranges.b in
    let fits_c : FitsSigned w128 c.args.c = c.ranges.c in
    let fits_h : FitsSigned w128 c.gcd.result = search rules in
    let fits_g : FitsSigned w128 c.gcd-2.result = search rules in
    let p = simp to_z-of_z at c.gcd.ensures.greatest in
    let q = simp to_z-of_z at c.gcd-2.ensures.greatest in
    simp to_z-of_z (IsGcdOf3_of-two c.args.a c.args.b c.args.c c.gcd.result c.gcd-2.result p q)
