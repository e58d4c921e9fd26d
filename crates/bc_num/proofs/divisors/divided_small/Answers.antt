use Rattle.std.proofs.Common.{◌^◌, arith, refl}
use Rattle.std.proofs.lemmas.Int.{ints, to_z-of_z}
use Rattle.std.specs.Int.RustNames.{FitsSigned}
use Rattle.bc_algebra.specs.Within.{IsWithin}
use Rattle.bc_algebra.proofs.Sizes.{smalls, fits}
use Rattle.bc_num.proofs.Dividing.{quotient_within}
use Rattle.bc_num.proofs.divisors.divided_small.Goals as goal
use mir.Syntax.{w64, w128}

-- the quotient is within the bound of the number
near : (c : goal.After-divided) → IsWithin (2 ^ 40) c.divided.result
near c =
    let fits_a : FitsSigned w64 c.args.a = c.ranges.a in
    let fits_a' : FitsSigned w128 c.args.a = omega (arith, ints) in
    let fits_g : FitsSigned w128 c.args.g = c.ranges.g in
    let e = simp to_z-of_z at c.divided.ensures in
    quotient_within (2 ^ 40) c.divided.result c.args.g c.args.a c.requires.positive e c.requires.near

pub overflow_cast-result : goal.overflow_cast-result
overflow_cast-result c = fits (search (smalls, near c) depth 30) refl

pub returns-clause-exact : goal.returns-clause-exact
returns-clause-exact c =
    let fits_a : FitsSigned w64 c.args.a = c.ranges.a in
    let fits_a' : FitsSigned w128 c.args.a = omega (arith, ints) in
    let fits_g : FitsSigned w128 c.args.g = c.ranges.g in
    let e = simp to_z-of_z at c.divided.ensures in
    let q = near c in
    let fits_q : FitsSigned w128 c.divided.result = fits (search (smalls, q) depth 30) refl in
    let fits_q' : FitsSigned w64 c.divided.result = fits (search (smalls, q) depth 30) refl in
    simp to_z-of_z e

pub returns-clause-near : goal.returns-clause-near
returns-clause-near c =
    let q = near c in
    let fits_q : FitsSigned w128 c.divided.result = fits (search (smalls, q) depth 30) refl in
    let fits_q' : FitsSigned w64 c.divided.result = fits (search (smalls, q) depth 30) refl in
    simp to_z-of_z q
