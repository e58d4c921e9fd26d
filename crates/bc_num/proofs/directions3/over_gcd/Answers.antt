use Rattle.std.proofs.Common.{pos, ◌<ℤ◌, ◌∙◌, sym, rules, arith}
use Rattle.std.proofs.lemmas.Int.{ints, to_z-of_z}
use Rattle.std.specs.Int.RustNames.{FitsSigned}
use Rattle.bc_num.specs.Divides.{IsGcdOf3}
use Rattle.bc_num.proofs.Turning3.{divisor_pos, left_over}
use Rattle.bc_num.proofs.directions3.over_gcd.Goals as goal
use Rattle.bc_num.proofs.directions3.over_gcd.Goals.{After-gcd_of_three-g}
use lib.IntN.{*ℤ_comm}
use mir.Syntax.{w64, w128}

-- the divisor without the casts of the call
greatest : (c : After-gcd_of_three-g) → IsGcdOf3 c.args.v.x c.args.v.y c.args.v.z c.gcd_of_three-g.result
greatest c =
    let fits_x : FitsSigned w64 c.args.v.x = search rules in
    let fits_y : FitsSigned w64 c.args.v.y = search rules in
    let fits_z : FitsSigned w64 c.args.v.z = search rules in
    let fits_x' : FitsSigned w128 c.args.v.x = omega (arith, ints) in
    let fits_y' : FitsSigned w128 c.args.v.y = omega (arith, ints) in
    let fits_z' : FitsSigned w128 c.args.v.z = omega (arith, ints) in
    simp to_z-of_z at c.gcd_of_three-g.ensures

-- it is above 0
positive : (c : After-gcd_of_three-g) → pos 0 <ℤ c.gcd_of_three-g.result
positive c = divisor_pos c.args.v c.gcd_of_three-g.result (greatest c) c.requires.some

pub divided_small-x-requires-clause-positive : goal.divided_small-x-requires-clause-positive
divided_small-x-requires-clause-positive c =
    let fits_g : FitsSigned w128 c.gcd_of_three-g.result = search rules in
    simp to_z-of_z (positive (goal.at.divided_small-x-requires-clause-positive c).After-gcd_of_three-g)

pub divided_small-x-requires-clause-multiple : goal.divided_small-x-requires-clause-multiple
divided_small-x-requires-clause-multiple c =
    let fits_x : FitsSigned w64 c.args.v.x = search rules in
    let fits_g : FitsSigned w128 c.gcd_of_three-g.result = search rules in
    simp to_z-of_z (greatest (goal.at.divided_small-x-requires-clause-multiple c).After-gcd_of_three-g).first

pub divided_small-y-requires-clause-positive : goal.divided_small-y-requires-clause-positive
divided_small-y-requires-clause-positive c =
    let fits_g : FitsSigned w128 c.gcd_of_three-g.result = search rules in
    simp to_z-of_z (positive (goal.at.divided_small-y-requires-clause-positive c).After-gcd_of_three-g)

pub divided_small-y-requires-clause-multiple : goal.divided_small-y-requires-clause-multiple
divided_small-y-requires-clause-multiple c =
    let fits_y : FitsSigned w64 c.args.v.y = search rules in
    let fits_g : FitsSigned w128 c.gcd_of_three-g.result = search rules in
    simp to_z-of_z (greatest (goal.at.divided_small-y-requires-clause-multiple c).After-gcd_of_three-g).second

pub divided_small-z-requires-clause-positive : goal.divided_small-z-requires-clause-positive
divided_small-z-requires-clause-positive c =
    let fits_g : FitsSigned w128 c.gcd_of_three-g.result = search rules in
    simp to_z-of_z (positive (goal.at.divided_small-z-requires-clause-positive c).After-gcd_of_three-g)

pub divided_small-z-requires-clause-multiple : goal.divided_small-z-requires-clause-multiple
divided_small-z-requires-clause-multiple c =
    let fits_z : FitsSigned w64 c.args.v.z = search rules in
    let fits_g : FitsSigned w128 c.gcd_of_three-g.result = search rules in
    simp to_z-of_z (greatest (goal.at.divided_small-z-requires-clause-multiple c).After-gcd_of_three-g).third

pub returns-clause-over : goal.returns-clause-over
returns-clause-over c =
    let fits_vx : FitsSigned w64 c.args.v.x = search rules in
    let fits_vy : FitsSigned w64 c.args.v.y = search rules in
    let fits_vz : FitsSigned w64 c.args.v.z = search rules in
    let fits_x : FitsSigned w64 c.divided_small-x.result = search rules in
    let fits_y : FitsSigned w64 c.divided_small-y.result = search rules in
    let fits_z : FitsSigned w64 c.divided_small-z.result = search rules in
    let fits_g : FitsSigned w128 c.gcd_of_three-g.result = search rules in
    let g = (goal.at.returns-clause-over c).After-gcd_of_three-g in
    let x = simp to_z-of_z at c.divided_small-x.ensures.exact in
    let y = simp to_z-of_z at c.divided_small-y.ensures.exact in
    let z = simp to_z-of_z at c.divided_small-z.ensures.exact in
    simp to_z-of_z (record {
      divisor = c.gcd_of_three-g.result;
      greatest = greatest g;
      positive = positive g;
      along_x = sym x ∙ *ℤ_comm c.divided_small-x.result c.gcd_of_three-g.result;
      along_y = sym y ∙ *ℤ_comm c.divided_small-y.result c.gcd_of_three-g.result;
      along_z = sym z ∙ *ℤ_comm c.divided_small-z.result c.gcd_of_three-g.result;
    })

pub returns-clause-some : goal.returns-clause-some
returns-clause-some c =
    left_over c.args.v _ (returns-clause-over c) c.requires.some
