use Rattle.std.proofs.Common.{ℤ, pos, ◌*ℤ◌, ◌<ℤ◌, rules, ap, ◌∙◌}
use Rattle.std.proofs.lemmas.Int.{to_z-of_z}
use Rattle.std.specs.Int.RustNames.{FitsSigned}
use Rattle.bc_algebra.proofs.Order.{pos_of-mul}
use Rattle.bc_num.proofs.Dividing.{pos_divisor}
use Rattle.bc_num.proofs.Lowest.{IsOver3, IsSamePoint3_of-over, IsReduced3_of-over, IsNoLarger3_of-over}
use Rattle.bc_num.proofs.fractions.reduce3.Goals as goal
use Rattle.bc_num.proofs.fractions.reduce3.Goals.{After-gcd_of_four-g}
use mir.Syntax.{w128}

-- the divisor is above 0, since it divides the denominator
positive : (c : After-gcd_of_four-g) → pos 0 <ℤ c.gcd_of_four-g.result
positive c =
    let p = c.args.p in
    let fits_w : FitsSigned w128 p.w = search rules in
    let fourth = simp to_z-of_z at c.gcd_of_four-g.ensures.fourth in
    pos_divisor c.gcd_of_four-g.result p.w c.gcd_of_four-g.ensures.sign p.positive fourth

pub divided-x-requires-clause-positive : goal.divided-x-requires-clause-positive
divided-x-requires-clause-positive c =
    let fits_g : FitsSigned w128 c.gcd_of_four-g.result = search rules in
    simp to_z-of_z (positive (goal.at.divided-x-requires-clause-positive c).After-gcd_of_four-g)

pub divided-y-requires-clause-positive : goal.divided-y-requires-clause-positive
divided-y-requires-clause-positive c =
    let fits_g : FitsSigned w128 c.gcd_of_four-g.result = search rules in
    simp to_z-of_z (positive (goal.at.divided-y-requires-clause-positive c).After-gcd_of_four-g)

pub divided-z-requires-clause-positive : goal.divided-z-requires-clause-positive
divided-z-requires-clause-positive c =
    let fits_g : FitsSigned w128 c.gcd_of_four-g.result = search rules in
    simp to_z-of_z (positive (goal.at.divided-z-requires-clause-positive c).After-gcd_of_four-g)

pub divided-w-requires-clause-positive : goal.divided-w-requires-clause-positive
divided-w-requires-clause-positive c =
    let fits_g : FitsSigned w128 c.gcd_of_four-g.result = search rules in
    simp to_z-of_z (positive (goal.at.divided-w-requires-clause-positive c).After-gcd_of_four-g)

pub divided-y-requires-clause-multiple : goal.divided-y-requires-clause-multiple
divided-y-requires-clause-multiple c =
    let p = c.args.p in
    let fits_y : FitsSigned w128 p.y = search rules in
    let fits_g : FitsSigned w128 c.gcd_of_four-g.result = search rules in
    let second = simp to_z-of_z at c.gcd_of_four-g.ensures.second in
    simp to_z-of_z second

pub invariant_of-result : goal.invariant_of-result
invariant_of-result c =
    let p = c.args.p in
    let g = c.gcd_of_four-g.result in
    let above = positive (goal.at.invariant_of-result c).After-gcd_of_four-g in
    let fits_w : FitsSigned w128 p.w = search rules in
    let fits_g : FitsSigned w128 g = search rules in
    let fits_q : FitsSigned w128 c.divided-w.result = search rules in
    let w = simp to_z-of_z at c.divided-w.ensures in
    record { positive = simp to_z-of_z (pos_of-mul c.divided-w.result g above (rw w p.positive)) }

pub returns : goal.returns
returns c =
    let p = c.args.p in
    let g = c.gcd_of_four-g.result in
    let fits_px : FitsSigned w128 p.x = search rules in
    let fits_py : FitsSigned w128 p.y = search rules in
    let fits_pz : FitsSigned w128 p.z = search rules in
    let fits_pw : FitsSigned w128 p.w = search rules in
    let fits_g : FitsSigned w128 g = search rules in
    let fits_x : FitsSigned w128 c.divided-x.result = search rules in
    let fits_y : FitsSigned w128 c.divided-y.result = search rules in
    let fits_z : FitsSigned w128 c.divided-z.result = search rules in
    let fits_w : FitsSigned w128 c.divided-w.result = search rules in
    let h = simp to_z-of_z at c.gcd_of_four-g.ensures in
    let x = simp to_z-of_z at c.divided-x.ensures in
    let y = simp to_z-of_z at c.divided-y.ensures in
    let z = simp to_z-of_z at c.divided-z.ensures in
    let w = simp to_z-of_z at c.divided-w.ensures in
    let over : IsOver3 p _ g = record {
      positive = positive (goal.at.returns c).After-gcd_of_four-g;
      greatest = h;
      along_x = ap (λ (z : ℤ). z *ℤ g) (to_z-of_z w128 c.divided-x.result fits_x) ∙ x;
      along_y = ap (λ (z : ℤ). z *ℤ g) (to_z-of_z w128 c.divided-y.result fits_y) ∙ y;
      along_z = ap (λ (v : ℤ). v *ℤ g) (to_z-of_z w128 c.divided-z.result fits_z) ∙ z;
      along_w = ap (λ (z : ℤ). z *ℤ g) (to_z-of_z w128 c.divided-w.result fits_w) ∙ w;
    } in
    record {
      same = IsSamePoint3_of-over p _ g over;
      reduced = IsReduced3_of-over p _ g over;
      no_larger = IsNoLarger3_of-over p _ g over;
    }
