use Rattle.std.proofs.Common.{rules, ◌∙◌, refl}
use Rattle.std.proofs.lemmas.Int.{to_z-of_z}
use Rattle.std.specs.Int.RustNames.{FitsSigned}
use mir.Syntax.{w64}
use Rattle.bc_read.proofs.LeafTests.{block-no-z, block-yes}
use Rattle.bc_read.proofs.leaf.block_of.Goals as goal

pub returns-in_err-z1 : goal.returns-in_err-z1
returns-in_err-z1 c =
    let fits-z : FitsSigned w64 c.args.z = search rules in
    let fits-c : FitsSigned w64 c.args.c = search rules in
    let h = simp to_z-of_z at c.far_end-3.ensures.some in
    block-no-z _ _ c.args.x c.args.y c.args.z c.args.a c.args.b c.args.c c.from_residual-in_err-z1.ensures c.in_err-z1.was h

pub returns : goal.returns
returns c =
    let fits-x : FitsSigned w64 c.args.x = search rules in
    let fits-y : FitsSigned w64 c.args.y = search rules in
    let fits-z : FitsSigned w64 c.args.z = search rules in
    let fits-a : FitsSigned w64 c.args.a = search rules in
    let fits-b : FitsSigned w64 c.args.b = search rules in
    let fits-c : FitsSigned w64 c.args.c = search rules in
    let fits-x1 : FitsSigned w64 c.in_ok-x1.x1 = search rules in
    let fits-y1 : FitsSigned w64 c.in_ok-y1.y1 = search rules in
    let fits-z1 : FitsSigned w64 c.in_ok-z1.z1 = search rules in
    let some-x1 = simp to_z-of_z at c.in_ok-x1.ensures.some in
    let value-x1 = simp to_z-of_z at c.in_ok-x1.ensures.value in
    let some-y1 = simp to_z-of_z at c.in_ok-y1.ensures.some in
    let value-y1 = simp to_z-of_z at c.in_ok-y1.ensures.value in
    let some-z1 = simp to_z-of_z at c.in_ok-z1.ensures.some in
    let value-z1 = simp to_z-of_z at c.in_ok-z1.ensures.value in
    block-yes c.args.x c.args.y c.args.z c.args.a c.args.b c.args.c _ (to_z-of_z w64 c.args.x fits-x) (to_z-of_z w64 c.args.y fits-y) (to_z-of_z w64 c.args.z fits-z)
    (to_z-of_z w64 c.in_ok-x1.x1 fits-x1 ∙ value-x1) (to_z-of_z w64 c.in_ok-y1.y1 fits-y1 ∙ value-y1) (to_z-of_z w64 c.in_ok-z1.z1 fits-z1 ∙ value-z1) (some-x1.0 refl) (some-y1.0 refl) (some-z1.0 refl)
