use Rattle.std.proofs.Common.{rules, ◌≡◌, ◌∙◌, refl}
use Rattle.std.proofs.lemmas.Int.{to_z-of_z}
use Rattle.std.specs.Int.RustNames.{FitsSigned}
use Rattle.std.specs.Prelude.{pos}
use mir.Syntax.{w64}
use Rattle.bc_read.proofs.LeafTests.{tile-yes}
use Rattle.bc_read.proofs.leaf.tile_of.Goals as goal

pub returns-then-z-eq0 : goal.returns-then-z-eq0
returns-then-z-eq0 c =
    let fits-x : FitsSigned w64 c.args.x = search rules in
    let fits-y : FitsSigned w64 c.args.y = search rules in
    let fits-z : FitsSigned w64 c.args.z = search rules in
    let fits-a : FitsSigned w64 c.args.a = search rules in
    let fits-b : FitsSigned w64 c.args.b = search rules in
    let fits-x1 : FitsSigned w64 c.in_ok-x1.x1 = search rules in
    let fits-y1 : FitsSigned w64 c.in_ok-y1.y1 = search rules in
    let some-x1 = simp to_z-of_z at c.in_ok-x1.ensures.some in
    let value-x1 = simp to_z-of_z at c.in_ok-x1.ensures.value in
    let some-y1 = simp to_z-of_z at c.in_ok-y1.ensures.some in
    let value-y1 = simp to_z-of_z at c.in_ok-y1.ensures.value in
    let zero : c.args.z ≡ pos 0 = search rules in
    tile-yes c.args.x c.args.y c.args.z c.args.a c.args.b _ (to_z-of_z w64 c.args.x fits-x) (to_z-of_z w64 c.args.y fits-y)
    (to_z-of_z w64 c.in_ok-x1.x1 fits-x1 ∙ value-x1) (to_z-of_z w64 c.in_ok-y1.y1 fits-y1 ∙ value-y1) (some-x1.0 refl) (some-y1.0 refl) zero
