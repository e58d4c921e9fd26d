use Rattle.std.proofs.Common.{SFits, rules, to_z-of_z, w64}
use Rattle.bc_io.proofs.Grown.{behind}
use Rattle.bc_text.proofs.leaf.put_box2.Goals as goal

pub returns : goal.returns
returns g c =
    let fits0 : SFits w64 c.args.corner.x = search rules in
    let fits1 : SFits w64 c.args.corner.y = search rules in
    let fits2 : SFits w64 c.args.sides.x = search rules in
    let fits3 : SFits w64 c.args.sides.y = search rules in
    let s0 = simp to_z-of_z at c.put_translate.ensures in
    let s1 = simp to_z-of_z at c.put_square.ensures in
    behind s0 s1
