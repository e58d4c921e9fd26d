use Rattle.std.proofs.Common.{SFits, rules, to_z-of_z, w64}
use Rattle.bc_io.proofs.Grown.{behind}
use Rattle.bc_prism.proofs.write.put_layer.Goals as goal

pub returns : goal.returns
returns g c =
    let fits0 : SFits w64 c.args.layer.now.z0 = search rules in
    let fits1 : SFits w64 c.args.layer.now.z1 = search rules in
    let s0 = simp to_z-of_z at c.put_heights.ensures in
    behind s0 c.put_tree_to.ensures
