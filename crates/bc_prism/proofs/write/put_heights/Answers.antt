use Rattle.std.proofs.Common.{SFits, rules, to_z-of_z, w64, ◌-ℤ◌}
use Rattle.bc_io.proofs.Grown.{behind}
use Rattle.bc_prism.proofs.Layers.{height_fits}
use Rattle.bc_prism.proofs.write.put_heights.Goals as goal

pub returns : goal.returns
returns g c =
    let fits0 : SFits w64 c.args.z0 = search rules in
    let fits1 : SFits w64 c.args.z1 = search rules in
    let far : SFits w64 (c.args.z1 -ℤ c.args.z0) = height_fits c.args.z0 c.args.z1 c.requires.low c.requires.high in
    let s0 = simp to_z-of_z at c.put_number.ensures in
    let s1 = simp to_z-of_z at c.put_next.ensures in
    behind c.put.ensures (behind s0 (behind s1 c.put-2.ensures))
