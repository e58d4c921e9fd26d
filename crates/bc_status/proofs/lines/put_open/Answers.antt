use Rattle.std.proofs.Common.{SFits, rules, to_z-of_z, w64}
use Rattle.bc_io.proofs.Grown.{behind}
use Rattle.bc_status.proofs.lines.put_open.Goals as goal

pub returns : goal.returns
returns g c =
    let fits0 : SFits w64 c.args.a.now.x = search rules in
    let fits1 : SFits w64 c.args.a.now.y = search rules in
    let fits2 : SFits w64 c.args.b.now.x = search rules in
    let fits3 : SFits w64 c.args.b.now.y = search rules in
    let s0 = simp to_z-of_z at c.put_next.ensures in
    let s1 = simp to_z-of_z at c.put_next-2.ensures in
    let s2 = simp to_z-of_z at c.put_next-3.ensures in
    let s3 = simp to_z-of_z at c.put_next-4.ensures in
    behind c.put_at_line.ensures (behind s0 (behind s1 (behind s2 s3)))
