use Rattle.std.proofs.Common.{SFits, rules, to_z-of_z, w64}
use Rattle.bc_io.proofs.Grown.{behind}
use Rattle.bc_status.proofs.lines.put_skew.Goals as goal

pub returns : goal.returns
returns g c =
    let fits0 : SFits w64 c.args.start2 = search rules in
    let fits1 : SFits w64 c.args.end2 = search rules in
    let s0 = simp to_z-of_z at c.put_next-2.ensures in
    let s1 = simp to_z-of_z at c.put_next-3.ensures in
    behind c.put.ensures (behind c.put_next.ensures (behind s0 s1))
