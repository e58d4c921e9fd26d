use Rattle.std.proofs.Common.{ap, length, arith}
use Rattle.bc_solid.proofs.Outlines.{twin_within}
use Rattle.bc_solid.proofs.mesh_check.facet.Goals as goal

pub overflow_cast-result : goal.overflow_cast-result
overflow_cast-result c =
    let t = twin_within c.as_slice.result.now c.in-Some.place c.in-Some.ensures.twin.is in
    let n = ap length c.as_slice.ensures in
    omega (arith, t, n, c.requires.few)
