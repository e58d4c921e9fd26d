use Rattle.std.proofs.Common.{arith}
use Rattle.bc_audit.proofs.PlaneLists.{faces_more}
use Rattle.bc_audit.proofs.planes.face_planes.Goals as goal

pub loop-f-preserved : goal.loop-f-preserved
loop-f-preserved c =
    faces_more c.args.s.now c.loop-f.f c.plane.result c.loop-f.planes c.add.new.self (omega (arith, c.loop-f-test.true, c.faces-f-end.ensures.count)) c.plane.ensures.at c.loop-f.invariant c.in_ok-add.ensures
