use Rattle.std.proofs.Common.{length}
use Rattle.std.specs.List.{list_any}
use Rattle.bc_parity.proofs.Places.{place_in}
use Rattle.bc_parity.proofs.FaceLoops.{is_on_face, hit, missed, on_answer, off_answer}
use Rattle.bc_parity.proofs.face_queries.on_edge3.Goals as goal

pub returns-then-is_on_plane-clause-on : goal.returns-then-is_on_plane-clause-on
returns-then-is_on_plane-clause-on c =
    on_answer c.args.s.now c.args.p.now _
    (hit c.args.p.now c.args.s.now c.loop-f.f c.plane.result c.is_on_plane.result (list_any (is_on_face c.args.p.now) c.args.s.now)
    (place_in c.faces-f-end.result (length c.args.s.now) c.loop-f.f c.faces-f-end.ensures.count c.loop-f-test.true)
    c.plane.ensures.at c.is_on_plane.ensures c.if-is_on_plane.true c.loop-f.invariant)

pub returns-then-is_on_plane-clause-off : goal.returns-then-is_on_plane-clause-off
returns-then-is_on_plane-clause-off c =
    off_answer c.args.s.now c.args.p.now _
    (hit c.args.p.now c.args.s.now c.loop-f.f c.plane.result c.is_on_plane.result (list_any (is_on_face c.args.p.now) c.args.s.now)
    (place_in c.faces-f-end.result (length c.args.s.now) c.loop-f.f c.faces-f-end.ensures.count c.loop-f-test.true)
    c.plane.ensures.at c.is_on_plane.ensures c.if-is_on_plane.true c.loop-f.invariant)

pub loop-f-preserved : goal.loop-f-preserved
loop-f-preserved c =
    missed c.args.p.now c.args.s.now c.loop-f.f c.plane.result c.is_on_plane.result (list_any (is_on_face c.args.p.now) c.args.s.now)
    (place_in c.faces-f-end.result (length c.args.s.now) c.loop-f.f c.faces-f-end.ensures.count c.loop-f-test.true)
    c.plane.ensures.at c.is_on_plane.ensures c.if-is_on_plane.false c.loop-f.invariant
