use Rattle.std.proofs.Common.{length}
use Rattle.bc_parity.specs.Sums.{odd}
use Rattle.bc_parity.specs.Faces.{is_face_crossed}
use Rattle.bc_parity.proofs.Places.{place_in}
use Rattle.bc_parity.proofs.FaceLoops.{counted_at}
use Rattle.bc_parity.proofs.face_queries.odd3.Goals as goal

pub loop-f-preserved : goal.loop-f-preserved
loop-f-preserved c =
    counted_at (λ f. is_face_crossed f c.args.p.now) c.loop-f.odd c.exactly_one-odd.result c.crosses_face.result (odd (λ f. is_face_crossed f c.args.p.now) c.args.s.now) c.args.s.now c.loop-f.f
    (place_in c.faces-f-end.result (length c.args.s.now) c.loop-f.f c.faces-f-end.ensures.count c.loop-f-test.true)
    c.crosses_face.ensures c.exactly_one-odd.ensures c.loop-f.invariant
