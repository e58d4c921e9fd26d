use Rattle.std.proofs.Common.{sym, ap, is_some}
use Rattle.std.proofs.lemmas.List.{take_all}
use Rattle.std.proofs.lemmas.List.Elements.{All-more, All-same}
use Rattle.bc_space.specs.PlanesThrough.{AreCollinear}
use Rattle.bc_solid.specs.Meshes.{origin3}
use Rattle.bc_solid.proofs.face_plane.first_plane.Goals as goal

pub loop-corner-preserved : goal.loop-corner-preserved
loop-corner-preserved c =
    All-more (AreCollinear c.args.a c.args.b) c.args.corners.now c.loop-corner.corner-index origin3 c.loop-corner-test.true c.loop-corner.invariant
    (c.plane_through.ensures.none.0 (ap is_some c.in_default.is))

pub returns-clause-none : goal.returns-clause-none
returns-clause-none c = λ _. All-same (AreCollinear c.args.a c.args.b) _ _ (sym (take_all c.loop-corner.corner-index c.args.corners.now c.loop-corner-test.false)) c.loop-corner.invariant
