use Rattle.std.proofs.Common.{refl, arith, ◌<◌, length}
use Rattle.std.proofs.lemmas.Option.{slice_get_within}
use Rattle.bc_solid.specs.Meshes.{origin3}
use Rattle.bc_solid.proofs.FacePlanes.{short_face, flat_face, plane_of, not_flat, bend}
use Rattle.bc_solid.proofs.face_plane.face_plane.Goals as goal

pub returns-then-corners-lt2-clause-fault : goal.returns-then-corners-lt2-clause-fault
returns-then-corners-lt2-clause-fault c = (refl, c.requires.apart, short_face c.args.corners.now c.if-corners-lt2.true)

pub returns-in-None-clause-fault : goal.returns-in-None-clause-fault
returns-in-None-clause-fault c = (refl, c.requires.apart, flat_face c.args.corners.now origin3 (omega (arith, c.if-corners-lt2.false)) c.requires.apart (c.in-None.ensures.none refl))

pub returns-in-None-first_off-clause-plane : goal.returns-in-None-first_off-clause-plane
returns-in-None-first_off-clause-plane c =
    plane_of c.args.corners.now origin3 (omega (arith, c.if-corners-lt2.false)) c.in-Some.plane c.in-Some.ensures.plane (c.in-None-first_off.ensures.none refl) c.in-Some.ensures.sized

pub overflow_cast-result : goal.overflow_cast-result
overflow_cast-result c =
    let o = c.in-Some-first_off.ensures.off in
    let w : c.in-Some-first_off.place < length c.args.corners.now = slice_get_within c.args.corners.now c.in-Some-first_off.place o.corner o.is in
    omega (arith, w, c.requires.few)

pub returns-in-Some-first_off-clause-fault : goal.returns-in-Some-first_off-clause-fault
returns-in-Some-first_off-clause-fault c = (
  refl,
  c.requires.apart,
  not_flat c.args.corners.now origin3 (omega (arith, c.if-corners-lt2.false)) c.in-Some.plane c.in-Some.ensures.plane,
  bend c.args.corners.now origin3 (omega (arith, c.if-corners-lt2.false)) c.in-Some.plane c.in-Some.ensures.plane c.requires.apart c.in-Some-first_off.place c.in-Some-first_off.ensures.off,
)
