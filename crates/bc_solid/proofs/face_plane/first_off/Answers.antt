use Rattle.std.proofs.Common.{sym, ◌∙◌}
use Rattle.std.proofs.lemmas.List.{take_all}
use Rattle.std.proofs.lemmas.List.Elements.{All-more, All-same}
use Rattle.std.proofs.lemmas.Bool.Decides.{Decides-int_eq}
use Rattle.bc_solid.specs.Meshes.{origin3}
use Rattle.bc_solid.specs.Facets.{IsOnPlane}
use Rattle.bc_solid.proofs.face_plane.first_off.Goals as goal

pub loop-place-preserved : goal.loop-place-preserved
loop-place-preserved c =
    All-more (IsOnPlane c.args.plane.now) c.args.corners.now c.loop-place.place origin3 c.loop-place-test.true c.loop-place.invariant
    ((Decides-int_eq _ _).0 (sym c.is_on.ensures ∙ c.if-not-is_on.false))

pub returns-clause-none : goal.returns-clause-none
returns-clause-none c = λ _. All-same (IsOnPlane c.args.plane.now) _ _ (sym (take_all c.loop-place.place c.args.corners.now c.loop-place-test.false)) c.loop-place.invariant
