use Rattle.std.proofs.Common.{List, ap, ◌∙◌, get_or, length, ◌++◌, ◌∷◌, [], ◌<◌, ◌≤◌, subst}
use Rattle.std.specs.Prelude.{ℕ}
use Rattle.std.proofs.lemmas.List.{take_all}
use Rattle.std.proofs.lemmas.List.Elements.{All-same}
use Rattle.bc_num.specs.Sizes.{AreCoords3}
use Rattle.bc_solid.specs.Meshes.{corners_of, origin3}
use Rattle.bc_solid.proofs.Outlines.{corners_more, near_corners}
use Rattle.bc_solid.proofs.outline.outline.Goals as goal

pub loop-i-preserved : goal.loop-i-preserved
loop-i-preserved c =
    corners_more c.args.points.now c.args.face.now c.loop-i.corners c.push.new.self c.loop-i.i-index (subst (λ (xs : List ℕ). c.loop-i.i-index < length xs) c.as_slice-i-items.ensures c.loop-i-test.true) c.loop-i.invariant
    (c.in_ok-push.ensures.ok ∙ ap (λ (xs : List ℕ). c.loop-i.corners ++ get_or c.args.points.now (get_or xs c.loop-i.i-index 0) origin3 ∷ []) c.as_slice-i-items.ensures)

pub returns-clause-near : goal.returns-clause-near
returns-clause-near c =
    let l : length c.args.face.now ≤ c.loop-i.i-index = subst (λ (xs : List ℕ). length xs ≤ c.loop-i.i-index) c.as_slice-i-items.ensures c.loop-i-test.false in
    All-same AreCoords3 _ _ (c.loop-i.invariant ∙ ap (corners_of c.args.points.now) (take_all c.loop-i.i-index c.args.face.now l)) (near_corners c.args.points.now c.args.face.now c.requires.near)
