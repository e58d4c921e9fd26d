use Rattle.std.proofs.Common.{◌≡◌, ℕ, List, ◌∙◌, subst}
use Rattle.bc_trial.specs.Texts.{contour_text}
use Rattle.bc_top.specs.ContourTexts.{HasProfile}
use Rattle.bc_top.proofs.Trialled.{contours_trialled}
use Rattle.bc_top.proofs.trial.trial_of_contours.Goals as goal

pub returns-clause-text : goal.returns-clause-text
returns-clause-text c =
    let bytes : c.as_slice.result.now ≡ contour_text c.args.n = c.as_slice.ensures ∙ c.in_ok-text.ensures in
    let (other, box_of, parted) = c.in_ok-parts.ensures.ok in
    let (box, division) = c.in_ok-division.ensures.ok in
    contours_trialled c.args.n c.in_ok-profile.profile box other c.in_ok-parts.parts c.in_ok-division.division c.in_ok-formula.formula c.in_ok-summary.summary.items
    (subst (λ (b : List ℕ). HasProfile b c.in_ok-profile.profile) bytes c.in_ok-profile.ensures.ok) box_of parted division c.in_ok-formula.ensures c.in_ok-summary.ensures
