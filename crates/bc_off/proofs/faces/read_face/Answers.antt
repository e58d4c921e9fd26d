use Rattle.std.proofs.Common.{◌+◌, Ok, sym, ap, subst, ◌∙◌}
use Rattle.std.proofs.lemmas.Result.{err_from_is_err_and}
use Rattle.bc_off.specs.Answers.{◌>>=◌}
use Rattle.bc_off.specs.Left.{IsBehind}
use Rattle.bc_off.specs.Faces.{corners_of}
use Rattle.bc_off.proofs.Runs.{failed, gives_err}
use Rattle.bc_off.proofs.FaceSteps.{ok_left, face_corners, face_places}
use Rattle.bc_off.proofs.faces.read_face.Goals as goal

pub returns-in_err-face : goal.returns-in_err-face
returns-in_err-face c =
    let p = c.args.words in
    let q = c.read_corners.new.words in
    let k = c.in_ok-corners.corners in
    let f = err_from_is_err_and c.from_residual-in_err-face.result c.from_residual-in_err-face.ensures.1 in
    let next : IsBehind 1 p q = subst (IsBehind 1 p) (sym c.read_corners.ensures.place) (ok_left (corners_of p.line (p.nth + 1)) p k c.in_ok-corners.ensures.value) in
    rw (f.1, f.2) (failed _ _ _ _ c.in_err-face.ensures.value (face_corners c.args.vertices k p q c.requires.first c.in_ok-corners.ensures.value next))

pub returns-in_err-check_end : goal.returns-in_err-check_end
returns-in_err-check_end c =
    let p = c.args.words in
    let q = c.read_corners.new.words in
    let r = c.read_places.new.words in
    let s = c.pass_free.new.words in
    let k = c.in_ok-corners.corners in
    let is = c.in_ok-face.face in
    let f = err_from_is_err_and c.from_residual-in_err-check_end.result c.from_residual-in_err-check_end.ensures.1 in
    let next : IsBehind 1 p q = subst (IsBehind 1 p) (sym c.read_corners.ensures.place) (ok_left (corners_of p.line (p.nth + 1)) p k c.in_ok-corners.ensures.value) in
    rw (f.1, f.2) (gives_err _ _ (face_places c.args.vertices k p q r s is c.requires.first c.in_ok-corners.ensures.value next c.in_ok-face.ensures.value c.in_ok-face.ensures.behind c.pass_free.ensures
    ∙ ap (λ r. r >>= λ none. Ok is) (sym c.in_err-check_end.ensures)))

pub returns : goal.returns
returns c =
    let p = c.args.words in
    let q = c.read_corners.new.words in
    let r = c.read_places.new.words in
    let s = c.pass_free.new.words in
    let k = c.in_ok-corners.corners in
    let is = c.in_ok-face.face in
    let next : IsBehind 1 p q = subst (IsBehind 1 p) (sym c.read_corners.ensures.place) (ok_left (corners_of p.line (p.nth + 1)) p k c.in_ok-corners.ensures.value) in
    face_places c.args.vertices k p q r s is c.requires.first c.in_ok-corners.ensures.value next c.in_ok-face.ensures.value c.in_ok-face.ensures.behind c.pass_free.ensures
    ∙ ap (λ r. r >>= λ none. Ok is) (sym c.in_ok-check_end.ensures)
