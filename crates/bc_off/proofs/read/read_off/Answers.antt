use Rattle.std.proofs.Common.{◌≡◌, ◌≤◌, ◌*◌, length, Ok, ◌∙◌, arith}
use Rattle.std.proofs.lemmas.Result.{err_from_is_err_and}
use Rattle.bc_solid.specs.Meshes.{Mesh, corner_count}
use Rattle.bc_off.specs.Left.{rows_left, end_left}
use Rattle.bc_off.specs.Off.{mesh_of_text}
use Rattle.bc_off.specs.Laws.{IsMesh}
use Rattle.bc_off.proofs.Runs.{gives_err}
use Rattle.bc_off.proofs.Kept.{read_are_meshes, corners_few}
use Rattle.bc_off.proofs.Reading.{all_left, reads_err, head_read, head_failed, points_read, points_failed, faces_read, faces_failed, end_read}
use Rattle.bc_off.proofs.read.read_off.Goals as goal

pub returns-in_err-counts : goal.returns-in_err-counts
returns-in_err-counts c =
    let p = c.new-lines.result in
    let f = err_from_is_err_and c.from_residual.result c.from_residual.ensures.1 in
    rw (f.1, f.2) (reads_err _ c.args.text.now (gives_err _ _ (all_left c.args.text.now p c.new-lines.ensures
    ∙ head_failed (end_left p) (rows_left p) (rows_left c.read_header.new.lines) _ c.in_err-counts.ensures.value)))

pub returns-in_err-points : goal.returns-in_err-points
returns-in_err-points c =
    let p = c.new-lines.result in
    let q = c.read_header.new.lines in
    let n = c.in_ok-counts.counts in
    let f = err_from_is_err_and c.from_residual-in_err-points.result c.from_residual-in_err-points.ensures.1 in
    let led = all_left c.args.text.now p c.new-lines.ensures ∙ head_read (end_left p) (rows_left p) (rows_left q) n c.in_ok-counts.ensures.value in
    rw (f.1, f.2) (reads_err _ c.args.text.now (points_failed (end_left p) (end_left q) n (rows_left q) _ _ c.in_ok-counts.ensures.end c.in_err-points.ensures.value led))

pub returns-in_err-faces : goal.returns-in_err-faces
returns-in_err-faces c =
    let p = c.new-lines.result in
    let q = c.read_header.new.lines in
    let r = c.read_vertices.new.lines in
    let n = c.in_ok-counts.counts in
    let points = c.in_ok-points.points in
    let f = err_from_is_err_and c.from_residual-in_err-faces.result c.from_residual-in_err-faces.ensures.1 in
    let led =
    all_left c.args.text.now p c.new-lines.ensures
    ∙ head_read (end_left p) (rows_left p) (rows_left q) n c.in_ok-counts.ensures.value
    ∙ points_read (end_left p) (end_left q) n (rows_left q) points c.in_ok-counts.ensures.end c.in_ok-points.ensures.value in
    rw (f.1, f.2) (reads_err _ c.args.text.now (faces_failed (end_left p) (end_left r) n (rows_left q) (rows_left r) points _ _ (c.in_ok-points.ensures.end ∙ c.in_ok-counts.ensures.end)
    c.in_ok-points.ensures.rest c.in_err-faces.ensures.value led))

pub invariant_of-result : goal.invariant_of-result
invariant_of-result c =
    let p = c.new-lines.result in
    let q = c.read_header.new.lines in
    let r = c.read_vertices.new.lines in
    let s = c.read_faces.new.lines in
    let n = c.in_ok-counts.counts in
    let points = c.in_ok-points.points in
    let fs = c.in_ok-faces.faces in
    let mesh : Mesh = record { points = points; faces = fs } in
    let led : mesh_of_text c.args.text.now ≡ Ok mesh =
    all_left c.args.text.now p c.new-lines.ensures
    ∙ head_read (end_left p) (rows_left p) (rows_left q) n c.in_ok-counts.ensures.value
    ∙ points_read (end_left p) (end_left q) n (rows_left q) points c.in_ok-counts.ensures.end c.in_ok-points.ensures.value
    ∙ faces_read (end_left p) (end_left r) n (rows_left q) (rows_left r) points fs (c.in_ok-points.ensures.end ∙ c.in_ok-counts.ensures.end) c.in_ok-points.ensures.rest c.in_ok-faces.ensures.value
    ∙ end_read n (rows_left q) (rows_left r) (rows_left s) points fs c.in_ok-points.ensures.rest c.in_ok-faces.ensures.rest c.in_ok-check_rest.ensures in
    let m : IsMesh mesh = read_are_meshes c.args.text.now mesh led in
    let few_points : length points ≤ 1024 = m.few_points in
    let few_faces : length fs ≤ 2048 = m.few_faces in
    let corners : corner_count fs ≤ 64 * length fs = corners_few fs m.sides in
    record { are_near = m.near; are_places = m.places; few_points = omega arith; few_faces = omega arith; few_corners = omega arith }

pub returns : goal.returns
returns c =
    let p = c.new-lines.result in
    let q = c.read_header.new.lines in
    let r = c.read_vertices.new.lines in
    let s = c.read_faces.new.lines in
    let n = c.in_ok-counts.counts in
    let points = c.in_ok-points.points in
    let fs = c.in_ok-faces.faces in
    all_left c.args.text.now p c.new-lines.ensures
    ∙ head_read (end_left p) (rows_left p) (rows_left q) n c.in_ok-counts.ensures.value
    ∙ points_read (end_left p) (end_left q) n (rows_left q) points c.in_ok-counts.ensures.end c.in_ok-points.ensures.value
    ∙ faces_read (end_left p) (end_left r) n (rows_left q) (rows_left r) points fs (c.in_ok-points.ensures.end ∙ c.in_ok-counts.ensures.end) c.in_ok-points.ensures.rest c.in_ok-faces.ensures.value
    ∙ end_read n (rows_left q) (rows_left r) (rows_left s) points fs c.in_ok-points.ensures.rest c.in_ok-faces.ensures.rest c.in_ok-check_rest.ensures
