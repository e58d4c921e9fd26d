-- The parts of a text, as they are read one after another.
use Rattle.std.proofs.Common.{◌≡◌, ℕ, ◌+◌, List, drop, length, Result, Ok, Err, sym, ap, ◌∙◌, subst, arith}
use Rattle.bc_num.specs.Lines.{lines}
use Rattle.bc_lex.specs.Places.{LinePlace}
use Rattle.bc_num.specs.declared.v3.V3.{V3}
use Rattle.bc_solid.specs.Meshes.{Mesh}
use Rattle.bc_off.specs.declared.header.Counts.{Counts}
use Rattle.bc_off.specs.declared.fault.OffFault.{OffFault}
use Rattle.bc_off.specs.declared.fault.OffFault.TheVariants.{Memory}
use Rattle.bc_off.specs.Answers.{◌>>=◌, Gives}
use Rattle.bc_off.specs.Rows.{Row, rows}
use Rattle.bc_off.specs.Left.{rows_left, end_left}
use Rattle.bc_off.specs.Header.{before_rows, header}
use Rattle.bc_off.specs.Vertices.{vertices}
use Rattle.bc_off.specs.Faces.{faces}
use Rattle.bc_off.specs.Off.{no_rows, body, mesh_in, mesh_of_text, Reads}
use Rattle.bc_off.proofs.Runs.{failed}

-- before the first line all rows are left
pub all_left : (text : List ℕ) (p : LinePlace) → p ≡ record { text = text; at = 0; number = 0 } → mesh_of_text text ≡ mesh_in (end_left p) (rows_left p)
all_left text p h =
    let end : length (lines text) + 1 ≡ 0 + length (lines text) + 1 = omega arith in
    ap (λ e. mesh_in e (rows text)) end ∙ sym (ap (λ p. mesh_in (end_left p) (rows_left p)) h)

pub reads_err : (f : OffFault) (text : List ℕ) → Gives (Err f) (mesh_of_text text) → Reads (Err f) text
reads_err Memory text h = tt
reads_err _ text h = h

-- behind the head
pub head_read : (e : ℕ) (rows rest : List Row) (c : Counts) → before_rows rest (Ok c) ≡ header e rows → mesh_in e rows ≡ body e c rest
head_read e rows rest c h = ap (λ r. r >>= λ (h : Counts × List Row). body e h.0 h.1) (sym h)

pub head_failed : (e : ℕ) (rows rest : List Row) (f : OffFault) → before_rows rest (Err f) ≡ header e rows → mesh_in e rows ≡ Err f
head_failed e rows rest f h = ap (λ r. r >>= λ (h : Counts × List Row). body e h.0 h.1) (sym h)

-- behind the vertices
abbrev pub faces_part : ℕ → Counts → List Row → List V3 → Result Mesh OffFault
faces_part e c rows points =
    faces e c.vertices c.faces (drop c.vertices rows) >>= λ faces.
    no_rows (drop c.faces (drop c.vertices rows)) >>= λ none.
    Ok (record { points = points; faces = faces })

pub points_read : (e e1 : ℕ) (c : Counts) (rows : List Row) (points : List V3) → e1 ≡ e → vertices e1 c.vertices rows ≡ Ok points → body e c rows ≡ faces_part e c rows points
points_read e e1 c rows points end h = ap (λ r. r >>= faces_part e c rows) (ap (λ e. vertices e c.vertices rows) (sym end) ∙ h)

pub points_failed : (e e1 : ℕ) (c : Counts) (rows : List Row) (f : OffFault) (want : Result Mesh OffFault) → e1 ≡ e → Gives (Err f) (vertices e1 c.vertices rows) → want ≡ body e c rows
    → Gives (Err f) want
points_failed e e1 c rows f want end h is =
    failed f (vertices e c.vertices rows) (faces_part e c rows) want (subst (λ e. Gives (Err f) (vertices e c.vertices rows)) end h) is

-- behind the faces
abbrev pub end_part : Counts → List Row → List V3 → List (List ℕ) → Result Mesh OffFault
end_part c rows points fs = no_rows (drop c.faces (drop c.vertices rows)) >>= λ none. Ok (record { points = points; faces = fs })

pub faces_read : (e e2 : ℕ) (c : Counts) (rows rows2 : List Row) (points : List V3) (fs : List (List ℕ)) → e2 ≡ e → rows2 ≡ drop c.vertices rows
    → faces e2 c.vertices c.faces rows2 ≡ Ok fs → faces_part e c rows points ≡ end_part c rows points fs
faces_read e e2 c rows rows2 points fs end rest h =
    ap (λ r. r >>= end_part c rows points) (ap (faces e c.vertices c.faces) (sym rest) ∙ ap (λ e. faces e c.vertices c.faces rows2) (sym end) ∙ h)

pub faces_failed : (e e2 : ℕ) (c : Counts) (rows rows2 : List Row) (points : List V3) (f : OffFault) (want : Result Mesh OffFault) → e2 ≡ e → rows2 ≡ drop c.vertices rows
    → Gives (Err f) (faces e2 c.vertices c.faces rows2) → want ≡ faces_part e c rows points → Gives (Err f) want
faces_failed e e2 c rows rows2 points f want end rest h is =
    failed f (faces e c.vertices c.faces (drop c.vertices rows)) (end_part c rows points) want
    (subst (λ r. Gives (Err f) (faces e c.vertices c.faces r)) rest (subst (λ e. Gives (Err f) (faces e c.vertices c.faces rows2)) end h)) is

-- the end
pub end_read : (c : Counts) (rows rows2 rows3 : List Row) (points : List V3) (fs : List (List ℕ)) → rows2 ≡ drop c.vertices rows → rows3 ≡ drop c.faces rows2
    → Ok tt ≡ no_rows rows3 → end_part c rows points fs ≡ Ok (record { points = points; faces = fs })
end_read c rows rows2 rows3 points fs a b h =
    ap (λ r. r >>= λ none. Ok (record { points = points; faces = fs })) (sym (h ∙ ap no_rows (b ∙ ap (drop c.faces) a)))
