-- The mesh of an OFF text, or its first fault, after Geomview's OFF with this project's profile: the head, one row for
-- each vertex, one row for each face, and then nothing but lines without words.
use Rattle.std.specs.Prelude.{◌≡◌, ℕ, List, [], ◌∷◌, drop, Result, Ok, Err}
use Rattle.bc_solid.specs.Meshes.{Mesh}
use Rattle.bc_solid.specs.RawMeshes.{mesh_of}
use Rattle.bc_solid.specs.declared.raw_mesh.RawMesh.{RawMesh}
use Rattle.bc_off.specs.declared.header.Counts.{Counts}
use Rattle.bc_off.specs.declared.fault.OffFault.{OffFault}
use Rattle.bc_off.specs.declared.fault.OffFault.TheVariants.{Extra, Memory}
use Rattle.bc_off.specs.Answers.{◌>>=◌}
use Rattle.bc_off.specs.Rows.{Row, rows, end_line}
use Rattle.bc_off.specs.Header.{header}
use Rattle.bc_off.specs.Vertices.{vertices}
use Rattle.bc_off.specs.Faces.{faces}

-- nothing. Extra: there is a row
abbrev pub no_rows : List Row → Result (Unit {0}) OffFault
no_rows [] = Ok tt
no_rows (r ∷ rows) = Err (Extra r.line 1)

-- the mesh that the rows behind the head say; e is the line behind the last
abbrev pub body : ℕ → Counts → List Row → Result Mesh OffFault
body e c rows =
    vertices e c.vertices rows >>= λ points.
    faces e c.vertices c.faces (drop c.vertices rows) >>= λ faces.
    no_rows (drop c.faces (drop c.vertices rows)) >>= λ none.
    Ok (record { points = points; faces = faces })

abbrev pub mesh_in : ℕ → List Row → Result Mesh OffFault
mesh_in e rows = header e rows >>= λ (h : Counts × List Row). body e h.0 h.1

abbrev pub mesh_of_text : List ℕ → Result Mesh OffFault
mesh_of_text text = mesh_in (end_line text) (rows text)

-- the text says this mesh
abbrev pub Off : List ℕ → Mesh → Type 0
Off text mesh = mesh_of_text text ≡ Ok mesh

-- this is the first fault of the text
abbrev pub FirstFault : List ℕ → OffFault → Type 0
FirstFault text f = mesh_of_text text ≡ Err f

-- an answer has the text's mesh or its first fault, unless memory ran out
abbrev pub Reads : Result RawMesh OffFault → List ℕ → Type 0
Reads (Ok raw) text = Off text (mesh_of raw)
Reads (Err Memory) text = Unit {0}
Reads (Err f) text = FirstFault text f
