-- The grammar of CSG text as a table: which part a token begins where a node may stand, the tokens of each part one after
-- another, and which form the name of a shape chooses. (After OpenSCAD's syntax.)
use Rattle.std.specs.Prelude.{ℕ, Bool, nat_eq, List, [], ◌∷◌, Option, Some, None, bytes_eq, codes, if◌then◌else◌}
use Rattle.bc_read.specs.declared.part.Op.{Op}
use Rattle.bc_read.specs.declared.part.Op.TheVariants.{Union, Meet, Cut}
use Rattle.bc_read.specs.declared.part.Form.{Form}
use Rattle.bc_read.specs.declared.part.Form.TheVariants.{Slab, Strip, Disc, Block, Tile}
use Rattle.bc_read.specs.declared.part.Part.{Part}
use Rattle.bc_read.specs.declared.part.Part.TheVariants.{Opening, Moved, Placed, Closing}

-- the tokens of a part, a byte for each: `#` for a number, `s` for `sqrt`, `t` for `translate`, each other byte for itself
abbrev pub pattern : Part → List ℕ
pattern (Opening op) = codes "(){"
pattern Moved = codes "([#,#,#])"
pattern Placed = codes "([[#,#,#,#],[#,#,#,#],[#,#,#,#],[#,#,#,#]])t([#,#,#])"
pattern (Closing Slab) = codes "([#,#,#]);"
pattern (Closing Strip) = codes "([#,#]);"
pattern (Closing Disc) = codes "(r=s(#));"
pattern (Closing Block) = codes "([#,#,#]);"
pattern (Closing Tile) = codes "([#,#]);"

-- `#`
abbrev pub is_number_place : ℕ → Bool
is_number_place b = nat_eq b 35

-- the token for which a byte stands that is no `#`: some letters stand for names, each other byte for itself
abbrev pub word_of : ℕ → List ℕ
word_of b =
    if nat_eq b 115 then codes "sqrt"
    else (if nat_eq b 116 then codes "translate"
    else b ∷ [])

-- the operator that has this name
abbrev pub op_named : List ℕ → Option Op
op_named w =
    if bytes_eq w (codes "union") then Some Union
    else (if bytes_eq w (codes "intersection") then Some Meet
    else (if bytes_eq w (codes "difference") then Some Cut
    else None))

abbrev pub begins_by : Option Op → List ℕ → Option Part
begins_by (Some op) w = Some (Opening op)
begins_by None w =
    if bytes_eq w (codes "translate") then Some Moved
    else (if bytes_eq w (codes "multmatrix") then Some Placed
    else None)

-- the part that a token begins where a node may stand: an operator by its name, or a leaf by its first name
abbrev pub begins : List ℕ → Option Part
begins w = begins_by (op_named w) w

-- the form that the name of a shape chooses behind a part
abbrev pub chosen : Part → List ℕ → Option Form
chosen Moved w =
    if bytes_eq w (codes "cube") then Some Block
    else (if bytes_eq w (codes "square") then Some Tile
    else (if bytes_eq w (codes "circle") then Some Disc
    else None))
chosen Placed w =
    if bytes_eq w (codes "cube") then Some Slab
    else (if bytes_eq w (codes "square") then Some Strip
    else None)
chosen (Opening op) w = None
chosen (Closing form) w = None
