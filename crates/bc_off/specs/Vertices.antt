-- The vertices of an OFF text: one row of three whole numbers within 1023 for each.
use Rattle.std.specs.Prelude.{ℕ, List, drop, Result, Ok}
use Rattle.bc_num.specs.declared.v3.V3.{V3}
use Rattle.bc_off.specs.declared.fault.OffFault.{OffFault}
use Rattle.bc_off.specs.Answers.{◌>>=◌}
use Rattle.bc_off.specs.Entries.{coordinate, no_more}
use Rattle.bc_off.specs.Rows.{Row, each}

-- the vertex of a row. Extra: a fourth word
abbrev pub vertex : Row → Result V3 OffFault
vertex r =
    coordinate r.line 1 r.words >>= λ x.
    coordinate r.line 2 (drop 1 r.words) >>= λ y.
    coordinate r.line 3 (drop 2 r.words) >>= λ z.
    no_more r.line 4 (drop 3 r.words) >>= λ none.
    Ok (record { x = x; y = y; z = z })

-- the vertices of the first k rows; e is the line behind the last
abbrev pub vertices : ℕ → ℕ → List Row → Result (List V3) OffFault
vertices e k rows = each vertex e k rows
