-- The head of an OFF text: `OFF`, and the counts of vertices, faces and edges, on one row or on two. In the faults, e is
-- the line behind the last, l a row's line, and n the number of the first of the words there.
use Rattle.std.specs.Prelude.{ℕ, ◌+◌, Bool, false, ◌&&◌, nat_eq, nat_lt, List, [], ◌∷◌, drop, ℤ, pos, int_lt, unsigned_abs, Result, Ok, Err, if◌then◌else◌}
use Rattle.bc_num.specs.Whole.{whole}
use Rattle.bc_num.specs.declared.whole.NumFault.{NumFault}
use Rattle.bc_off.specs.declared.header.Counts.{Counts}
use Rattle.bc_off.specs.declared.fault.OffFault.{OffFault}
use Rattle.bc_off.specs.declared.fault.OffFault.TheVariants.{NotOff, BadCount, Short, TooMany}
use Rattle.bc_off.specs.Answers.{◌>>=◌}
use Rattle.bc_off.specs.Entries.{no_more}
use Rattle.bc_off.specs.Rows.{Row}

-- `OFF`
abbrev pub is_off : List ℕ → Bool
is_off (a ∷ b ∷ c ∷ []) = nat_eq a 79 && (nat_eq b 70 && nat_eq c 70)
is_off _ = false

abbrev pub checked_count : ℕ → ℕ → Result ℤ NumFault → Result ℕ OffFault
checked_count l n (Err _) = Err (BadCount l n)
checked_count l n (Ok v) = if int_lt v (pos 0) then Err (BadCount l n) else Ok (unsigned_abs v)

-- a count. BadCount: there is no word, or it is no whole number, or a negative one
abbrev pub count : ℕ → ℕ → List (List ℕ) → Result ℕ OffFault
count l n [] = Err (BadCount l n)
count l n (w ∷ ws) = checked_count l n (whole w)

abbrev pub at_most : ℕ → ℕ → ℕ → ℕ → Result ℕ OffFault
at_most l n most v = if nat_lt most v then Err (TooMany l n) else Ok v

-- a count. TooMany: it is larger than `most`
abbrev pub limited : ℕ → ℕ → ℕ → List (List ℕ) → Result ℕ OffFault
limited l n most ws = count l n ws >>= at_most l n most

-- the counts, of at most 1024 vertices and 2048 faces; that of edges is read and not compared. Extra: a fourth word
abbrev pub counts : ℕ → ℕ → List (List ℕ) → Result Counts OffFault
counts l n ws =
    limited l n 1024 ws >>= λ vertices.
    limited l (n + 1) 2048 (drop 1 ws) >>= λ faces.
    count l (n + 2) (drop 2 ws) >>= λ edges.
    no_more l (n + 3) (drop 3 ws) >>= λ none.
    Ok (record { vertices = vertices; faces = faces })

-- counts, with the rows behind them
abbrev pub before_rows : List Row → Result Counts OffFault → Result (Counts × List Row) OffFault
before_rows rows (Ok c) = Ok (c, rows)
before_rows rows (Err f) = Err f

-- the counts of the first row. Short: the text ends before them
abbrev pub counts_row : ℕ → List Row → Result (Counts × List Row) OffFault
counts_row e [] = Err (Short e 0)
counts_row e (r ∷ rows) = before_rows rows (counts r.line 1 r.words)

-- the counts behind `OFF`: they stand on the next row, where `OFF` stands alone on line l, and else on that line
abbrev pub behind_off : ℕ → ℕ → List (List ℕ) → List Row → Result (Counts × List Row) OffFault
behind_off e l [] rows = counts_row e rows
behind_off e l (w ∷ ws) rows = before_rows rows (counts l 2 (w ∷ ws))

abbrev pub first_row : ℕ → ℕ → List (List ℕ) → List Row → Result (Counts × List Row) OffFault
first_row e l [] rows = Err (NotOff l 1)
first_row e l (w ∷ ws) rows = if is_off w then behind_off e l ws rows else Err (NotOff l 1)

-- the counts, with the rows behind the head. NotOff: the first word is not `OFF`, or there is no word
abbrev pub header : ℕ → List Row → Result (Counts × List Row) OffFault
header e [] = Err (NotOff e 0)
header e (r ∷ rows) = first_row e r.line r.words rows
