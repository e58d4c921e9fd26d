-- The faces of an OFF text: for each a row of the number of its corners, of the vertices at them, and of up to four words
-- of any kind, which are ignored. In the faults, l is the row's line, and n the number of the first of the words there;
-- m is the number of vertices.
use Rattle.std.specs.Prelude.{ℕ, zero, suc, ◌+◌, ◌||◌, List, [], ◌∷◌, drop, ℤ, pos, int_lt, int_le, unsigned_abs, Result, Ok, Err, if◌then◌else◌}
use Rattle.bc_off.specs.declared.fault.OffFault.{OffFault}
use Rattle.bc_off.specs.declared.fault.OffFault.TheVariants.{BadIndex, ShortFace, TooMany}
use Rattle.bc_off.specs.Answers.{◌>>=◌}
use Rattle.bc_off.specs.Entries.{number, no_more}
use Rattle.bc_off.specs.Rows.{Row, each}

abbrev pub corners_of : ℕ → ℕ → ℤ → Result ℕ OffFault
corners_of l n v =
    if int_lt v (pos 3) then Err (ShortFace l n)
    else (if int_lt (pos 64) v then Err (TooMany l n)
    else Ok (unsigned_abs v))

-- the number of corners. ShortFace: below 3; TooMany: above 64
abbrev pub corners : ℕ → ℕ → List (List ℕ) → Result ℕ OffFault
corners l n ws = number l n ws >>= corners_of l n

abbrev pub place_of : ℕ → ℕ → ℕ → ℤ → Result ℕ OffFault
place_of l n m v = if int_lt v (pos 0) || int_le (pos m) v then Err (BadIndex l n) else Ok (unsigned_abs v)

-- a vertex by its number, which counts from 0. BadIndex: it is negative, or not below m
abbrev pub place : ℕ → ℕ → ℕ → List (List ℕ) → Result ℕ OffFault
place l n m ws = number l n ws >>= place_of l n m

-- the vertices that the first k words say
abbrev pub places : ℕ → ℕ → ℕ → ℕ → List (List ℕ) → Result (List ℕ) OffFault
places l n m zero ws = Ok []
places l n m (suc k) ws = place l n m ws >>= λ i. places l (n + 1) m k (drop 1 ws) >>= λ is. Ok (i ∷ is)

-- the face of a row. Extra: a fifth word behind its vertices
abbrev pub face : ℕ → Row → Result (List ℕ) OffFault
face m r =
    corners r.line 1 r.words >>= λ k.
    places r.line 2 m k (drop 1 r.words) >>= λ is.
    no_more r.line (k + 6) (drop (k + 5) r.words) >>= λ none.
    Ok is

-- the faces of the first k rows; e is the line behind the last
abbrev pub faces : ℕ → ℕ → ℕ → List Row → Result (List (List ℕ)) OffFault
faces e m k rows = each (face m) e k rows
