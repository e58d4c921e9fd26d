-- The generated boundary texts: a stair of n steps as an OFF text, and a plate with n round holes as a contour text. (This
-- project's own.)
use Rattle.std.specs.Prelude.{ℕ, ◌+◌, ◌-◌, ◌*◌, nat_eq, List, [], ◌∷◌, ◌++◌, map, codes, if◌then◌else◌}
use Rattle.std.specs.Fmt.{decimal}
use Rattle.std.specs.List.{flat_map, join_with_byte, range_with_len}

-- ---- a stair

-- numbers parted by one blank, and LF
abbrev pub row : List ℕ → List ℕ
row ns = join_with_byte 32 (map decimal ns) ++ codes "\n"

-- the two places of step i, from 1, at depth y
abbrev pub step : ℕ → ℕ → List (List ℕ)
step y i = ((i - 1) ∷ y ∷ i ∷ []) ∷ (i ∷ y ∷ i ∷ []) ∷ []

-- the places round a stair of n steps, at depth y: each its x, y and z
abbrev pub outline : ℕ → ℕ → List (List ℕ)
outline n y = (0 ∷ y ∷ 0 ∷ []) ∷ (flat_map (step y) (range_with_len 1 n) ++ (n ∷ y ∷ 0 ∷ []) ∷ [])

-- the number of these places
abbrev pub outline_length : ℕ → ℕ
outline_length n = 2 * n + 2

-- the face of m places, the first of which has the number i: how many corners, and these
abbrev pub front : ℕ → ℕ → List ℕ
front m i = m ∷ range_with_len i m

-- round m places: behind place k comes place k + 1, and behind the last the first
abbrev pub next : ℕ → ℕ → ℕ
next m k = if nat_eq (k + 1) m then 0 else k + 1

-- the face between place k and the next of the one outline and the same of the other, whose numbers are m more
abbrev pub side : ℕ → ℕ → List ℕ
side m k = 4 ∷ k ∷ next m k ∷ (m + next m k) ∷ (m + k) ∷ []

-- the two outlines of m places, and what is between them
abbrev pub faces : ℕ → List (List ℕ)
faces m = front m 0 ∷ front m m ∷ map (side m) (range_with_len 0 m)

-- vertices, faces and edges; edges are not counted
abbrev pub counts : ℕ → List ℕ
counts m = (2 * m) ∷ (m + 2) ∷ 0 ∷ []

-- the stair between depths 0 and 10
abbrev pub off_text : ℕ → List ℕ
off_text n =
    let m = outline_length n in
    codes "OFF " ++ flat_map row (counts m ∷ (outline n 0 ++ (outline n 10 ++ faces m)))

-- ---- a plate with holes

-- a word for the motion, and the place to move to
abbrev pub move : List ℕ → ℕ → ℕ → List ℕ
move g x y = g ++ (codes " X" ++ (decimal x ++ (codes " Y" ++ decimal y)))

-- the rectangle of the plate: 20 for each hole, by 20
abbrev pub rectangle : ℕ → List (List ℕ)
rectangle n =
    move (codes "G00") 0 0
    ∷ move (codes "G01") (20 * n) 0
    ∷ move (codes "G01") (20 * n) 20
    ∷ move (codes "G01") 0 20
    ∷ move (codes "G01") 0 0
    ∷ []

-- hole i, from 0: the full circle of radius 5 round (20 i + 10, 10)
abbrev pub hole : ℕ → List (List ℕ)
hole i = let x = 20 * i + 15 in move (codes "G00") x 10 ∷ (move (codes "G03") x 10 ++ codes " I-5 J0") ∷ []

-- a line and its LF
abbrev pub ended : List ℕ → List ℕ
ended line = line ++ codes "\n"

-- the plate with n holes
abbrev pub contour_text : ℕ → List ℕ
contour_text n = flat_map ended (rectangle n ++ (flat_map hole (range_with_len 0 n) ++ codes "M30" ∷ []))
