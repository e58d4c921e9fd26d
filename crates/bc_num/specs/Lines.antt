-- The lines of a byte text.
use Rattle.std.specs.Prelude.{ℕ, Bool, nat_eq, List, [], ◌∷◌, if◌then◌else◌}

-- LF
abbrev pub is_line_end : ℕ → Bool
is_line_end b = nat_eq b 10

-- a byte put before the first of some lines
abbrev pub put_before : ℕ → List (List ℕ) → List (List ℕ)
put_before b [] = (b ∷ []) ∷ []
put_before b (l ∷ ls) = (b ∷ l) ∷ ls

-- the lines of a text: it is cut at each LF, and an empty piece behind the last LF is no line
abbrev pub lines : List ℕ → List (List ℕ)
lines [] = []
lines (b ∷ bs) = if is_line_end b then [] ∷ lines bs else put_before b (lines bs)
