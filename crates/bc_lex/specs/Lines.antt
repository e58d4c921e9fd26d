-- What the next line at a place of a text is, and the place behind it.
use Rattle.std.specs.Prelude.{ℕ, ◌+◌, min, List, [], ◌∷◌, length, take, drop, Option, Some, None, if◌then◌else◌}
use Rattle.bc_num.specs.Lines.{is_line_end}
use Rattle.bc_lex.specs.Places.{LinePlace}
use Rattle.bc_lex.specs.declared.lines.Line.{Line}

-- how many bytes stand before the first LF
abbrev pub line_length : List ℕ → ℕ
line_length [] = 0
line_length (b ∷ bs) = if is_line_end b then 0 else line_length bs + 1

-- a line as its number and its bytes
pub record ALine : Type 0 where
  pub number : ℕ
  pub text : List ℕ

-- the first line of some bytes, with the number n
abbrev pub line_in : ℕ → List ℕ → Option ALine
line_in n [] = None
line_in n (b ∷ bs) = Some (record { number = n; text = take (line_length (b ∷ bs)) (b ∷ bs) })

abbrev pub next_line : LinePlace → Option ALine
next_line p = line_in (p.number + 1) (drop p.at p.text)

abbrev pub after_in : LinePlace → List ℕ → LinePlace
after_in p [] = p
after_in p (b ∷ bs) = record { text = p.text; at = min (length p.text) (p.at + line_length (b ∷ bs) + 1); number = p.number + 1 }

-- the place behind the next line and its LF
abbrev pub after_line : LinePlace → LinePlace
after_line p = after_in p (drop p.at p.text)

abbrev pub line : Line → ALine
line l = record { number = l.number; text = l.text.now }
