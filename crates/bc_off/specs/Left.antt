-- What is left of a text at a place between its lines, and of a row at a place between its words.
use Rattle.std.specs.Prelude.{◌≡◌, ◌≤◌, ℕ, zero, suc, ◌+◌, List, [], ◌∷◌, length, drop, Option, Some, None}
use Rattle.bc_lex.specs.Places.{LinePlace, WordPlace}
use Rattle.bc_lex.specs.Words.{after_plain}
use Rattle.bc_lex.specs.Left.{lines_left, plain_left}
use Rattle.bc_off.specs.Rows.{Row, rows_from}

abbrev pub rows_left : LinePlace → List Row
rows_left p = rows_from (p.number + 1) (lines_left p)

-- the number of the line behind the last
abbrev pub end_left : LinePlace → ℕ
end_left p = p.number + length (lines_left p) + 1

-- a line's words behind a place
abbrev pub row_at : WordPlace → Row
row_at p = record { line = p.line; words = plain_left p }

-- none, or a row that stands before others
abbrev pub row_then : Option WordPlace → List Row → List Row
row_then None rest = []
row_then (Some p) rest = row_at p ∷ rest

-- the words of p are all words of a line, which has at most n bytes
pub record IsRowStart (n : ℕ) (p : WordPlace) : Type 0 where
  pub first : p.nth ≡ 0
  pub short : length p.text ≤ n

-- the place k words behind
abbrev pub after_words : ℕ → WordPlace → WordPlace
after_words zero p = p
after_words (suc k) p = after_plain (after_words k p)

-- q is a place k words behind p, and k words stood there
pub record IsBehind (k : ℕ) (p q : WordPlace) : Type 0 where
  pub line : q.line ≡ p.line
  pub nth : q.nth ≡ p.nth + k
  pub text : q.text ≡ p.text
  pub words : plain_left q ≡ drop k (plain_left p)
