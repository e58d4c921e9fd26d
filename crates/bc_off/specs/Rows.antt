-- The rows of a text: its lines that have words, each with its number and its words. Lines without words are skipped.
use Rattle.std.specs.Prelude.{ℕ, zero, suc, ◌+◌, List, [], ◌∷◌, length, Result, Ok, Err}
use Rattle.bc_num.specs.Lines.{lines}
use Rattle.bc_lex.specs.Words.{words_of}
use Rattle.bc_off.specs.declared.fault.OffFault.{OffFault}
use Rattle.bc_off.specs.declared.fault.OffFault.TheVariants.{Short}
use Rattle.bc_off.specs.Answers.{◌>>=◌}

pub record Row : Type 0 where
  pub line : ℕ
  pub words : List (List ℕ)

-- line n with its words put before some rows, unless it has no words
abbrev pub row_before : ℕ → List (List ℕ) → List Row → List Row
row_before n [] rows = rows
row_before n (w ∷ ws) rows = record { line = n; words = w ∷ ws } ∷ rows

-- the rows of some lines, the first of which has the number n
abbrev pub rows_from : ℕ → List (List ℕ) → List Row
rows_from n [] = []
rows_from n (line ∷ rest) = row_before n (words_of line) (rows_from (n + 1) rest)

abbrev pub rows : List ℕ → List Row
rows text = rows_from 1 (lines text)

-- the number of the line behind the last
abbrev pub end_line : List ℕ → ℕ
end_line text = length (lines text) + 1

-- what f reads from each of the first k rows; e is the line behind the last. Short: the text ends before
abbrev pub each : {A : Type 0} → (Row → Result A OffFault) → ℕ → ℕ → List Row → Result (List A) OffFault
each f e zero rows = Ok []
each f e (suc k) [] = Err (Short e 0)
each f e (suc k) (r ∷ rows) = f r >>= λ x. each f e k rows >>= λ xs. Ok (x ∷ xs)
