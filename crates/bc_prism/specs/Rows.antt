-- The lines of a text of layers, each with its place and with what it is.
use Rattle.std.specs.Prelude.{ℕ, ◌+◌, min, Bool, ◌&&◌, List, [], ◌∷◌, length, codes, bytes_eq, ℤ, pos, negsuc, Result, Ok, Err, if◌then◌else◌}
use lib.Signed.{le_z, lt_z}
use Rattle.bc_num.specs.declared.whole.NumFault.{NumFault}
use Rattle.bc_num.specs.Lines.{lines}
use Rattle.bc_num.specs.Whole.{whole}
use Rattle.bc_lex.specs.Words.{words_of}
use Rattle.bc_prism.specs.declared.row.Row.{Row}
use Rattle.bc_prism.specs.declared.row.Kind.{Kind}
use Rattle.bc_prism.specs.declared.row.Kind.TheVariants as kinds

-- from -1023 to 1023
abbrev pub in_range : ℤ → Bool
in_range z = le_z (negsuc 1022) z && le_z z (pos 1023)

-- what two whole numbers say, of which the first is to be below the second
abbrev pub between : Result ℤ NumFault → Result ℤ NumFault → Kind
between (Ok z0) (Ok z1) = if (in_range z0 && in_range z1) && lt_z z0 z1 then kinds.Layer z0 z1 else kinds.Bad
between (Ok z0) (Err f) = kinds.Bad
between (Err f) r = kinds.Bad

-- what the words behind `LAYER` say
abbrev pub heights : List (List ℕ) → Kind
heights [] = kinds.Bad
heights (a ∷ []) = kinds.Bad
heights (a ∷ b ∷ []) = between (whole a) (whole b)
heights (a ∷ b ∷ c ∷ ws) = kinds.Bad

-- what the words of a line say
abbrev pub kind_of : List (List ℕ) → Kind
kind_of [] = kinds.Empty
kind_of (w ∷ ws) = if bytes_eq w (codes "LAYER") then heights ws else kinds.Other

-- the rows of some lines of a text of `end` bytes, of which the first has this number and begins there
abbrev pub rows_from : ℕ → ℕ → ℕ → List (List ℕ) → List Row
rows_from end number at [] = []
rows_from end number at (l ∷ ls) =
    record { number = number; from = at; behind = min end (at + length l + 1); kind = kind_of (words_of l) } ∷ rows_from end (number + 1) (min end (at + length l + 1)) ls

-- the lines of a text: for each its number, where it begins, where the next one begins, and what it is
abbrev pub rows : List ℕ → List Row
rows text = rows_from (length text) 1 0 (lines text)
