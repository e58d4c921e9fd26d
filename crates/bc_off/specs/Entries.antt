-- What the next words of a row say as numbers. In the faults, l is the row's line, and n the number of the first of the
-- words there.
use Rattle.std.specs.Prelude.{ℕ, ℤ, List, [], ◌∷◌, Result, Ok, Err, if◌then◌else◌}
use Rattle.bc_num.specs.Whole.{whole}
use Rattle.bc_num.specs.declared.whole.NumFault.{NumFault}
use Rattle.bc_num.specs.declared.whole.NumFault.TheVariants as nums
use Rattle.bc_solid.specs.Contours.{is_far}
use Rattle.bc_off.specs.declared.fault.OffFault.{OffFault}
use Rattle.bc_off.specs.declared.fault.OffFault.TheVariants.{BadWord, NotWhole, Short, TooFar, Extra}
use Rattle.bc_off.specs.Answers.{◌>>=◌}

abbrev pub whole_of : ℕ → ℕ → Result ℤ NumFault → Result ℤ OffFault
whole_of l n (Ok v) = Ok v
whole_of l n (Err nums.BadWord) = Err (BadWord l n)
whole_of l n (Err nums.NotWhole) = Err (NotWhole l n)

-- a whole number. Short: there is no word; BadWord, NotWhole: the word is no number, or no whole one
abbrev pub number : ℕ → ℕ → List (List ℕ) → Result ℤ OffFault
number l n [] = Err (Short l n)
number l n (w ∷ ws) = whole_of l n (whole w)

abbrev pub near : ℕ → ℕ → ℤ → Result ℤ OffFault
near l n v = if is_far v then Err (TooFar l n) else Ok v

-- a whole number. TooFar: it is past 1023
abbrev pub coordinate : ℕ → ℕ → List (List ℕ) → Result ℤ OffFault
coordinate l n ws = number l n ws >>= near l n

-- nothing. Extra: there is a word
abbrev pub no_more : ℕ → ℕ → List (List ℕ) → Result (Unit {0}) OffFault
no_more l n [] = Ok tt
no_more l n (w ∷ ws) = Err (Extra l n)
