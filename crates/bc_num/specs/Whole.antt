-- The whole value of a number (this project's own rule): the digits behind the point must all be 0, and a value past 2^62
-- in size stays at 2^62.
use Rattle.std.specs.Prelude.{ℕ, ◌^◌, Bool, false, ◌&&◌, nat_eq, nat_lt, min, List, [], ◌∷◌, length, drop, Option, Some, None, option_map, ℤ, pos, neg_ℤ, Result, Ok, Err, if◌then◌else◌}
use Rattle.bc_num.specs.Numbers.{digits, is_number, whole_part, point_part, has_nonzero, value}
use Rattle.bc_num.specs.declared.whole.NumFault.{NumFault}
use Rattle.bc_num.specs.declared.whole.NumFault.TheVariants.{BadWord, NotWhole}

abbrev pub is_minus : List ℕ → Bool
is_minus [] = false
is_minus (b ∷ bs) = nat_eq b 45

abbrev pub with_minus : Bool → ℕ → ℤ
with_minus minus n = if minus then neg_ℤ (pos n) else pos n

-- what the digits before the point say, with the word's sign
abbrev pub whole_value : List ℕ → ℤ
whole_value w = with_minus (is_minus w) (min (2 ^ 62) (value 0 (whole_part w)))

-- a digit behind the point is not 0
abbrev pub has_fraction : List ℕ → Bool
has_fraction w = has_nonzero (drop 1 (point_part w))

-- the value that a word says, or why it says none
abbrev pub whole : List ℕ → Result ℤ NumFault
whole w = if is_number w then (if has_fraction w then Err NotWhole else Ok (whole_value w)) else Err BadWord

-- one or more digits and nothing else: the value that they say
abbrev pub digits_of : List ℕ → Option ℕ
digits_of bs = if nat_lt 0 (length bs) && nat_eq (digits bs) (length bs) then Some (value 0 bs) else None

-- the same, no more than 2^62
abbrev pub capped_digits : List ℕ → Option ℕ
capped_digits bs = option_map (min (2 ^ 62)) (digits_of bs)
