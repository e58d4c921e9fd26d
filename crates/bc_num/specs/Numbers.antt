-- The numbers of a boundary text, in RS274/NGC's form of a real number without expressions: an optional sign, then
-- digits with at most one point among, before or after them, at least one digit in all. An exponent makes no number.
use Rattle.std.specs.Prelude.{ℕ, zero, suc, ◌+◌, ◌*◌, ◌-◌, Bool, false, not, ◌&&◌, ◌||◌, nat_eq, nat_lt, List, [], ◌∷◌, length, take, drop, if◌then◌else◌}
use Rattle.bc_num.specs.Tokens.{is_digit}

-- `+` or `-`
abbrev pub is_sign : ℕ → Bool
is_sign b = nat_eq b 43 || nat_eq b 45

-- `.`
abbrev pub is_point : ℕ → Bool
is_point b = nat_eq b 46

-- how many digits stand at the front
abbrev pub digits : List ℕ → ℕ
digits [] = 0
digits (b ∷ bs) = if is_digit b then digits bs + 1 else 0

-- a word without its sign
abbrev pub unsigned : List ℕ → List ℕ
unsigned [] = []
unsigned (b ∷ bs) = if is_sign b then bs else b ∷ bs

-- the digits before the point
abbrev pub whole_part : List ℕ → List ℕ
whole_part w = take (digits (unsigned w)) (unsigned w)

-- what stands behind them: nothing, or the point and the digits behind it
abbrev pub point_part : List ℕ → List ℕ
point_part w = drop (digits (unsigned w)) (unsigned w)

-- nothing, or a point and digits; and with the n digits before, at least one digit
abbrev pub ends_number : ℕ → List ℕ → Bool
ends_number n [] = nat_lt 0 n
ends_number n (b ∷ bs) = is_point b && (nat_eq (digits bs) (length bs) && nat_lt 0 (n + length bs))

-- the word is a number
abbrev pub is_number : List ℕ → Bool
is_number w = ends_number (digits (unsigned w)) (point_part w)

-- a digit other than 0 stands there
abbrev pub has_nonzero : List ℕ → Bool
has_nonzero [] = false
has_nonzero (b ∷ bs) = not (nat_eq b 48) || has_nonzero bs

-- the value that digits say behind n
abbrev pub value : ℕ → List ℕ → ℕ
value n [] = n
value n (b ∷ bs) = value (10 * n + (b - 48)) bs

-- ---- at the front of some bytes: how long the longest number there is, and 0 where none begins

-- how many bytes go on behind n digits: a point and digits, or nothing
abbrev pub more : ℕ → List ℕ → ℕ
more n [] = 0
more n (b ∷ bs) = if is_point b && nat_lt 0 (n + digits bs) then digits bs + 1 else 0

abbrev pub unsigned_length : List ℕ → ℕ
unsigned_length bs = digits bs + more (digits bs) (drop (digits bs) bs)

-- one more byte, before a number of n bytes
abbrev pub signed_length : ℕ → ℕ
signed_length zero = 0
signed_length (suc n) = suc n + 1

abbrev pub number_length : List ℕ → ℕ
number_length [] = 0
number_length (b ∷ bs) = if is_sign b then signed_length (unsigned_length bs) else unsigned_length (b ∷ bs)
