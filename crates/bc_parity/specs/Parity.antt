-- Odd and even numbers.
use Rattle.std.specs.Prelude.{ℕ, zero, suc, Bool, true, false, not}

-- exactly one of the two
abbrev pub xor : Bool → Bool → Bool
xor true b = not b
xor false b = b

abbrev pub is_odd : ℕ → Bool
is_odd zero = false
is_odd (suc n) = not (is_odd n)

-- 1 where it holds
abbrev pub count : Bool → ℕ
count true = 1
count false = 0
