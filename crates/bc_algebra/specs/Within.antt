-- The one word for how far from 0 an integer may be, for every condition, bound and ghost field.
use Rattle.std.specs.Prelude.{ℕ, ℤ, ◌≤◌, nat_abs}

-- z is at most n and at least -n
pub record IsWithin (n : ℕ) (z : ℤ) : Type 0 where
  pub within : nat_abs z ≤ n
