-- Divisibility of integers, and greatest common divisors, by what they are.
use Rattle.std.specs.Prelude.{◌≡◌, ℤ, pos, ◌*ℤ◌, ◌≤ℤ◌}

-- z is a multiple of d
pub record Divides (d z : ℤ) : Type 0 where
  pub times : ℤ
  pub is : z ≡ times *ℤ d

-- g is the greatest common divisor of a and b: it divides both, each common divisor divides it, and it is not negative
pub record IsGcdOf (a b g : ℤ) : Type 0 where
  pub left : Divides g a
  pub right : Divides g b
  pub greatest : (d : ℤ) → Divides d a → Divides d b → Divides d g
  pub sign : pos 0 ≤ℤ g

-- the same of three numbers
pub record IsGcdOf3 (a b c g : ℤ) : Type 0 where
  pub first : Divides g a
  pub second : Divides g b
  pub third : Divides g c
  pub greatest : (d : ℤ) → Divides d a → Divides d b → Divides d c → Divides d g
  pub sign : pos 0 ≤ℤ g

-- the same of four numbers
pub record IsGcdOf4 (a b c d g : ℤ) : Type 0 where
  pub first : Divides g a
  pub second : Divides g b
  pub third : Divides g c
  pub fourth : Divides g d
  pub greatest : (e : ℤ) → Divides e a → Divides e b → Divides e c → Divides e d → Divides e g
  pub sign : pos 0 ≤ℤ g
