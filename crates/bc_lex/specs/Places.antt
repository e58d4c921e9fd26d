-- The places between the lines of a text, between the words of a line, and between the tokens of a text.
use Rattle.std.specs.Prelude.{ℕ, List}

-- a place in a text, behind `number` lines: `at` bytes of it came
pub record LinePlace : Type 0 where
  pub text : List ℕ
  pub at : ℕ
  pub number : ℕ

-- a place in the text of the line with the number `line`, behind `nth` words: `at` bytes of it came
pub record WordPlace : Type 0 where
  pub line : ℕ
  pub text : List ℕ
  pub at : ℕ
  pub nth : ℕ

-- a place in a text: `at` bytes of it came, it is in the line of this number, and behind `nth` tokens
pub record TokenPlace : Type 0 where
  pub text : List ℕ
  pub at : ℕ
  pub line : ℕ
  pub nth : ℕ
