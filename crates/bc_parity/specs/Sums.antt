-- Whether an odd number of the elements of a list pass a test.
use Rattle.std.specs.Prelude.{Bool, false, List, [], ◌∷◌}
use Rattle.bc_parity.specs.Parity.{xor}

abbrev pub odd : {A : Type 0} → (A → Bool) → List A → Bool
odd test [] = false
odd test (x ∷ xs) = xor (test x) (odd test xs)
