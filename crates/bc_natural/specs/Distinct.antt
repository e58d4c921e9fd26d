-- A list without what it has twice.
use Rattle.std.specs.Prelude.{Bool, not, List, [], ◌∷◌, filter}

-- each element where it stands first, without those behind it that are the same
abbrev pub distinct : {X : Type 0} → (X → X → Bool) → List X → List X
distinct same [] = []
distinct same (x ∷ xs) = x ∷ filter (λ y. not (same x y)) (distinct same xs)
