-- The two parts of a joined text: what stands before and behind the first line that is `====`.
use Rattle.std.specs.Prelude.{◌≡◌, ◌⊎◌, ℕ, ◌+◌, Bool, true, false, ◌||◌, List, [], ◌∷◌, ◌++◌, length, codes}
use Rattle.std.specs.List.{All}
use Rattle.std.specs.Str.{bytes_eq}
use Rattle.bc_num.specs.Lines.{lines}
use Rattle.bc_pair.specs.declared.split.Parts.{Parts}

-- `====`, with or without a CR behind it
abbrev pub is_separator : List ℕ → Bool
is_separator l = bytes_eq l (codes "====") || bytes_eq l (codes "====\r")

-- no line of the text separates parts
abbrev pub HasNoSeparator : List ℕ → Type 0
HasNoSeparator text = All (λ l. is_separator l ≡ false) (lines text)

-- behind these bytes a line begins
abbrev pub EndsLine : List ℕ → Type 0
EndsLine bytes = (bytes ≡ []) ⊎ ((front : List ℕ) × (bytes ≡ front ++ 10 ∷ []))

-- what stands behind a line is an LF and the rest, or nothing at the end of the text
abbrev pub IsBehindLine : List ℕ → List ℕ → Type 0
IsBehindLine bytes rest = ((bytes ≡ []) × (rest ≡ [])) ⊎ (bytes ≡ 10 ∷ rest)

-- two parts by their bytes, and the number of the line between them
pub record Two : Type 0 where
  pub first : List ℕ
  pub second : List ℕ
  pub line : ℕ

abbrev pub parts : Parts → Two
parts p = record { first = p.first.now; second = p.second.now; line = p.line }

-- the parts of the text
pub record ArePartsOf (text : List ℕ) (p : Two) : Type 0 where
  pub separator : List ℕ
  pub behind : List ℕ
  pub whole : text ≡ p.first ++ (separator ++ behind)
  -- the separator is a line, and the first of its kind
  pub begins : EndsLine p.first
  pub separates : is_separator separator ≡ true
  pub ends : IsBehindLine behind p.second
  pub none_before : HasNoSeparator p.first
  pub number : p.line ≡ length (lines p.first) + 1

-- a text has one pair of parts, and none where no line separates
abbrev pub OneSplit : Type 0
OneSplit = (text : List ℕ) (p q : Two) → ArePartsOf text p → ArePartsOf text q → p ≡ q

abbrev pub NoSplit : Type 0
NoSplit = (text : List ℕ) (p : Two) → ArePartsOf text p → HasNoSeparator text → ⊥
