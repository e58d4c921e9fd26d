-- The gap at the front of some bytes, as far as it was counted.
use Rattle.std.proofs.Common.{ℕ, zero, suc, ◌+◌, List, Option, Some, None}
use Rattle.bc_lex.specs.GWords.{gap, comment}

-- the whole gap, with n bytes before a comment of which k bytes came, and what is left of it
abbrev pub gap_if : ℕ → ℕ → Option ℕ → ℕ
gap_if n k None = n
gap_if n k (Some m) = n + (k + m)

-- the whole gap, where n bytes of it came, k bytes of an open comment, and the bytes bs are left
abbrev pub gap_with : ℕ → ℕ → List ℕ → ℕ
gap_with n zero bs = n + gap bs
gap_with n (suc k) bs = gap_if n (suc k) (comment bs)
