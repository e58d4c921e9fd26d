-- Values of the definitions, for the reader: the lines and tokens of short texts, points that are the same or not.
use Rattle.std.specs.Prelude.{◌≡◌, pos, negsuc, [], ◌∷◌, Some, None, codes}
use Rattle.std.proofs.Common.{refl, arith}
use Rattle.std.proofs.lemmas.Int.{ints}
use Rattle.bc_num.specs.declared.p2.P2.{P2}
use Rattle.bc_num.specs.Lines.{lines}
use Rattle.bc_num.specs.Tokens.{tokens_of}
use Rattle.bc_num.specs.Points.{IsSamePoint2}

-- ---- lines
-- a text with no byte has no line
lines-empty : lines (codes "") ≡ []
lines-empty = refl

-- an empty line in the middle counts
lines-inner : lines (codes "ab\n\nc") ≡ codes "ab" ∷ [] ∷ codes "c" ∷ []
lines-inner = refl

-- an LF at the end begins no line
lines-ended : lines (codes "ab\n") ≡ codes "ab" ∷ []
lines-ended = refl

-- a CR is part of its line
lines-carriage : lines (codes "a\r\n\n") ≡ codes "a\r" ∷ [] ∷ []
lines-carriage = refl

-- ---- tokens
-- names, numbers with their sign, and marks; blanks and a comment are free
tokens-call : tokens_of (codes "cube([1, -2]); // end") ≡ Some (codes "cube" ∷ codes "(" ∷ codes "[" ∷ codes "1" ∷ codes "," ∷ codes "-2" ∷ codes "]" ∷ codes ")" ∷ codes ";" ∷ [])
tokens-call = refl

-- a number ends before a letter
tokens-number_name : tokens_of (codes "12a_3") ≡ Some (codes "12" ∷ codes "a_3" ∷ [])
tokens-number_name = refl

-- a comment ends with its line
tokens-comment : tokens_of (codes "//a\nb") ≡ Some (codes "b" ∷ [])
tokens-comment = refl

-- a sign with no digit, a lone slash, and a byte outside the alphabet begin no token
tokens-sign : tokens_of (codes "a - 1") ≡ None
tokens-sign = refl

tokens-slash : tokens_of (codes "1 / 2") ≡ None
tokens-slash = refl

tokens-outside : tokens_of (codes "a.b") ≡ None
tokens-outside = refl

-- ---- points
-- (1/3, -2/3), in two ways
third : P2
third = record { x = pos 1; y = negsuc 1; w = pos 3; positive = omega (arith, ints) }

two_sixths : P2
two_sixths = record { x = pos 2; y = negsuc 3; w = pos 6; positive = omega (arith, ints) }

point-same : IsSamePoint2 third two_sixths
unfolding third two_sixths
point-same = record { along_x = refl; along_y = refl }

-- (1/3, -2/3) is not (2/3, -2/3)
two_thirds : P2
two_thirds = record { x = pos 2; y = negsuc 1; w = pos 3; positive = omega (arith, ints) }

point-other : IsSamePoint2 third two_thirds → ⊥
unfolding third two_thirds
point-other h = let e = h.along_x in absurd (omega (arith, ints))
