-- The definitions of numbers and words of contour lines at a few texts.
use Rattle.std.proofs.Common.{◌≡◌, pos, Ok, Err, refl}
use Rattle.std.specs.Prelude.{codes}
use Rattle.bc_num.specs.Numbers.{number_length}
use Rattle.bc_num.specs.Whole.{whole}
use Rattle.bc_num.specs.declared.whole.NumFault.TheVariants.{BadWord, NotWhole}
use Rattle.bc_num.specs.Words.{line_words, ended, broken, word}

-- a number is taken as long as it goes
number-front : number_length (codes "1.5.5") ≡ 3
number-front = refl

number-zero : whole (codes "-0.000") ≡ Ok (pos 0)
number-zero = refl

number-exponent : whole (codes "1e3") ≡ Err BadWord
number-exponent = refl

number-fraction : whole (codes "1.50") ≡ Err NotWhole
number-fraction = refl

-- a letter may stand apart from its number, and `;` inside a comment ends no words
words-apart : line_words (codes "g 0(;)X1Y2;Z") ≡ word (record { letter = 71; number = codes "0" }) (word (record { letter = 88; number = codes "1" }) (word (record { letter = 89; number = codes "2" }) ended))
words-apart = refl

-- a comment between a letter and its number is no blank
words-comment : line_words (codes "X(c)5") ≡ broken
words-comment = refl

-- an unclosed `(` begins no word
words-open : line_words (codes "X1 (") ≡ word (record { letter = 88; number = codes "1" }) broken
words-open = refl
