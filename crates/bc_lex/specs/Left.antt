-- The lines and words that come one after another are those of the definitions on whole lists: what is left at a place is
-- the next item and what is left behind it.
use Rattle.std.specs.Prelude.{◌≡◌, ℕ, List, [], ◌∷◌, drop, Option, Some, None, Result, Ok, Err}
use Rattle.bc_num.specs.Lines.{lines}
use Rattle.bc_num.specs.Words.{Words, ended, broken, word, words, line_words}
use Rattle.bc_lex.specs.Places.{LinePlace, WordPlace}
use Rattle.bc_lex.specs.Lines.{ALine, next_line, after_line}
use Rattle.bc_lex.specs.GWords.{AWord, next_word, after_word, line_start}
use Rattle.bc_lex.specs.Words.{PlainWord, words_of, next_plain, after_plain, plain_line}

abbrev pub lines_left : LinePlace → List (List ℕ)
lines_left p = lines (drop p.at p.text)

abbrev pub line_then : Option ALine → List (List ℕ) → List (List ℕ)
line_then None rest = []
line_then (Some l) rest = l.text ∷ rest

-- the next line is the first that is left, and behind it the others are left
abbrev pub NextLineIsFirst : Type 0
NextLineIsFirst = (p : LinePlace) → lines_left p ≡ line_then (next_line p) (lines_left (after_line p))

abbrev pub words_left : WordPlace → Words
words_left p = words 0 (drop p.at p.text)

abbrev pub word_then : Result (Option AWord) (ℕ × ℕ) → Words → Words
word_then (Ok None) rest = ended
word_then (Ok (Some w)) rest = word (record { letter = w.letter; number = w.number }) rest
word_then (Err e) rest = broken

-- the next word is the first that is left, and behind it the others are left
abbrev pub NextWordIsFirst : Type 0
NextWordIsFirst = (p : WordPlace) → words_left p ≡ word_then (next_word p) (words_left (after_word p))

-- at the start of a line all its words are left
abbrev pub AllWordsAreLeft : Type 0
AllWordsAreLeft = (l : ALine) → words_left (line_start l) ≡ line_words l.text

-- ---- the words between blanks

abbrev pub plain_left : WordPlace → List (List ℕ)
plain_left p = words_of (drop p.at p.text)

abbrev pub plain_then : Option PlainWord → List (List ℕ) → List (List ℕ)
plain_then None rest = []
plain_then (Some w) rest = w.text ∷ rest

-- the next word is the first that is left, and behind it the others are left
abbrev pub NextPlainIsFirst : Type 0
NextPlainIsFirst = (p : WordPlace) → plain_left p ≡ plain_then (next_plain p) (plain_left (after_plain p))

-- at the start of a line all its words are left
abbrev pub AllPlainAreLeft : Type 0
AllPlainAreLeft = (l : ALine) → plain_left (plain_line l) ≡ words_of l.text
