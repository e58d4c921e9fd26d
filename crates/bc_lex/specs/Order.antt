-- Where the lines of a text and the words of a line stand: in order, without overlap, and what stands between them.
use Rattle.std.specs.List.{list_all}
use Rattle.std.specs.Prelude.{◌≡◌, ◌⊎◌, ℕ, ◌+◌, Bool, true, false, not, ◌&&◌, List, [], ◌∷◌, ◌++◌, length, drop, Some, None, Ok, Err}
use Rattle.bc_num.specs.Tokens.{is_letter}
use Rattle.bc_num.specs.Numbers.{is_number}
use Rattle.bc_num.specs.Lines.{is_line_end}
use Rattle.bc_num.specs.Words.{capital, is_stop, is_gap, are_blanks, begins_word}
use Rattle.bc_lex.specs.Places.{LinePlace, WordPlace}
use Rattle.bc_lex.specs.Lines.{ALine, next_line, after_line}
use Rattle.bc_lex.specs.GWords.{AWord, next_word, after_word}
use Rattle.bc_lex.specs.Words.{PlainWord, is_comment, is_part, goes_on, next_plain, after_plain}

-- no LF is among the bytes
abbrev pub is_one_line : List ℕ → Bool
is_one_line [] = true
is_one_line (b ∷ bs) = not (is_line_end b) && is_one_line bs

-- an LF, or nothing at the end of the text
abbrev pub IsLineEnd : List ℕ → List ℕ → Type 0
IsLineEnd end rest = (end ≡ 10 ∷ []) ⊎ ((end ≡ []) × (rest ≡ []))

-- from p on the text has the bytes of l, the end of the line, and what the place behind has
pub record LineStands (p : LinePlace) (l : ALine) : Type 0 where
  pub end : List ℕ
  pub bytes : drop p.at p.text ≡ l.text ++ end ++ drop (after_line p).at p.text
  pub is_one_line : is_one_line l.text ≡ true
  pub is_end : IsLineEnd end (drop (after_line p).at p.text)
  pub behind : (after_line p).at ≡ p.at + length l.text + length end
  pub number : l.number ≡ p.number + 1
  pub number_behind : (after_line p).number ≡ p.number + 1
  pub text : (after_line p).text ≡ p.text

abbrev pub LinesStandInOrder : Type 0
LinesStandInOrder = (p : LinePlace) (l : ALine) → next_line p ≡ Some l → LineStands p l

-- no line comes exactly at the end of the text
abbrev pub LinesEnd : Type 0
LinesEnd = (p : LinePlace) → next_line p ≡ None → drop p.at p.text ≡ []

-- from p on the line has blanks and comments, the word's letter as it is written, blanks, the bytes of its number, which
-- begin at `from`, and what the place behind has
pub record WordStands (p : WordPlace) (w : AWord) : Type 0 where
  pub before : List ℕ
  pub letter : ℕ
  pub spaces : List ℕ
  pub bytes : drop p.at p.text ≡ before ++ letter ∷ (spaces ++ (w.number ++ drop (after_word p).at p.text))
  pub is_before : is_gap before ≡ true
  pub is_letter : is_letter letter ≡ true
  pub capital : w.letter ≡ capital letter
  pub are_spaces : are_blanks spaces ≡ true
  pub is_number : is_number w.number ≡ true
  pub from : w.from ≡ p.at + length before + 1 + length spaces
  pub behind : (after_word p).at ≡ w.from + length w.number
  pub line : w.line ≡ p.line
  pub nth : w.nth ≡ p.nth + 1
  pub line_behind : (after_word p).line ≡ p.line
  pub nth_behind : (after_word p).nth ≡ p.nth + 1
  pub text : (after_word p).text ≡ p.text

abbrev pub WordsStandInOrder : Type 0
WordsStandInOrder = (p : WordPlace) (w : AWord) → next_word p ≡ Ok (Some w) → WordStands p w

-- the end of the line, or `;`
abbrev pub is_words_end : List ℕ → Bool
is_words_end [] = true
is_words_end (b ∷ bs) = is_stop b

-- from p on the line has blanks and comments and the end of its words
pub record WordsEndAt (p : WordPlace) : Type 0 where
  pub before : List ℕ
  pub rest : List ℕ
  pub bytes : drop p.at p.text ≡ before ++ rest
  pub is_before : is_gap before ≡ true
  pub is_end : is_words_end rest ≡ true

-- no word comes exactly at the end of the line's words
abbrev pub WordsEnd : Type 0
WordsEnd = (p : WordPlace) → next_word p ≡ Ok None → WordsEndAt p

-- from p on the line has blanks and comments, and bytes that begin no word
pub record BreaksAt (p : WordPlace) (e : ℕ × ℕ) : Type 0 where
  pub before : List ℕ
  pub byte : ℕ
  pub rest : List ℕ
  pub bytes : drop p.at p.text ≡ before ++ byte ∷ rest
  pub is_before : is_gap before ≡ true
  pub is_no_end : is_stop byte ≡ false
  pub is_no_word : begins_word byte rest ≡ false
  pub line : e.0 ≡ p.line
  pub nth : e.1 ≡ p.nth + 1

abbrev pub WordsBreak : Type 0
WordsBreak = (p : WordPlace) (e : ℕ × ℕ) → next_word p ≡ Err e → BreaksAt p e

-- bytes that begin no word are answered again
abbrev pub BreaksAgain : Type 0
BreaksAgain = (p : WordPlace) (e : ℕ × ℕ) → next_word p ≡ Err e → next_word (after_word p) ≡ Err e

-- ---- the words between blanks

-- one or more bytes of words, and nothing else
abbrev pub is_whole_word : List ℕ → Bool
is_whole_word w = goes_on w && list_all is_part w

-- from p on the line has blanks, the word, which begins at `from`, and what the place behind has, which does not go on with
-- the word
pub record PlainStands (p : WordPlace) (w : PlainWord) : Type 0 where
  pub before : List ℕ
  pub bytes : drop p.at p.text ≡ before ++ (w.text ++ drop (after_plain p).at p.text)
  pub are_before : are_blanks before ≡ true
  pub is_word : is_whole_word w.text ≡ true
  pub is_whole : goes_on (drop (after_plain p).at p.text) ≡ false
  pub from : w.from ≡ p.at + length before
  pub behind : (after_plain p).at ≡ w.from + length w.text
  pub line : w.line ≡ p.line
  pub nth : w.nth ≡ p.nth + 1
  pub line_behind : (after_plain p).line ≡ p.line
  pub nth_behind : (after_plain p).nth ≡ p.nth + 1
  pub text : (after_plain p).text ≡ p.text

abbrev pub PlainStandInOrder : Type 0
PlainStandInOrder = (p : WordPlace) (w : PlainWord) → next_plain p ≡ Some w → PlainStands p w

-- the end of the line, or `#`
abbrev pub is_plain_end : List ℕ → Bool
is_plain_end [] = true
is_plain_end (b ∷ bs) = is_comment b

-- from p on the line has blanks and the end of its words
pub record PlainEndsAt (p : WordPlace) : Type 0 where
  pub before : List ℕ
  pub rest : List ℕ
  pub bytes : drop p.at p.text ≡ before ++ rest
  pub are_before : are_blanks before ≡ true
  pub is_end : is_plain_end rest ≡ true

-- no word comes exactly at the end of the line's words
abbrev pub PlainEnd : Type 0
PlainEnd = (p : WordPlace) → next_plain p ≡ None → PlainEndsAt p
