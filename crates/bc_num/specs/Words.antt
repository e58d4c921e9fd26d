-- The words of a line of a contour text, and the comments between them, after RS274/NGC with this project's profile: a
-- word is a letter in either case, blanks or none, and a number that is taken as long as it goes; `(` to the next `)` on
-- the line is a comment, and the first `;` outside one ends the words.
use Rattle.std.specs.Prelude.{ℕ, zero, suc, ◌+◌, ◌-◌, Bool, true, false, ◌&&◌, ◌||◌, nat_eq, nat_le, nat_lt, List, [], ◌∷◌, take, drop, if◌then◌else◌}
use Rattle.bc_num.specs.Tokens.{is_letter}
use Rattle.bc_num.specs.Numbers.{number_length}

-- space, tab and CR: a blank within a line
abbrev pub is_line_blank : ℕ → Bool
is_line_blank b = nat_eq b 32 || (nat_eq b 9 || nat_eq b 13)

-- a letter as a capital
abbrev pub capital : ℕ → ℕ
capital b = if nat_le 97 b && nat_le b 122 then b - 32 else b

-- `(`
abbrev pub is_open : ℕ → Bool
is_open b = nat_eq b 40

-- `)`
abbrev pub is_close : ℕ → Bool
is_close b = nat_eq b 41

-- `;`
abbrev pub is_stop : ℕ → Bool
is_stop b = nat_eq b 59

-- a letter, as a capital, and the number behind it
pub record Word : Type 0 where
  pub letter : ℕ
  pub number : List ℕ

-- the words of a line: they end, or bytes come that begin no word, or one more word comes
pub data Words : Type 0 where
  ended : Words
  broken : Words
  word : Word → Words → Words

-- how many blanks stand at the front
abbrev pub blanks : List ℕ → ℕ
blanks [] = 0
blanks (b ∷ bs) = if is_line_blank b then blanks bs + 1 else 0

-- how long the number behind a letter is, and 0 where none comes
abbrev pub length_behind : List ℕ → ℕ
length_behind bs = number_length (drop (blanks bs) bs)

abbrev pub number_behind : List ℕ → List ℕ
number_behind bs = take (length_behind bs) (drop (blanks bs) bs)

-- b is a letter, and blanks or none and a number stand behind it
abbrev pub begins_word : ℕ → List ℕ → Bool
begins_word b bs = is_letter b && nat_lt 0 (length_behind bs)

abbrev mutual
  -- the words of a line's bytes behind the first k, which belong to the word before. The count goes down byte by byte, so
  -- that each step goes on with the rest of the list, which is what a definition by recursion must do
  pub words : ℕ → List ℕ → Words
  words k [] = ended
  words (suc k) (b ∷ bs) = words k bs
  words zero (b ∷ bs) =
      if is_line_blank b then words 0 bs
      else (if is_open b then words_behind_comment bs
      else (if is_stop b then ended
      else (if begins_word b bs then word (record { letter = capital b; number = number_behind bs }) (words (blanks bs + length_behind bs) bs)
      else broken)))

  -- the words behind the end of a comment; where nothing ends it, its `(` begins no word
  pub words_behind_comment : List ℕ → Words
  words_behind_comment [] = broken
  words_behind_comment (b ∷ bs) = if is_close b then words 0 bs else words_behind_comment bs

abbrev mutual
  -- blanks and whole comments, and nothing else
  pub is_gap : List ℕ → Bool
  is_gap [] = true
  is_gap (b ∷ bs) = if is_line_blank b then is_gap bs else is_open b && closes_comment bs

  -- what stands behind the `(` of a comment: its bytes, its `)` and a gap
  pub closes_comment : List ℕ → Bool
  closes_comment [] = false
  closes_comment (b ∷ bs) = if is_close b then is_gap bs else closes_comment bs

-- blanks and nothing else
abbrev pub are_blanks : List ℕ → Bool
are_blanks [] = true
are_blanks (b ∷ bs) = is_line_blank b && are_blanks bs

-- the first byte that is no blank is `%`
abbrev pub is_ignored : List ℕ → Bool
is_ignored [] = false
is_ignored (b ∷ bs) = if is_line_blank b then is_ignored bs else nat_eq b 37

-- the words of a line; an ignored line has none
abbrev pub line_words : List ℕ → Words
line_words line = if is_ignored line then ended else words 0 line
