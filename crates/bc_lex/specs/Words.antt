-- The words of a line: they are cut at blanks, and stand before the first `#`, which begins a comment. And what the next
-- word at a place of a line is, and the place behind it.
use Rattle.std.specs.Prelude.{ℕ, ◌+◌, Bool, false, not, ◌||◌, nat_eq, List, [], ◌∷◌, take, drop, Option, Some, None, if◌then◌else◌}
use Rattle.bc_num.specs.Lines.{put_before}
use Rattle.bc_num.specs.Words.{is_line_blank, blanks}
use Rattle.bc_lex.specs.Places.{WordPlace}
use Rattle.bc_lex.specs.Lines.{ALine}
use Rattle.bc_lex.specs.declared.words.Word.{Word}

-- `#`
abbrev pub is_comment : ℕ → Bool
is_comment b = nat_eq b 35

-- a byte of a word
abbrev pub is_part : ℕ → Bool
is_part b = not (is_comment b || is_line_blank b)

-- a word begins the bytes, or goes on in them
abbrev pub goes_on : List ℕ → Bool
goes_on [] = false
goes_on (b ∷ bs) = is_part b

-- a byte of a word put before some bytes and their words: it begins their first word, or is a word of its own
abbrev pub with_byte : ℕ → List ℕ → List (List ℕ) → List (List ℕ)
with_byte b bs ws = if goes_on bs then put_before b ws else (b ∷ []) ∷ ws

-- the words of a line
abbrev pub words_of : List ℕ → List (List ℕ)
words_of [] = []
words_of (b ∷ bs) = if is_comment b then [] else (if is_line_blank b then words_of bs else with_byte b bs (words_of bs))

-- ---- one after another

-- how many bytes of a word stand at the front
abbrev pub word_length : List ℕ → ℕ
word_length [] = 0
word_length (b ∷ bs) = if is_part b then word_length bs + 1 else 0

-- a word with its places: its line, its number there, and where it begins in the line
pub record PlainWord : Type 0 where
  pub line : ℕ
  pub nth : ℕ
  pub from : ℕ
  pub text : List ℕ

-- where the next word begins
abbrev pub plain_start : WordPlace → ℕ
plain_start p = p.at + blanks (drop p.at p.text)

-- the word of n bytes that begins there, and none where n is 0
abbrev pub plain_at : WordPlace → ℕ → Option PlainWord
plain_at p n =
    if nat_eq n 0 then None
    else Some (record { line = p.line; nth = p.nth + 1; from = plain_start p; text = take n (drop (plain_start p) p.text) })

-- the next word; none at the end of the line's words
abbrev pub next_plain : WordPlace → Option PlainWord
next_plain p = plain_at p (word_length (drop (plain_start p) p.text))

abbrev pub after_plain_at : WordPlace → ℕ → WordPlace
after_plain_at p n =
    if nat_eq n 0 then p
    else record { line = p.line; text = p.text; at = plain_start p + n; nth = p.nth + 1 }

-- the place behind the next word
abbrev pub after_plain : WordPlace → WordPlace
after_plain p = after_plain_at p (word_length (drop (plain_start p) p.text))

-- the place before a line's first word
abbrev pub plain_line : ALine → WordPlace
plain_line l = record { line = l.number; text = l.text; at = 0; nth = 0 }

abbrev pub plain : Word → PlainWord
plain w = record { line = w.line; nth = w.nth; from = w.from; text = w.text.now }
