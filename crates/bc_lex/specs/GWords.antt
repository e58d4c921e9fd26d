-- What the next word at a place of a contour line is, and the place behind it.
use Rattle.std.specs.Prelude.{ℕ, ◌+◌, ◌≤◌, List, [], ◌∷◌, length, take, drop, Option, Some, None, Result, Ok, Err, if◌then◌else◌}
use Rattle.bc_num.specs.Words.{is_line_blank, is_open, is_close, is_stop, is_ignored, capital, blanks, length_behind, begins_word}
use Rattle.bc_lex.specs.Places.{WordPlace}
use Rattle.bc_lex.specs.Lines.{ALine}
use Rattle.bc_lex.specs.declared.gwords.Front.{Front}
use Rattle.bc_lex.specs.declared.gwords.Front.TheVariants.{Nothing, Bad, Item}
use Rattle.bc_lex.specs.declared.gwords.GWord.{GWord}
use Rattle.bc_lex.specs.declared.gwords.BadAt.{BadAt}

-- the bytes of a comment and of the gap behind it, with its `(`; nothing where it is not closed
abbrev pub gap_of : Option ℕ → ℕ
gap_of None = 0
gap_of (Some n) = n + 1

abbrev pub one_more : Option ℕ → Option ℕ
one_more None = None
one_more (Some n) = Some (n + 1)

abbrev mutual
  -- how many bytes of blanks and whole comments stand at the front
  pub gap : List ℕ → ℕ
  gap [] = 0
  gap (b ∷ bs) = if is_line_blank b then gap bs + 1 else (if is_open b then gap_of (comment bs) else 0)

  -- how many bytes are left of a comment and of the gap behind it, where something ends the comment
  pub comment : List ℕ → Option ℕ
  comment [] = None
  comment (b ∷ bs) = if is_close b then Some (gap bs + 1) else one_more (comment bs)

-- what stands at the front of bytes that no gap begins: no word any more, bytes that begin none, or a word by its letter,
-- where its number begins and how long that is
abbrev pub found : List ℕ → Front
found [] = Nothing
found (b ∷ bs) = if is_stop b then Nothing else (if begins_word b bs then Item (capital b) (blanks bs + 1) (length_behind bs) else Bad)

-- what was found is within the bytes
abbrev pub FitsIn : Front → List ℕ → Type 0
FitsIn (Item letter k n) bytes = (1 ≤ n) × (k + n ≤ length bytes)
FitsIn _ bytes = Unit {0}

-- a word with its places: its line, its number there, and where its number begins in the line
pub record AWord : Type 0 where
  pub line : ℕ
  pub nth : ℕ
  pub from : ℕ
  pub letter : ℕ
  pub number : List ℕ

-- where the next word begins
abbrev pub start : WordPlace → ℕ
start p = p.at + gap (drop p.at p.text)

abbrev pub next_at : WordPlace → Front → Result (Option AWord) (ℕ × ℕ)
next_at p Nothing = Ok None
next_at p Bad = Err (p.line, p.nth + 1)
next_at p (Item letter k n) = Ok (Some (record { line = p.line; nth = p.nth + 1; from = start p + k; letter = letter; number = take n (drop (start p + k) p.text) }))

-- the next word; none at the end of the line's words; the line and the word's number where the bytes begin no word
abbrev pub next_word : WordPlace → Result (Option AWord) (ℕ × ℕ)
next_word p = next_at p (found (drop (start p) p.text))

abbrev pub after_at : WordPlace → Front → WordPlace
after_at p (Item letter k n) = record { line = p.line; text = p.text; at = start p + k + n; nth = p.nth + 1 }
after_at p _ = p

-- the place behind the next word
abbrev pub after_word : WordPlace → WordPlace
after_word p = after_at p (found (drop (start p) p.text))

-- the place before a line's first word; behind the line, where it is ignored
abbrev pub line_start : ALine → WordPlace
line_start l = record { line = l.number; text = l.text; at = if is_ignored l.text then length l.text else 0; nth = 0 }

abbrev pub aword : GWord → AWord
aword w = record { line = w.line; nth = w.nth; from = w.from; letter = w.letter; number = w.number.now }

-- an answer of `next`
abbrev pub seen : Result (Option GWord) BadAt → Result (Option AWord) (ℕ × ℕ)
seen (Ok None) = Ok None
seen (Ok (Some w)) = Ok (Some (aword w))
seen (Err e) = Err (e.line, e.nth)
