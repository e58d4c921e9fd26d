-- The next item is the first that is left.
use Rattle.std.proofs.Common.{◌≡◌, ◌⊎◌, ℕ, ◌+◌, ◌≤◌, min, Bool, true, false, List, [], ◌∷◌, length, take, drop, Some, None, Ok, Err, refl, sym, ap, ◌∙◌, inl, inr, arith}
use Rattle.std.proofs.lemmas.List.{drop-drop}
use Rattle.std.proofs.Math.Seq.{drop-length}
use Rattle.std.proofs.Math.ListN.{drop_of_length-le}
use Rattle.bc_lex.specs.Places.{LinePlace, WordPlace}
use Rattle.bc_num.specs.Lines.{lines}
use Rattle.bc_num.specs.Words.{is_ignored, line_words}
use Rattle.bc_lex.specs.Lines.{ALine, line_length, next_line, after_line, after_in, line_in}
use Rattle.bc_lex.specs.GWords.{AWord, next_word, after_word, gap, found, start, next_at, after_at, line_start}
use Rattle.bc_lex.specs.Left.{lines_left, line_then, NextLineIsFirst, words_left, word_then, NextWordIsFirst, AllWordsAreLeft}
use Rattle.bc_lex.specs.declared.gwords.Front.{Front}
use Rattle.bc_lex.specs.declared.gwords.Front.TheVariants.{Nothing, Bad, Item}
use Rattle.bc_lex.proofs.Steps.{lines-cut, follow, words-at}

pub drop-min : (m : ℕ) (bs : List ℕ) → drop (min (length bs) m) bs ≡ drop m bs
drop-min m bs =
    let split : (m ≤ length bs) ⊎ (length bs ≤ m) = grind arith in
    elim split [
      | inl h ↦ let e : min (length bs) m ≡ m = omega arith in ap (λ i. drop i bs) e
      | inr h ↦ let e : min (length bs) m ≡ length bs = omega arith in
          ap (λ i. drop i bs) e ∙ drop-length bs ∙ sym (drop_of_length-le bs h)
    ]

line-then : (p : LinePlace) (bs : List ℕ) → drop p.at p.text ≡ bs → lines_left p ≡ line_then (line_in (p.number + 1) bs) (lines_left (after_in p bs))
line-then p [] e = ap lines e
line-then p (b ∷ bs) e =
    let n = line_length (b ∷ bs) in
    let more : p.at + n + 1 ≡ p.at + (n + 1) = omega arith in
    let behind : drop (min (length p.text) (p.at + n + 1)) p.text ≡ drop (n + 1) (b ∷ bs) =
    drop-min (p.at + n + 1) p.text ∙ ap (λ i. drop i p.text) more ∙ sym (drop-drop (n + 1) p.at p.text) ∙ ap (drop (n + 1)) e in
    ap lines e ∙ lines-cut (b ∷ bs) ∙ ap (λ rest. take n (b ∷ bs) ∷ lines rest) (sym behind)

pub next_line_is_first : NextLineIsFirst
next_line_is_first p = line-then p (drop p.at p.text) refl

word-then : (p : WordPlace) (f : Front) (bs : List ℕ) → drop (start p) p.text ≡ bs → follow f bs ≡ word_then (next_at p f) (words_left (after_at p f))
word-then p Nothing bs e = refl
word-then p Bad bs e = refl
word-then p (Item letter k n) bs e =
    let number : drop (start p + k) p.text ≡ drop k bs = sym (drop-drop k (start p) p.text) ∙ ap (drop k) e in
    let more : start p + k + n ≡ start p + (k + n) = omega arith in
    let behind : drop (start p + k + n) p.text ≡ drop (k + n) bs =
    ap (λ i. drop i p.text) more ∙ sym (drop-drop (k + n) (start p) p.text) ∙ ap (drop (k + n)) e in
    rw (number, behind) refl

pub next_word_is_first : NextWordIsFirst
next_word_is_first p =
    let gone : drop (gap (drop p.at p.text)) (drop p.at p.text) ≡ drop (start p) p.text = drop-drop (gap (drop p.at p.text)) p.at p.text in
    words-at (drop p.at p.text)
    ∙ ap (λ bs. follow (found bs) bs) gone
    ∙ word-then p (found (drop (start p) p.text)) (drop (start p) p.text) refl

all-left : (l : ALine) (gone : Bool) → is_ignored l.text ≡ gone → words_left (line_start l) ≡ line_words l.text
all-left l true h = rw (h, drop-length l.text) refl
all-left l false h = rw h refl

pub all_words_are_left : AllWordsAreLeft
all_words_are_left l = all-left l _ refl

-- a word's places, and the place behind it
pub record Moved (p : WordPlace) (w : AWord) : Type 0 where
  pub line : (after_word p).line ≡ p.line
  pub nth : (after_word p).nth ≡ p.nth + 1
  pub word_line : w.line ≡ p.line
  pub word_nth : w.nth ≡ p.nth + 1

pub record MovedAt (p : WordPlace) (f : Front) (w : AWord) : Type 0 where
  pub line : (after_at p f).line ≡ p.line
  pub nth : (after_at p f).nth ≡ p.nth + 1
  pub word_line : w.line ≡ p.line
  pub word_nth : w.nth ≡ p.nth + 1

moved-at : (p : WordPlace) (f : Front) (w : AWord) → next_at p f ≡ Ok (Some w) → MovedAt p f w
moved-at p Nothing w e = cc
moved-at p Bad w e = cc
moved-at p (Item letter k n) w e = record { line = refl; nth = refl; word_line = cc; word_nth = cc }

pub moved : (p : WordPlace) (w : AWord) → next_word p ≡ Ok (Some w) → Moved p w
moved p w e =
    let m = moved-at p (found (drop (start p) p.text)) w e in
    record { line = m.line; nth = m.nth; word_line = m.word_line; word_nth = m.word_nth }

bad-at : (p : WordPlace) (f : Front) (e : ℕ × ℕ) → next_at p f ≡ Err e → e ≡ (p.line, p.nth + 1)
bad-at p Nothing e h = cc
bad-at p Bad e h = cc
bad-at p (Item letter k n) e h = cc

pub bad_at : (p : WordPlace) (e : ℕ × ℕ) → next_word p ≡ Err e → e ≡ (p.line, p.nth + 1)
bad_at p e h = bad-at p (found (drop (start p) p.text)) e h

-- a line's number, and the place behind it
pub record LineMoved (p : LinePlace) (l : ALine) : Type 0 where
  pub number : (after_line p).number ≡ p.number + 1
  pub text : (after_line p).text ≡ p.text
  pub line_number : l.number ≡ p.number + 1

pub record LineMovedIn (p : LinePlace) (bs : List ℕ) (l : ALine) : Type 0 where
  pub number : (after_in p bs).number ≡ p.number + 1
  pub text : (after_in p bs).text ≡ p.text
  pub line_number : l.number ≡ p.number + 1

line-moved : (p : LinePlace) (bs : List ℕ) (l : ALine) → line_in (p.number + 1) bs ≡ Some l → LineMovedIn p bs l
line-moved p [] l e = cc
line-moved p (b ∷ bs) l e = record { number = refl; text = refl; line_number = cc }

pub line_moved : (p : LinePlace) (l : ALine) → next_line p ≡ Some l → LineMoved p l
line_moved p l e =
    let m = line-moved p (drop p.at p.text) l e in record { number = m.number; text = m.text; line_number = m.line_number }

stays-in : (p : LinePlace) (bs : List ℕ) → line_in (p.number + 1) bs ≡ None → after_in p bs ≡ p
stays-in p [] e = refl
stays-in p (b ∷ bs) e = cc

pub line_stays : (p : LinePlace) → next_line p ≡ None → after_line p ≡ p
line_stays p e = stays-in p (drop p.at p.text) e
