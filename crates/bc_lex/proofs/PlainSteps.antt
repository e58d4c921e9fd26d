-- The next word between blanks is the first that is left.
use Rattle.std.proofs.Common.{◌≡◌, ℕ, ◌+◌, Bool, true, false, not, ◌||◌, nat_eq, List, [], ◌∷◌, take, drop, Some, None, refl, sym, ap, ◌∙◌, arith, add-one, if◌then◌else◌}
use Rattle.std.proofs.lemmas.List.{drop-drop}
use Rattle.bc_num.specs.Lines.{put_before}
use Rattle.bc_num.specs.Words.{is_line_blank, blanks}
use Rattle.bc_lex.specs.Places.{WordPlace}
use Rattle.bc_lex.specs.Words.{PlainWord, is_comment, is_part, goes_on, with_byte, words_of, word_length, plain_start, plain_at, next_plain, after_plain_at, after_plain}
use Rattle.bc_lex.specs.Left.{plain_left, plain_then, NextPlainIsFirst, AllPlainAreLeft}

neither-left : (a b : Bool) → not (a || b) ≡ true → a ≡ false
neither-left false b h = refl
neither-left true b h = cc

neither-right : (a b : Bool) → not (a || b) ≡ true → b ≡ false
neither-right false false h = refl
neither-right false true h = cc
neither-right true b h = cc

stops : (bs : List ℕ) → goes_on bs ≡ false → word_length bs ≡ 0
stops [] h = refl
stops (b ∷ bs) h = rw h refl

-- the first n bytes as a word, and the words behind it
abbrev pub cut_at : ℕ → List ℕ → List (List ℕ)
cut_at n bs = take n bs ∷ words_of (drop n bs)

put-word : (b n : ℕ) (bs : List ℕ) (ws : List (List ℕ)) → ws ≡ cut_at n bs → put_before b ws ≡ cut_at (n + 1) (b ∷ bs)
put-word b n bs ws e =
    let front : take (n + 1) (b ∷ bs) ≡ b ∷ take n bs = rw add-one refl in
    let back : drop (n + 1) (b ∷ bs) ≡ drop n bs = rw add-one refl in
    let both : put_before b ws ≡ (b ∷ take n bs) ∷ words_of (drop n bs) = ap (put_before b) e in
    rw (front, back) both

one-more : (b : ℕ) (bs : List ℕ) (more : Bool) → goes_on bs ≡ more → (goes_on bs ≡ true → words_of bs ≡ cut_at (word_length bs) bs)
    → with_byte b bs (words_of bs) ≡ cut_at (word_length bs + 1) (b ∷ bs)
one-more b bs true h e = rw h (put-word b (word_length bs) bs (words_of bs) (e h))
one-more b bs false h e = rw (h, stops bs h) refl

pub words-cut : (bs : List ℕ) → goes_on bs ≡ true → words_of bs ≡ cut_at (word_length bs) bs
words-cut [] h = cc
words-cut (b ∷ bs) h =
    let comment : is_comment b ≡ false = neither-left (is_comment b) (is_line_blank b) h in
    let blank : is_line_blank b ≡ false = neither-right (is_comment b) (is_line_blank b) h in
    let here : words_of (b ∷ bs) ≡ with_byte b bs (words_of bs) = rw (comment, blank) refl in
    let count : word_length (b ∷ bs) ≡ word_length bs + 1 = rw h refl in
    here ∙ one-more b bs (goes_on bs) refl (words-cut bs) ∙ ap (λ n. cut_at n (b ∷ bs)) (sym count)

-- the words of bytes that no blank begins
abbrev pub first_cut : ℕ → List ℕ → List (List ℕ)
first_cut n bs = if nat_eq n 0 then [] else cut_at n bs

blank-is-no-comment : (b : ℕ) → is_line_blank b ≡ true → is_comment b ≡ false
blank-is-no-comment b h = grind arith

none-left : (n b : ℕ) (bs : List ℕ) → is_comment b ≡ true → n ≡ 0 → words_of (b ∷ bs) ≡ first_cut n (b ∷ bs)
none-left n b bs c h = rw (c, h) refl

some-left : (m b : ℕ) (bs : List ℕ) (ws : List (List ℕ)) → ws ≡ cut_at (m + 1) (b ∷ bs) → ws ≡ first_cut (m + 1) (b ∷ bs)
some-left m b bs ws e = let more : nat_eq (m + 1) 0 ≡ false = grind arith in rw more e

no-blank : (b : ℕ) (bs : List ℕ) (comment : Bool) → is_comment b ≡ comment → is_line_blank b ≡ false → words_of (b ∷ bs) ≡ first_cut (word_length (b ∷ bs)) (b ∷ bs)
no-blank b bs true c h =
    let none : word_length (b ∷ bs) ≡ 0 = rw c refl in none-left (word_length (b ∷ bs)) b bs c none
no-blank b bs false c h =
    let part : is_part b ≡ true = rw (c, h) refl in
    let count : word_length (b ∷ bs) ≡ word_length bs + 1 = rw part refl in
    let cut : words_of (b ∷ bs) ≡ cut_at (word_length bs + 1) (b ∷ bs) = words-cut (b ∷ bs) part ∙ ap (λ n. cut_at n (b ∷ bs)) count in
    some-left (word_length bs) b bs (words_of (b ∷ bs)) cut ∙ ap (λ n. first_cut n (b ∷ bs)) (sym count)

abbrev pub led : List ℕ → List (List ℕ)
led bs = first_cut (word_length bs) bs

at-byte : (b : ℕ) (bs : List ℕ) (blank : Bool) → is_line_blank b ≡ blank → words_of bs ≡ led (drop (blanks bs) bs)
    → words_of (b ∷ bs) ≡ led (drop (blanks (b ∷ bs)) (b ∷ bs))
at-byte b bs true h e =
    let here : words_of (b ∷ bs) ≡ words_of bs = rw (blank-is-no-comment b h, h) refl in
    let count : blanks (b ∷ bs) ≡ blanks bs + 1 = rw h refl in
    let behind : drop (blanks bs + 1) (b ∷ bs) ≡ drop (blanks bs) bs = rw add-one refl in
    let gone : drop (blanks (b ∷ bs)) (b ∷ bs) ≡ drop (blanks bs) bs = ap (λ n. drop n (b ∷ bs)) count ∙ behind in
    here ∙ e ∙ ap led (sym gone)
at-byte b bs false h e =
    let count : blanks (b ∷ bs) ≡ 0 = rw h refl in
    let gone : drop (blanks (b ∷ bs)) (b ∷ bs) ≡ b ∷ bs = ap (λ n. drop n (b ∷ bs)) count in
    no-blank b bs (is_comment b) refl h ∙ ap led (sym gone)

-- the words of bytes, behind the blanks at their front
pub words-led : (bs : List ℕ) → words_of bs ≡ led (drop (blanks bs) bs)
words-led [] = refl
words-led (b ∷ bs) = at-byte b bs (is_line_blank b) refl (words-led bs)

plain-then : (p : WordPlace) (n : ℕ) (none : Bool) → nat_eq n 0 ≡ none
    → first_cut n (drop (plain_start p) p.text) ≡ plain_then (plain_at p n) (plain_left (after_plain_at p n))
plain-then p n true h = rw h refl
plain-then p n false h =
    let behind : drop (plain_start p + n) p.text ≡ drop n (drop (plain_start p) p.text) = sym (drop-drop n (plain_start p) p.text) in
    rw (h, behind) refl

pub next_plain_is_first : NextPlainIsFirst
next_plain_is_first p =
    let gone : drop (blanks (drop p.at p.text)) (drop p.at p.text) ≡ drop (plain_start p) p.text = drop-drop (blanks (drop p.at p.text)) p.at p.text in
    words-led (drop p.at p.text) ∙ ap led gone ∙ plain-then p (word_length (drop (plain_start p) p.text)) _ refl

pub all_plain_are_left : AllPlainAreLeft
all_plain_are_left l = refl

-- ---- what a step keeps

pub record PlainMoved (p : WordPlace) (w : PlainWord) : Type 0 where
  pub word_line : w.line ≡ p.line
  pub word_nth : w.nth ≡ p.nth + 1
  pub nth : (after_plain p).nth ≡ p.nth + 1

record PlainMovedAt (p : WordPlace) (n : ℕ) (w : PlainWord) : Type 0 where
  word_line : w.line ≡ p.line
  word_nth : w.nth ≡ p.nth + 1
  nth : (after_plain_at p n).nth ≡ p.nth + 1

moved-at : (p : WordPlace) (n : ℕ) (w : PlainWord) (none : Bool) → nat_eq n 0 ≡ none → plain_at p n ≡ Some w → PlainMovedAt p n w
moved-at p n w true h e = let no : plain_at p n ≡ None = rw h refl in cc
moved-at p n w false h e =
    let v : PlainWord = record { line = p.line; nth = p.nth + 1; from = plain_start p; text = take n (drop (plain_start p) p.text) } in
    let is : Some v ≡ Some w = (let some : plain_at p n ≡ Some v = rw h refl in sym some ∙ e) in
    let same : v ≡ w = cc in
    let nth : (after_plain_at p n).nth ≡ p.nth + 1 = rw h refl in
    record { word_line = ap (λ (w : PlainWord). w.line) (sym same); word_nth = ap (λ (w : PlainWord). w.nth) (sym same); nth = nth }

pub plain_moved : (p : WordPlace) (w : PlainWord) → next_plain p ≡ Some w → PlainMoved p w
plain_moved p w e =
    let m = moved-at p (word_length (drop (plain_start p) p.text)) w _ refl e in
    record { word_line = m.word_line; word_nth = m.word_nth; nth = m.nth }

line-at : (p : WordPlace) (n : ℕ) (none : Bool) → nat_eq n 0 ≡ none → (after_plain_at p n).line ≡ p.line
line-at p n true h = rw h refl
line-at p n false h = rw h refl

pub plain_line_stays : (p : WordPlace) → (after_plain p).line ≡ p.line
plain_line_stays p = line-at p (word_length (drop (plain_start p) p.text)) _ refl

text-at : (p : WordPlace) (n : ℕ) (none : Bool) → nat_eq n 0 ≡ none → (after_plain_at p n).text ≡ p.text
text-at p n true h = rw h refl
text-at p n false h = rw h refl

pub plain_text_stays : (p : WordPlace) → (after_plain p).text ≡ p.text
plain_text_stays p = text-at p (word_length (drop (plain_start p) p.text)) _ refl

stays-at : (p : WordPlace) (n : ℕ) (none : Bool) → nat_eq n 0 ≡ none → plain_at p n ≡ None → after_plain_at p n ≡ p
stays-at p n true h e = rw h refl
stays-at p n false h e =
    let v : PlainWord = record { line = p.line; nth = p.nth + 1; from = plain_start p; text = take n (drop (plain_start p) p.text) } in
    let some : plain_at p n ≡ Some v = rw h refl in cc

pub plain_stays : (p : WordPlace) → next_plain p ≡ None → after_plain p ≡ p
plain_stays p e = stays-at p (word_length (drop (plain_start p) p.text)) _ refl e
