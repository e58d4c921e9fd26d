-- The next line and the next word are the first that the definitions on whole lists name.
use Rattle.std.proofs.Common.{◌≡◌, ℕ, zero, suc, ◌+◌, Bool, true, false, List, [], ◌∷◌, take, drop, Option, Some, None, refl, sym, ap, ◌∙◌, arith, add-one, if◌then◌else◌}
use Rattle.std.proofs.Math.Seq.{drop-nil}
use Rattle.bc_num.specs.Lines.{lines, put_before, is_line_end}
use Rattle.bc_lex.specs.Lines.{line_length}
use Rattle.bc_num.specs.Tokens.{is_letter}
use Rattle.bc_num.specs.Words.{Words, ended, broken, word, words, words_behind_comment, is_line_blank, is_open, is_close, is_stop, begins_word, capital, blanks, length_behind, number_behind}
use Rattle.bc_lex.specs.GWords.{gap, gap_of, one_more, comment, found}
use Rattle.bc_lex.specs.declared.gwords.Front.{Front}
use Rattle.bc_lex.specs.declared.gwords.Front.TheVariants.{Nothing, Bad, Item}

-- Lines

-- the lines of bytes: none, or the first and the lines behind it
abbrev pub cut : List ℕ → List (List ℕ)
cut [] = []
cut (b ∷ bs) = take (line_length (b ∷ bs)) (b ∷ bs) ∷ lines (drop (line_length (b ∷ bs) + 1) (b ∷ bs))

put-any : (b n : ℕ) (bs : List ℕ) (ls : List (List ℕ)) → ls ≡ take n bs ∷ lines (drop (n + 1) bs)
    → put_before b ls ≡ take (n + 1) (b ∷ bs) ∷ lines (drop (n + 1 + 1) (b ∷ bs))
put-any b n bs ls e =
    let front : take (n + 1) (b ∷ bs) ≡ b ∷ take n bs = rw add-one refl in
    let back : drop (n + 1 + 1) (b ∷ bs) ≡ drop (n + 1) bs = rw (add-one (n + 1)) refl in
    let both : put_before b ls ≡ (b ∷ take n bs) ∷ lines (drop (n + 1) bs) = ap (put_before b) e in
    rw (front, back) both

put-cut : (b : ℕ) (bs : List ℕ) → lines bs ≡ cut bs → put_before b (lines bs) ≡ take (line_length bs + 1) (b ∷ bs) ∷ lines (drop (line_length bs + 1 + 1) (b ∷ bs))
put-cut b [] e = refl
put-cut b (c ∷ cs) e = put-any b (line_length (c ∷ cs)) (c ∷ cs) (lines (c ∷ cs)) e

cut-at : (b : ℕ) (bs : List ℕ) (end : Bool) → is_line_end b ≡ end → lines bs ≡ cut bs → lines (b ∷ bs) ≡ cut (b ∷ bs)
cut-at b bs true h e = rw h refl
cut-at b bs false h e = rw h (put-cut b bs e)

pub lines-cut : (bs : List ℕ) → lines bs ≡ cut bs
lines-cut [] = refl
lines-cut (b ∷ bs) = cut-at b bs _ refl (lines-cut bs)

-- Words

-- bytes that belong to the word before are skipped
pub words-skip : (k : ℕ) (bs : List ℕ) → words k bs ≡ words 0 (drop k bs)
words-skip k [] = rw drop-nil refl
words-skip zero (b ∷ bs) = refl
words-skip (suc k) (b ∷ bs) = words-skip k bs

-- the words that a front says
abbrev pub follow : Front → List ℕ → Words
follow Nothing bs = ended
follow Bad bs = broken
follow (Item letter k n) bs = word (record { letter = letter; number = take n (drop k bs) }) (words 0 (drop (k + n) bs))

abbrev pub follow_at : ℕ → List ℕ → Words
follow_at n bs = follow (found (drop n bs)) (drop n bs)

follow-more : (n b : ℕ) (bs : List ℕ) → follow_at (n + 1) (b ∷ bs) ≡ follow_at n bs
follow-more n b bs = rw add-one refl

-- what stands behind the '(' of a comment, with what is left of the comment and the gap behind it
abbrev pub Behind : Option ℕ → List ℕ → Type 0
Behind None bs = words_behind_comment bs ≡ broken
Behind (Some n) bs = words_behind_comment bs ≡ follow_at n bs

open-is-no-stop : (b : ℕ) → is_open b ≡ true → is_stop b ≡ false
open-is-no-stop b h = grind arith

open-is-no-letter : (b : ℕ) → is_open b ≡ true → is_letter b ≡ false
open-is-no-letter b h = grind arith

at-open : (b : ℕ) (bs : List ℕ) (left : Option ℕ) → is_open b ≡ true → Behind left bs → words_behind_comment bs ≡ follow_at (gap_of left) (b ∷ bs)
at-open b bs None h e = rw (open-is-no-stop b h, open-is-no-letter b h) e
at-open b bs (Some n) h e = e ∙ sym (follow-more n b bs)

begun : (letter b k n : ℕ) (bs : List ℕ) → word (record { letter = letter; number = take n (drop k bs) }) (words (k + n) bs) ≡ follow (Item letter (k + 1) n) (b ∷ bs)
begun letter b k n bs =
    let number : drop (k + 1) (b ∷ bs) ≡ drop k bs = rw add-one refl in
    let more : k + 1 + n ≡ suc (k + n) = omega arith in
    let behind : drop (k + 1 + n) (b ∷ bs) ≡ drop (k + n) bs = ap (λ i. drop i (b ∷ bs)) more in
    rw (number, behind, words-skip (k + n) bs) refl

at-front : (b : ℕ) (bs : List ℕ) (stop begins : Bool) → is_stop b ≡ stop → begins_word b bs ≡ begins
    → (if is_stop b then ended else (if begins_word b bs then word (record { letter = capital b; number = number_behind bs }) (words (blanks bs + length_behind bs) bs) else broken))
    ≡ follow_at 0 (b ∷ bs)
at-front b bs true begins hs hb = rw hs refl
at-front b bs false false hs hb = rw (hs, hb) refl
at-front b bs false true hs hb = rw (hs, hb) (begun (capital b) b (blanks bs) (length_behind bs) bs)

at-byte : (b : ℕ) (bs : List ℕ) (blank op : Bool) → is_line_blank b ≡ blank → is_open b ≡ op
    → words 0 bs ≡ follow_at (gap bs) bs → Behind (comment bs) bs → words 0 (b ∷ bs) ≡ follow_at (gap (b ∷ bs)) (b ∷ bs)
at-byte b bs true op hb ho e c = rw hb (e ∙ sym (follow-more (gap bs) b bs))
at-byte b bs false true hb ho e c = rw (hb, ho) (at-open b bs (comment bs) ho c)
at-byte b bs false false hb ho e c = rw (hb, ho) (at-front b bs _ _ refl refl)

behind-close : (b : ℕ) (bs : List ℕ) → words 0 bs ≡ follow_at (gap bs) bs → words 0 bs ≡ follow_at (gap bs + 1) (b ∷ bs)
behind-close b bs e = e ∙ sym (follow-more (gap bs) b bs)

behind-more : (b : ℕ) (bs : List ℕ) (left : Option ℕ) → is_close b ≡ false → Behind left bs → Behind (one_more left) (b ∷ bs)
behind-more b bs None h e = rw h e
behind-more b bs (Some n) h e = rw h (e ∙ sym (follow-more n b bs))

behind-byte : (b : ℕ) (bs : List ℕ) (close : Bool) → is_close b ≡ close
    → words 0 bs ≡ follow_at (gap bs) bs → Behind (comment bs) bs → Behind (comment (b ∷ bs)) (b ∷ bs)
behind-byte b bs true h e c = rw (h, h) (behind-close b bs e)
behind-byte b bs false h e c = rw h (behind-more b bs (comment bs) h c)

mutual
  pub words-at : (bs : List ℕ) → words 0 bs ≡ follow_at (gap bs) bs
  words-at [] = refl
  words-at (b ∷ bs) = at-byte b bs _ _ refl refl (words-at bs) (words-behind bs)

  pub words-behind : (bs : List ℕ) → Behind (comment bs) bs
  words-behind [] = refl
  words-behind (b ∷ bs) = behind-byte b bs _ refl (words-at bs) (words-behind bs)
