-- Where the next line and the next word stand, and what stands before them.
use Rattle.std.proofs.Common.{◌≡◌, ◌<◌, ◌≤◌, ℕ, suc, ◌+◌, ◌-◌, min, Bool, true, false, nat_lt, List, [], ◌∷◌, ◌++◌, length, take, drop, Option, Some, None, Ok, Err, refl, sym, ap, ◌∙◌, subst, inl, inr, arith, add-one}
use Rattle.std.proofs.lemmas.Bool.{and_parts}
use Rattle.std.proofs.lemmas.List.{drop-drop, length-take, length-drop, take-append-drop}
use Rattle.bc_num.specs.Tokens.{is_letter}
use Rattle.bc_num.specs.Numbers.{is_number}
use Rattle.bc_num.specs.Lines.{is_line_end}
use Rattle.bc_num.specs.Words.{is_line_blank, is_open, is_close, is_stop, is_gap, closes_comment, are_blanks, capital, blanks, length_behind, begins_word}
use Rattle.bc_num.proofs.NumberFronts.{front_is_number, number_length-le}
use Rattle.bc_lex.specs.Places.{LinePlace, WordPlace}
use Rattle.bc_lex.specs.Lines.{ALine, line_length, after_line, line_in, after_in}
use Rattle.bc_lex.specs.GWords.{AWord, gap, gap_of, one_more, comment, found, start, next_at, next_word, after_at, after_word}
use Rattle.bc_lex.specs.Order.{is_one_line, IsLineEnd, LineStands, LinesStandInOrder, WordStands, WordsStandInOrder, is_words_end, WordsEnd, BreaksAt, WordsBreak}
use Rattle.bc_lex.specs.declared.gwords.Front.TheVariants.{Nothing, Bad, Item}
use Rattle.bc_lex.proofs.Nexts.{drop-min}

lt-is : (n m : ℕ) → nat_lt n m ≡ true → n < m
lt-is n m h = grind arith

pub take-more : (b n : ℕ) (bs : List ℕ) → take (n + 1) (b ∷ bs) ≡ b ∷ take n bs
take-more b n bs = rw add-one refl

-- ---- lines

end-is : (b : ℕ) → is_line_end b ≡ true → b ≡ 10
end-is b h = grind arith

-- n bytes without an LF, an LF or nothing, and the rest
record Split (bs : List ℕ) (n : ℕ) : Type 0 where
  end : List ℕ
  bytes : bs ≡ take n bs ++ end ++ drop (suc n) bs
  one : is_one_line (take n bs) ≡ true
  is_end : IsLineEnd end (drop (suc n) bs)
  count : length (take n bs) ≡ n
  behind : min (length bs) (suc n) ≡ n + length end

split-at : (b : ℕ) (bs : List ℕ) (t : Bool) → is_line_end b ≡ t → Split bs (line_length bs) → Split (b ∷ bs) (line_length (b ∷ bs))
split-at b bs true e s =
    let n : 0 ≡ line_length (b ∷ bs) = rw e refl in
    subst (Split (b ∷ bs)) n (record { end = 10 ∷ []; bytes = ap (λ x. x ∷ bs) (end-is b e); one = refl; is_end = inl refl; count = refl; behind = omega arith })
split-at b bs false e s =
    let n : suc (line_length bs) ≡ line_length (b ∷ bs) = rw e (sym (add-one (line_length bs))) in
    let one : is_one_line (b ∷ take (line_length bs) bs) ≡ true = rw e s.one in
    let count : length (take (line_length bs) bs) ≡ line_length bs = s.count in
    let behind : min (length bs) (suc (line_length bs)) ≡ line_length bs + length s.end = s.behind in
    subst (Split (b ∷ bs)) n (record { end = s.end; bytes = ap (λ xs. b ∷ xs) s.bytes; one = one; is_end = s.is_end; count = omega arith; behind = omega arith })

split-line : (bs : List ℕ) → Split bs (line_length bs)
split-line [] = record { end = []; bytes = refl; one = refl; is_end = inr (refl, refl); count = refl; behind = omega arith }
split-line (b ∷ bs) = split-at b bs (is_line_end b) refl (split-line bs)

stands-in : (p : LinePlace) (bs : List ℕ) (l : ALine) → drop p.at p.text ≡ bs → line_in (p.number + 1) bs ≡ Some l → LineStands p l
stands-in p [] l e h = cc
stands-in p (b ∷ bs) l e h =
    let n = line_length (b ∷ bs) in
    let s = split-line (b ∷ bs) in
    let k : ALine = record { number = p.number + 1; text = take n (b ∷ bs) } in
    let is : k ≡ l = cc in
    let text : l.text ≡ take n (b ∷ bs) = ap (λ (l : ALine). l.text) (sym is) in
    let q : LinePlace = record { text = p.text; at = min (length p.text) (p.at + n + 1); number = p.number + 1 } in
    let after : after_line p ≡ q = ap (after_in p) e in
    let at : (after_line p).at ≡ min (length p.text) (p.at + n + 1) = ap (λ (q : LinePlace). q.at) after in
    let more : p.at + n + 1 ≡ p.at + suc n = omega arith in
    let rest : drop (after_line p).at p.text ≡ drop (suc n) (b ∷ bs) =
    ap (λ i. drop i p.text) at ∙ drop-min (p.at + n + 1) p.text ∙ ap (λ i. drop i p.text) more ∙ sym (drop-drop (suc n) p.at p.text) ∙ ap (drop (suc n)) e in
    let count : length l.text ≡ n = ap length text ∙ s.count in
    let behind : min (length (b ∷ bs)) (suc n) ≡ n + length s.end = s.behind in
    let all : length (b ∷ bs) ≡ length p.text - p.at = ap length (sym e) ∙ length-drop p.at p.text in
    let IsEnd : List ℕ → Type 0 = λ r. IsLineEnd s.end r in
    record {
      end = s.end;
      bytes = e ∙ s.bytes ∙ ap (λ t. t ++ s.end ++ drop (suc n) (b ∷ bs)) (sym text) ∙ ap (λ r. l.text ++ s.end ++ r) (sym rest);
      is_one_line = ap is_one_line text ∙ s.one;
      is_end = subst IsEnd (sym rest) s.is_end;
      behind = at ∙ omega arith;
      number = ap (λ (l : ALine). l.number) (sym is);
      number_behind = ap (λ (q : LinePlace). q.number) after;
      text = ap (λ (q : LinePlace). q.text) after;
    }

pub lines_stand_in_order : LinesStandInOrder
lines_stand_in_order p l h = stands-in p (drop p.at p.text) l refl h

-- ---- blanks and comments

-- the first n bytes are blanks and whole comments
record Gap (bs : List ℕ) (n : ℕ) : Type 0 where
  within : n ≤ length bs
  is : is_gap (take n bs) ≡ true

-- the first n bytes close a comment, where it is closed
abbrev Closes : Option ℕ → List ℕ → Type 0
Closes None bs = Unit {0}
Closes (Some n) bs = (n ≤ length bs) × (closes_comment (take n bs) ≡ true)

gap-none : (bs : List ℕ) → Gap bs 0
gap-none bs = record { within = omega arith; is = refl }

gap-blank : (b : ℕ) (bs : List ℕ) (n : ℕ) → is_line_blank b ≡ true → Gap bs n → Gap (b ∷ bs) (n + 1)
gap-blank b bs n e g =
    let h : n ≤ length bs = g.within in
    let is : is_gap (b ∷ take n bs) ≡ true = rw e g.is in
    record { within = omega arith; is = ap is_gap (take-more b n bs) ∙ is }

gap-open : (b : ℕ) (bs : List ℕ) (o : Option ℕ) → is_line_blank b ≡ false → is_open b ≡ true → Closes o bs → Gap (b ∷ bs) (gap_of o)
gap-open b bs None e f c = gap-none (b ∷ bs)
gap-open b bs (Some n) e f c =
    let h : n ≤ length bs = c.0 in
    let is : is_gap (b ∷ take n bs) ≡ true = rw (e, f) c.1 in
    record { within = omega arith; is = ap is_gap (take-more b n bs) ∙ is }

gap-at : (b : ℕ) (bs : List ℕ) (blank op : Bool) → is_line_blank b ≡ blank → is_open b ≡ op → Gap bs (gap bs) → Closes (comment bs) bs → Gap (b ∷ bs) (gap (b ∷ bs))
gap-at b bs true op e f g c =
    let n : gap bs + 1 ≡ gap (b ∷ bs) = rw e refl in
    subst (Gap (b ∷ bs)) n (gap-blank b bs (gap bs) e g)
gap-at b bs false true e f g c =
    let n : gap_of (comment bs) ≡ gap (b ∷ bs) = rw (e, f) refl in
    subst (Gap (b ∷ bs)) n (gap-open b bs (comment bs) e f c)
gap-at b bs false false e f g c =
    let n : 0 ≡ gap (b ∷ bs) = rw (e, f) refl in
    subst (Gap (b ∷ bs)) n (gap-none (b ∷ bs))

closes-more : (b : ℕ) (bs : List ℕ) (o : Option ℕ) → is_close b ≡ false → Closes o bs → Closes (one_more o) (b ∷ bs)
closes-more b bs None e c = tt
closes-more b bs (Some n) e c =
    let h : n ≤ length bs = c.0 in
    let within : n + 1 ≤ length (b ∷ bs) = omega arith in
    let is : closes_comment (b ∷ take n bs) ≡ true = rw e c.1 in
    (within, ap closes_comment (take-more b n bs) ∙ is)

closes-at : (b : ℕ) (bs : List ℕ) (close : Bool) → is_close b ≡ close → Gap bs (gap bs) → Closes (comment bs) bs → Closes (comment (b ∷ bs)) (b ∷ bs)
closes-at b bs true e g c =
    let h : gap bs ≤ length bs = g.within in
    let within : gap bs + 1 ≤ length (b ∷ bs) = omega arith in
    let is : closes_comment (b ∷ take (gap bs) bs) ≡ true = rw e g.is in
    let o : Some (gap bs + 1) ≡ comment (b ∷ bs) = rw e refl in
    let IsClosed : Option ℕ → Type 0 = λ o. Closes o (b ∷ bs) in
    subst IsClosed o (within, ap closes_comment (take-more b (gap bs) bs) ∙ is)
closes-at b bs false e g c =
    let o : one_more (comment bs) ≡ comment (b ∷ bs) = rw e refl in
    let IsClosed : Option ℕ → Type 0 = λ o. Closes o (b ∷ bs) in
    subst IsClosed o (closes-more b bs (comment bs) e c)

mutual
  gap-is : (bs : List ℕ) → Gap bs (gap bs)
  gap-is [] = gap-none []
  gap-is (b ∷ bs) = gap-at b bs (is_line_blank b) (is_open b) refl refl (gap-is bs) (closes-is bs)

  closes-is : (bs : List ℕ) → Closes (comment bs) bs
  closes-is [] = tt
  closes-is (b ∷ bs) = closes-at b bs (is_close b) refl (gap-is bs) (closes-is bs)

-- the first n bytes are blanks
pub record Blanks (bs : List ℕ) (n : ℕ) : Type 0 where
  pub within : n ≤ length bs
  pub are : are_blanks (take n bs) ≡ true

blanks-at : (b : ℕ) (bs : List ℕ) (blank : Bool) → is_line_blank b ≡ blank → Blanks bs (blanks bs) → Blanks (b ∷ bs) (blanks (b ∷ bs))
blanks-at b bs true e s =
    let n : blanks bs + 1 ≡ blanks (b ∷ bs) = rw e refl in
    let h : blanks bs ≤ length bs = s.within in
    let are : are_blanks (b ∷ take (blanks bs) bs) ≡ true = rw e s.are in
    subst (Blanks (b ∷ bs)) n (record { within = omega arith; are = ap are_blanks (take-more b (blanks bs) bs) ∙ are })
blanks-at b bs false e s =
    let n : 0 ≡ blanks (b ∷ bs) = rw e refl in
    subst (Blanks (b ∷ bs)) n (record { within = omega arith; are = refl })

pub blanks-is : (bs : List ℕ) → Blanks bs (blanks bs)
blanks-is [] = record { within = omega arith; are = refl }
blanks-is (b ∷ bs) = blanks-at b bs (is_line_blank b) refl (blanks-is bs)

-- ---- words

-- the line from p on: a gap, and what stands where the next item begins
behind-gap : (p : WordPlace) → drop p.at p.text ≡ take (gap (drop p.at p.text)) (drop p.at p.text) ++ drop (start p) p.text
behind-gap p =
    let bs = drop p.at p.text in
    sym (take-append-drop (gap bs) bs) ∙ ap (λ r. take (gap bs) bs ++ r) (drop-drop (gap bs) p.at p.text)

word-stands : (p : WordPlace) (w : AWord) (b : ℕ) (cs : List ℕ) → drop (start p) p.text ≡ b ∷ cs
    → found (b ∷ cs) ≡ Item (capital b) (blanks cs + 1) (length_behind cs) → begins_word b cs ≡ true → next_word p ≡ Ok (Some w) → WordStands p w
word-stands p w b cs e f begins h =
    let bs = drop p.at p.text in
    let g = gap-is bs in
    let s = blanks-is cs in
    let k : ℕ = blanks cs in
    let n : ℕ = length_behind cs in
    let item : found (drop (start p) p.text) ≡ Item (capital b) (k + 1) n = ap found e ∙ f in
    let q : WordPlace = record { line = p.line; text = p.text; at = start p + (k + 1) + n; nth = p.nth + 1 } in
    let after : after_word p ≡ q = ap (after_at p) item in
    let v : AWord = record { line = p.line; nth = p.nth + 1; from = start p + (k + 1); letter = capital b; number = take n (drop (start p + (k + 1)) p.text) } in
    let answer : Ok (Some v) ≡ next_word p = sym (ap (next_at p) item) in
    let both : Ok (Some v) ≡ Ok (Some w) = answer ∙ h in
    let is : w ≡ v = cc in
    let at : (after_word p).at ≡ start p + (k + 1) + n = ap (λ (q : WordPlace). q.at) after in
    let from : w.from ≡ start p + (k + 1) = ap (λ (w : AWord). w.from) is in
    let skipped : drop (k + 1) (b ∷ cs) ≡ drop k cs = rw add-one refl in
    let behind : drop (start p + (k + 1)) p.text ≡ drop k cs = sym (drop-drop (k + 1) (start p) p.text) ∙ ap (drop (k + 1)) e ∙ skipped in
    let number : w.number ≡ take n (drop k cs) = ap (λ (w : AWord). w.number) is ∙ ap (take n) behind in
    let rest : drop (after_word p).at p.text ≡ drop n (drop k cs) =
    ap (λ i. drop i p.text) at ∙ sym (drop-drop n (start p + (k + 1)) p.text) ∙ ap (drop n) behind in
    let digits : w.number ++ drop (after_word p).at p.text ≡ drop k cs =
    ap (λ x. x ++ drop (after_word p).at p.text) number ∙ ap (λ r. take n (drop k cs) ++ r) rest ∙ take-append-drop n (drop k cs) in
    let spaced : take k cs ++ (w.number ++ drop (after_word p).at p.text) ≡ cs = ap (λ r. take k cs ++ r) digits ∙ take-append-drop k cs in
    let within : gap bs ≤ length bs = g.within in
    let before : length (take (gap bs) bs) ≡ gap bs = length-take (gap bs) bs ∙ omega arith in
    let few : k ≤ length cs = s.within in
    let spaces : length (take k cs) ≡ k = length-take k cs ∙ omega arith in
    let some : 0 < n = lt-is 0 n (and_parts (is_letter b) _ begins).1 in
    let whole : n ≤ length (drop k cs) = number_length-le (drop k cs) in
    let size : length w.number ≡ n = ap length number ∙ length-take n (drop k cs) ∙ omega arith in
    record {
      before = take (gap bs) bs;
      letter = b;
      spaces = take k cs;
      bytes = behind-gap p ∙ ap (λ r. take (gap bs) bs ++ r) e ∙ ap (λ r. take (gap bs) bs ++ b ∷ r) (sym spaced);
      is_before = g.is;
      is_letter = (and_parts (is_letter b) _ begins).0;
      capital = ap (λ (w : AWord). w.letter) is;
      are_spaces = s.are;
      is_number = ap is_number number ∙ front_is_number (drop k cs) some;
      from = from ∙ omega arith;
      behind = at ∙ omega arith;
      line = ap (λ (w : AWord). w.line) is;
      nth = ap (λ (w : AWord). w.nth) is;
      line_behind = ap (λ (q : WordPlace). q.line) after;
      nth_behind = ap (λ (q : WordPlace). q.nth) after;
      text = ap (λ (q : WordPlace). q.text) after;
    }

stands-begun : (p : WordPlace) (w : AWord) (b : ℕ) (cs : List ℕ) (stop begins : Bool) → is_stop b ≡ stop → begins_word b cs ≡ begins
    → drop (start p) p.text ≡ b ∷ cs → next_word p ≡ Ok (Some w) → WordStands p w
stands-begun p w b cs true begins s f e h =
    let none : found (b ∷ cs) ≡ Nothing = rw s refl in
    let no : next_word p ≡ Ok None = ap (next_at p) (ap found e ∙ none) in cc
stands-begun p w b cs false false s f e h =
    let bad : found (b ∷ cs) ≡ Bad = rw (s, f) refl in
    let no : next_word p ≡ Err (p.line, p.nth + 1) = ap (next_at p) (ap found e ∙ bad) in cc
stands-begun p w b cs false true s f e h =
    let item : found (b ∷ cs) ≡ Item (capital b) (blanks cs + 1) (length_behind cs) = rw (s, f) refl in
    word-stands p w b cs e item f h

stands-at : (p : WordPlace) (w : AWord) (rest : List ℕ) → drop (start p) p.text ≡ rest → next_word p ≡ Ok (Some w) → WordStands p w
stands-at p w [] e h = let no : next_word p ≡ Ok None = ap (next_at p) (ap found e) in cc
stands-at p w (b ∷ cs) e h = stands-begun p w b cs (is_stop b) (begins_word b cs) refl refl e h

pub words_stand_in_order : WordsStandInOrder
words_stand_in_order p w h = stands-at p w (drop (start p) p.text) refl h

-- ---- ends

end-begun : (p : WordPlace) (b : ℕ) (cs : List ℕ) (stop begins : Bool) → is_stop b ≡ stop → begins_word b cs ≡ begins
    → next_at p (found (b ∷ cs)) ≡ Ok None → is_stop b ≡ true
end-begun p b cs true begins s f h = s
end-begun p b cs false false s f h =
    let bad : found (b ∷ cs) ≡ Bad = rw (s, f) refl in
    let no : Err (p.line, p.nth + 1) ≡ Ok None = sym (ap (next_at p) bad) ∙ h in cc
end-begun p b cs false true s f h =
    let item : found (b ∷ cs) ≡ Item (capital b) (blanks cs + 1) (length_behind cs) = rw (s, f) refl in
    let no : next_at p (Item (capital b) (blanks cs + 1) (length_behind cs)) ≡ Ok None = sym (ap (next_at p) item) ∙ h in cc

end-at : (p : WordPlace) (rest : List ℕ) → next_at p (found rest) ≡ Ok None → is_words_end rest ≡ true
end-at p [] h = refl
end-at p (b ∷ cs) h = end-begun p b cs (is_stop b) (begins_word b cs) refl refl h

pub words_end : WordsEnd
words_end p h =
    let bs = drop p.at p.text in
    record {
      before = take (gap bs) bs;
      rest = drop (start p) p.text;
      bytes = behind-gap p;
      is_before = (gap-is bs).is;
      is_end = end-at p (drop (start p) p.text) h;
    }

-- what stands where the bytes begin no word
record Broken (p : WordPlace) (b : ℕ) (cs : List ℕ) (e : ℕ × ℕ) : Type 0 where
  no_end : is_stop b ≡ false
  no_word : begins_word b cs ≡ false
  line : e.0 ≡ p.line
  nth : e.1 ≡ p.nth + 1

broken-begun : (p : WordPlace) (e : ℕ × ℕ) (b : ℕ) (cs : List ℕ) (stop begins : Bool) → is_stop b ≡ stop → begins_word b cs ≡ begins
    → next_at p (found (b ∷ cs)) ≡ Err e → Broken p b cs e
broken-begun p e b cs true begins s f h =
    let none : found (b ∷ cs) ≡ Nothing = rw s refl in
    let no : Ok None ≡ Err e = sym (ap (next_at p) none) ∙ h in cc
broken-begun p e b cs false false s f h =
    let bad : found (b ∷ cs) ≡ Bad = rw (s, f) refl in
    let both : Err (p.line, p.nth + 1) ≡ Err e = sym (ap (next_at p) bad) ∙ h in
    let is : e ≡ (p.line, p.nth + 1) = cc in
    record { no_end = s; no_word = f; line = ap (λ (e : ℕ × ℕ). e.0) is; nth = ap (λ (e : ℕ × ℕ). e.1) is }
broken-begun p e b cs false true s f h =
    let item : found (b ∷ cs) ≡ Item (capital b) (blanks cs + 1) (length_behind cs) = rw (s, f) refl in
    let no : next_at p (Item (capital b) (blanks cs + 1) (length_behind cs)) ≡ Err e = sym (ap (next_at p) item) ∙ h in cc

breaks-in : (p : WordPlace) (e : ℕ × ℕ) (rest : List ℕ) → drop (start p) p.text ≡ rest → next_at p (found rest) ≡ Err e → BreaksAt p e
breaks-in p e [] r h = cc
breaks-in p e (b ∷ cs) r h =
    let bs = drop p.at p.text in
    let k = broken-begun p e b cs (is_stop b) (begins_word b cs) refl refl h in
    record {
      before = take (gap bs) bs;
      byte = b;
      rest = cs;
      bytes = behind-gap p ∙ ap (λ x. take (gap bs) bs ++ x) r;
      is_before = (gap-is bs).is;
      is_no_end = k.no_end;
      is_no_word = k.no_word;
      line = k.line;
      nth = k.nth;
    }

pub words_break : WordsBreak
words_break p e h = breaks-in p e (drop (start p) p.text) refl h
