-- Where the next word between blanks stands, and what stands before it.
use Rattle.std.proofs.Common.{◌≡◌, ◌≤◌, ℕ, ◌+◌, Bool, true, false, nat_eq, List, [], ◌∷◌, ◌++◌, length, take, drop, Some, None, refl, sym, ap, ◌∙◌, subst, arith, add-one}
use Rattle.std.proofs.lemmas.Bool.{and_from}
use Rattle.std.proofs.lemmas.List.{drop-drop, length-take, take-append-drop}
use Rattle.std.specs.List.{list_all}
use Rattle.bc_num.specs.Words.{is_line_blank, blanks}
use Rattle.bc_lex.specs.Places.{WordPlace}
use Rattle.bc_lex.specs.Words.{PlainWord, is_comment, is_part, goes_on, word_length, plain_start, plain_at, next_plain, after_plain_at, after_plain}
use Rattle.bc_lex.specs.Order.{is_whole_word, PlainStands, PlainStandInOrder, is_plain_end, PlainEnd}
use Rattle.bc_lex.proofs.Orders.{take-more, blanks-is}

-- the first n bytes are a word, with which the rest does not go on
record Parts (bs : List ℕ) (n : ℕ) : Type 0 where
  within : n ≤ length bs
  are : list_all is_part (take n bs) ≡ true
  whole : goes_on (drop n bs) ≡ false

parts-at : (b : ℕ) (bs : List ℕ) (part : Bool) → is_part b ≡ part → Parts bs (word_length bs) → Parts (b ∷ bs) (word_length (b ∷ bs))
parts-at b bs true e s =
    let n : word_length bs + 1 ≡ word_length (b ∷ bs) = rw e refl in
    let h : word_length bs ≤ length bs = s.within in
    let are : list_all is_part (b ∷ take (word_length bs) bs) ≡ true = rw e s.are in
    let behind : drop (word_length bs + 1) (b ∷ bs) ≡ drop (word_length bs) bs = rw add-one refl in
    subst (Parts (b ∷ bs)) n (record { within = omega arith; are = ap (list_all is_part) (take-more b (word_length bs) bs) ∙ are; whole = ap goes_on behind ∙ s.whole })
parts-at b bs false e s =
    let n : 0 ≡ word_length (b ∷ bs) = rw e refl in
    subst (Parts (b ∷ bs)) n (record { within = omega arith; are = refl; whole = e })

parts-is : (bs : List ℕ) → Parts bs (word_length bs)
parts-is [] = record { within = omega arith; are = refl; whole = refl }
parts-is (b ∷ bs) = parts-at b bs (is_part b) refl (parts-is bs)

begins-at : (b : ℕ) (bs : List ℕ) (part : Bool) → is_part b ≡ part → nat_eq (word_length (b ∷ bs)) 0 ≡ false → goes_on (take (word_length (b ∷ bs)) (b ∷ bs)) ≡ true
begins-at b bs true e h =
    let n : word_length (b ∷ bs) ≡ word_length bs + 1 = rw e refl in
    ap (λ n. goes_on (take n (b ∷ bs))) n ∙ ap goes_on (take-more b (word_length bs) bs) ∙ e
begins-at b bs false e h =
    let n : word_length (b ∷ bs) ≡ 0 = rw e refl in
    let no : nat_eq (word_length (b ∷ bs)) 0 ≡ true = ap (λ n. nat_eq n 0) n in cc

begins : (bs : List ℕ) → nat_eq (word_length bs) 0 ≡ false → goes_on (take (word_length bs) bs) ≡ true
begins [] h = cc
begins (b ∷ bs) h = begins-at b bs (is_part b) refl h

-- the line from p on: blanks, and what stands where the next word begins
behind-blanks : (p : WordPlace) → drop p.at p.text ≡ take (blanks (drop p.at p.text)) (drop p.at p.text) ++ drop (plain_start p) p.text
behind-blanks p =
    let bs = drop p.at p.text in
    sym (take-append-drop (blanks bs) bs) ∙ ap (λ r. take (blanks bs) bs ++ r) (drop-drop (blanks bs) p.at p.text)

stands : (p : WordPlace) (w : PlainWord) (rest : List ℕ) (none : Bool) → rest ≡ drop (plain_start p) p.text → nat_eq (word_length rest) 0 ≡ none
    → next_plain p ≡ Some w → PlainStands p w
stands p w rest true r h e =
    let no : next_plain p ≡ None =
    ap (λ rest. plain_at p (word_length rest)) (sym r) ∙ (let is : plain_at p (word_length rest) ≡ None = rw h refl in is) in cc
stands p w rest false r h e =
    let bs = drop p.at p.text in
    let n : ℕ = word_length rest in
    let s = blanks-is bs in
    let k = parts-is rest in
    let v : PlainWord = record { line = p.line; nth = p.nth + 1; from = plain_start p; text = take n (drop (plain_start p) p.text) } in
    let q : WordPlace = record { line = p.line; text = p.text; at = plain_start p + n; nth = p.nth + 1 } in
    let answer : next_plain p ≡ Some v =
    ap (λ rest. plain_at p (word_length rest)) (sym r) ∙ (let is : plain_at p (word_length rest) ≡ Some v = rw h refl in is) in
    let after : after_plain p ≡ q =
    ap (λ rest. after_plain_at p (word_length rest)) (sym r) ∙ (let is : after_plain_at p (word_length rest) ≡ q = rw h refl in is) in
    let both_are : Some v ≡ Some w = sym answer ∙ e in
    let is : w ≡ v = cc in
    let text : w.text ≡ take n rest = ap (λ (w : PlainWord). w.text) is ∙ ap (take n) (sym r) in
    let at : (after_plain p).at ≡ plain_start p + n = ap (λ (q : WordPlace). q.at) after in
    let behind : drop (after_plain p).at p.text ≡ drop n rest = ap (λ i. drop i p.text) at ∙ sym (drop-drop n (plain_start p) p.text) ∙ ap (drop n) (sym r) in
    let digits : w.text ++ drop (after_plain p).at p.text ≡ drop (plain_start p) p.text =
    ap (λ x. x ++ drop (after_plain p).at p.text) text ∙ ap (λ x. take n rest ++ x) behind ∙ take-append-drop n rest ∙ r in
    let few : blanks bs ≤ length bs = s.within in
    let before : length (take (blanks bs) bs) ≡ blanks bs = length-take (blanks bs) bs ∙ omega arith in
    let within : n ≤ length rest = k.within in
    let size : length w.text ≡ n = ap length text ∙ length-take n rest ∙ omega arith in
    let from : w.from ≡ plain_start p = ap (λ (w : PlainWord). w.from) is in
    record {
      before = take (blanks bs) bs;
      bytes = behind-blanks p ∙ ap (λ x. take (blanks bs) bs ++ x) (sym digits);
      are_before = s.are;
      is_word = ap is_whole_word text ∙ and_from (goes_on (take n rest)) (list_all is_part (take n rest)) (begins rest h) k.are;
      is_whole = ap goes_on behind ∙ k.whole;
      from = from ∙ omega arith;
      behind = at ∙ omega arith;
      line = ap (λ (w : PlainWord). w.line) is;
      nth = ap (λ (w : PlainWord). w.nth) is;
      line_behind = ap (λ (q : WordPlace). q.line) after;
      nth_behind = ap (λ (q : WordPlace). q.nth) after;
      text = ap (λ (q : WordPlace). q.text) after;
    }

pub plain_stand_in_order : PlainStandInOrder
plain_stand_in_order p w e = stands p w (drop (plain_start p) p.text) _ refl refl e

-- ---- ends

-- a word begins there, or the words end
abbrev Leads : List ℕ → Type 0
Leads [] = Unit {0}
Leads (b ∷ bs) = is_line_blank b ≡ false

leads-at : (b : ℕ) (bs : List ℕ) (blank : Bool) → is_line_blank b ≡ blank → Leads (drop (blanks bs) bs) → Leads (drop (blanks (b ∷ bs)) (b ∷ bs))
leads-at b bs true e h =
    let n : blanks (b ∷ bs) ≡ blanks bs + 1 = rw e refl in
    let behind : drop (blanks bs + 1) (b ∷ bs) ≡ drop (blanks bs) bs = rw add-one refl in
    subst Leads (sym (ap (λ n. drop n (b ∷ bs)) n ∙ behind)) h
leads-at b bs false e h =
    let n : blanks (b ∷ bs) ≡ 0 = rw e refl in
    let here : Leads (b ∷ bs) = e in
    subst Leads (sym (ap (λ n. drop n (b ∷ bs)) n)) here

leads : (bs : List ℕ) → Leads (drop (blanks bs) bs)
leads [] = tt
leads (b ∷ bs) = leads-at b bs (is_line_blank b) refl (leads bs)

end-byte : (b : ℕ) (bs : List ℕ) (comment : Bool) → is_comment b ≡ comment → is_line_blank b ≡ false → nat_eq (word_length (b ∷ bs)) 0 ≡ true → is_comment b ≡ true
end-byte b bs true c e h = c
end-byte b bs false c e h =
    let part : is_part b ≡ true = rw (c, e) refl in
    let n : word_length (b ∷ bs) ≡ word_length bs + 1 = rw part refl in
    let more : nat_eq (word_length bs + 1) 0 ≡ false = grind arith in
    let no : nat_eq (word_length (b ∷ bs)) 0 ≡ false = ap (λ n. nat_eq n 0) n ∙ more in cc

end-at : (rest : List ℕ) → Leads rest → nat_eq (word_length rest) 0 ≡ true → is_plain_end rest ≡ true
end-at [] e h = refl
end-at (b ∷ bs) e h = end-byte b bs (is_comment b) refl e h

ends-by : (p : WordPlace) (n : ℕ) (none : Bool) → nat_eq n 0 ≡ none → plain_at p n ≡ None → nat_eq n 0 ≡ true
ends-by p n true h e = h
ends-by p n false h e =
    let v : PlainWord = record { line = p.line; nth = p.nth + 1; from = plain_start p; text = take n (drop (plain_start p) p.text) } in
    let some : plain_at p n ≡ Some v = rw h refl in cc

pub plain_end : PlainEnd
plain_end p e =
    let bs = drop p.at p.text in
    let rest = drop (plain_start p) p.text in
    let lead : Leads rest = subst Leads (drop-drop (blanks bs) p.at p.text) (leads bs) in
    record {
      before = take (blanks bs) bs;
      rest = rest;
      bytes = behind-blanks p;
      are_before = (blanks-is bs).are;
      is_end = end-at rest lead (ends-by p (word_length rest) _ refl e);
    }
