-- Where the tokens of a text stand.
use Rattle.std.proofs.Common.{◌≡◌, ◌+◌, ◌≤◌, ℕ, suc, Bool, true, false, nat_eq, List, [], ◌∷◌, ◌++◌, length, take, drop, drop-drop, take-append-drop, length-take, Some, None, Ok, Err, refl, sym, ap, subst, ◌∙◌, arith, if◌then◌else◌, codes}
use Rattle.bc_num.specs.Lines.{is_line_end}
use Rattle.bc_num.specs.Tokens.{is_digit, is_letter, is_mark, is_blank, is_word, is_inline, front, Piece, bad, free, item, after_minus, after_slash, no_digit, piece, behind, put_piece, cons, tokens_behind, tokens_of}
use Rattle.bc_lex.specs.Places.{TokenPlace}
use Rattle.bc_lex.specs.Tokens.{AToken, is_slash, free_length, free_behind_slash, free_in_comment, kind_of, seen_as, found, start, start_line, next_at, next_token, after_at, after_token}
use Rattle.bc_lex.specs.TokenOrder.{is_free, is_free_behind_slash, is_free_in_comment, TokenStands, TokensStandInOrder, TokensEnd, TokensBreakAt, TokensBreak, TokensBreakAgain}
use Rattle.bc_lex.specs.declared.tokens.Front.{Front}
use Rattle.bc_lex.specs.declared.tokens.Front.TheVariants.{Nothing, Bad, Item}
use Rattle.bc_lex.proofs.TokenStreams.{Taken, taken-take, TakenIn, taken-piece, IsSolid, solid_piece, gap-done}

-- ---- gaps

-- something stands behind the gap
abbrev Goes : ℕ → List ℕ → Type 0
Goes n bs = drop n bs ≡ [] → ⊥

abbrev GapIs : List ℕ → Type 0
GapIs bs = Goes (free_length bs) bs → is_free (take (free_length bs) bs) ≡ true

abbrev SlashIs : List ℕ → Type 0
SlashIs bs = (b : ℕ) → is_blank b ≡ false → is_slash b ≡ true → Goes (free_behind_slash bs) (b ∷ bs) → is_free (take (free_behind_slash bs) (b ∷ bs)) ≡ true

abbrev CommentIs : List ℕ → Type 0
CommentIs bs = Goes (free_in_comment bs) bs → is_free_in_comment (take (free_in_comment bs) bs) ≡ true

gap-is-by : (b : ℕ) (bs : List ℕ) (blank slash : Bool) → is_blank b ≡ blank → is_slash b ≡ slash → GapIs bs → SlashIs bs
    → Goes (if blank then suc (free_length bs) else (if slash then free_behind_slash bs else 0)) (b ∷ bs)
    → is_free (take (if blank then suc (free_length bs) else (if slash then free_behind_slash bs else 0)) (b ∷ bs)) ≡ true
gap-is-by b bs true slash e f g h k = rw e (g k)
gap-is-by b bs false true e f g h k = h b e f k
gap-is-by b bs false false e f g h k = refl

slash-is-by : (c : ℕ) (bs : List ℕ) (slash : Bool) → is_slash c ≡ slash → CommentIs bs → (b : ℕ) → is_blank b ≡ false → is_slash b ≡ true
    → Goes (if slash then suc (suc (free_in_comment bs)) else 0) (b ∷ c ∷ bs)
    → is_free (take (if slash then suc (suc (free_in_comment bs)) else 0) (b ∷ c ∷ bs)) ≡ true
slash-is-by c bs true g h b e f k = rw (e, f, g) (h k)
slash-is-by c bs false g h b e f k = refl

comment-is-by : (b : ℕ) (bs : List ℕ) (lf : Bool) → is_line_end b ≡ lf → GapIs bs → CommentIs bs
    → Goes (if lf then suc (free_length bs) else suc (free_in_comment bs)) (b ∷ bs)
    → is_free_in_comment (take (if lf then suc (free_length bs) else suc (free_in_comment bs)) (b ∷ bs)) ≡ true
comment-is-by b bs true e g h k = rw e (g k)
comment-is-by b bs false e g h k = rw e (h k)

mutual
  gap-is : (bs : List ℕ) → GapIs bs
  gap-is [] k = refl
  gap-is (b ∷ bs) k = gap-is-by b bs (is_blank b) (is_slash b) refl refl (gap-is bs) (slash-is bs) k

  slash-is : (bs : List ℕ) → SlashIs bs
  slash-is [] b e f k = refl
  slash-is (c ∷ bs) b e f k = slash-is-by c bs (is_slash c) refl (comment-is bs) b e f k

  comment-is : (bs : List ℕ) → CommentIs bs
  comment-is [] k = absurd (k refl)
  comment-is (b ∷ bs) k = comment-is-by b bs (is_line_end b) refl (gap-is bs) (comment-is bs) k

-- nothing stands behind the gap

abbrev GapEnds : List ℕ → Type 0
GapEnds bs = drop (free_length bs) bs ≡ [] → is_free (bs ++ codes "\n") ≡ true

abbrev SlashEnds : List ℕ → Type 0
SlashEnds bs = (b : ℕ) → drop (free_behind_slash bs) (b ∷ bs) ≡ [] → is_free_behind_slash (bs ++ codes "\n") ≡ true

abbrev CommentEnds : List ℕ → Type 0
CommentEnds bs = drop (free_in_comment bs) bs ≡ [] → is_free_in_comment (bs ++ codes "\n") ≡ true

gap-ends-by : (b : ℕ) (bs : List ℕ) (blank slash : Bool) → is_blank b ≡ blank → is_slash b ≡ slash → GapEnds bs → SlashEnds bs
    → drop (if blank then suc (free_length bs) else (if slash then free_behind_slash bs else 0)) (b ∷ bs) ≡ [] → is_free (b ∷ (bs ++ codes "\n")) ≡ true
gap-ends-by b bs true slash e f g h k = rw e (g k)
gap-ends-by b bs false true e f g h k = rw (e, f) (h b k)
gap-ends-by b bs false false e f g h k = cc k

slash-ends-by : (c : ℕ) (bs : List ℕ) (slash : Bool) → is_slash c ≡ slash → CommentEnds bs → (b : ℕ)
    → drop (if slash then suc (suc (free_in_comment bs)) else 0) (b ∷ c ∷ bs) ≡ [] → is_free_behind_slash (c ∷ (bs ++ codes "\n")) ≡ true
slash-ends-by c bs true g h b k = rw g (h k)
slash-ends-by c bs false g h b k = cc k

comment-ends-by : (b : ℕ) (bs : List ℕ) (lf : Bool) → is_line_end b ≡ lf → GapEnds bs → CommentEnds bs
    → drop (if lf then suc (free_length bs) else suc (free_in_comment bs)) (b ∷ bs) ≡ [] → is_free_in_comment (b ∷ (bs ++ codes "\n")) ≡ true
comment-ends-by b bs true e g h k = rw e (g k)
comment-ends-by b bs false e g h k = rw e (h k)

mutual
  gap-ends : (bs : List ℕ) → GapEnds bs
  gap-ends [] k = refl
  gap-ends (b ∷ bs) k = gap-ends-by b bs (is_blank b) (is_slash b) refl refl (gap-ends bs) (slash-ends bs) k

  slash-ends : (bs : List ℕ) → SlashEnds bs
  slash-ends [] b k = cc k
  slash-ends (c ∷ bs) b k = slash-ends-by c bs (is_slash c) refl (comment-ends bs) b k

  comment-ends : (bs : List ℕ) → CommentEnds bs
  comment-ends [] k = refl
  comment-ends (b ∷ bs) k = comment-ends-by b bs (is_line_end b) refl (gap-ends bs) (comment-ends bs) k

-- a gap is within the bytes

abbrev Short : ℕ → List ℕ → Type 0
Short n bs = n ≤ length bs

gap-short-by : (b : ℕ) (bs : List ℕ) (blank slash : Bool) → Short (free_length bs) bs → Short (free_behind_slash bs) (b ∷ bs)
    → Short (if blank then suc (free_length bs) else (if slash then free_behind_slash bs else 0)) (b ∷ bs)
gap-short-by b bs true slash g h = omega arith
gap-short-by b bs false true g h = h
gap-short-by b bs false false g h = omega arith

slash-short-by : (b c : ℕ) (bs : List ℕ) (slash : Bool) → Short (free_in_comment bs) bs → Short (if slash then suc (suc (free_in_comment bs)) else 0) (b ∷ c ∷ bs)
slash-short-by b c bs true g = omega arith
slash-short-by b c bs false g = omega arith

comment-short-by : (b : ℕ) (bs : List ℕ) (lf : Bool) → Short (free_length bs) bs → Short (free_in_comment bs) bs → Short (if lf then suc (free_length bs) else suc (free_in_comment bs)) (b ∷ bs)
comment-short-by b bs true g h = omega arith
comment-short-by b bs false g h = omega arith

mutual
  gap-short : (bs : List ℕ) → Short (free_length bs) bs
  gap-short [] = omega arith
  gap-short (b ∷ bs) = gap-short-by b bs (is_blank b) (is_slash b) (gap-short bs) (slash-short bs b)

  slash-short : (bs : List ℕ) (b : ℕ) → Short (free_behind_slash bs) (b ∷ bs)
  slash-short [] b = omega arith
  slash-short (c ∷ bs) b = slash-short-by b c bs (is_slash c) (comment-short bs)

  comment-short : (bs : List ℕ) → Short (free_in_comment bs) bs
  comment-short [] = omega arith
  comment-short (b ∷ bs) = comment-short-by b bs (is_line_end b) (gap-short bs) (comment-short bs)

-- ---- the bytes of a token are one token

either : {X : Type 0} (P : X → Type 0) (b : Bool) (x y : X) → (b ≡ true → P x) → (b ≡ false → P y) → P (if b then x else y)
either P true x y p q = p refl
either P false x y p q = q refl

front-front : (test : ℕ → Bool) (bs : List ℕ) → front test (front test bs) ≡ front test bs
front-front test [] = refl
front-front test (b ∷ bs) = front-by (test b) refl (front-front test bs)
  where
    front-by : (c : Bool) → test b ≡ c → front test (front test bs) ≡ front test bs → front test (if c then b ∷ front test bs else []) ≡ (if c then b ∷ front test bs else [])
    front-by true e h = ap (λ c. if c then b ∷ front test (front test bs) else []) e ∙ ap (λ l. b ∷ l) h
    front-by false e h = refl

-- b, taken alone with what belongs to it, is a token
abbrev Alone : ℕ → Piece → Type 0
Alone b q = (xs : List ℕ) → q ≡ item xs → piece b xs ≡ item xs

item-same : (xs ys : List ℕ) → item xs ≡ item ys → xs ≡ ys
item-same xs ys e = cc e

minus-alone : (b : ℕ) (ds : List ℕ) → is_digit b ≡ false → nat_eq b 45 ≡ true → front is_digit ds ≡ ds → Alone b (after_minus ds)
minus-alone b [] d m f xs e = cc e
minus-alone b (c ∷ ds) d m f xs e =
    let same : c ∷ ds ≡ xs = item-same (c ∷ ds) xs e in
    subst (λ l. piece b l ≡ item l) same (ap (λ t. if t then item (front is_digit (c ∷ ds)) else no_digit b (c ∷ ds)) d ∙ ap (λ t. if t then after_minus (front is_digit (c ∷ ds)) else (if is_letter b then item (front is_word (c ∷ ds)) else (if is_mark b then item [] else (if is_blank b then free [] else (if nat_eq b 47 then after_slash (c ∷ ds) else bad))))) m ∙ ap after_minus f)

slash-alone : (b : ℕ) (bs : List ℕ) → Alone b (after_slash bs)
slash-alone b [] xs e = cc e
slash-alone b (c ∷ bs) xs e = either (λ q. q ≡ item xs → piece b xs ≡ item xs) (nat_eq c 47) (free (c ∷ front is_inline bs)) bad (λ h k. cc k) (λ h k. cc k) e

alone : (b : ℕ) (bs : List ℕ) → Alone b (piece b bs)
alone b bs =
    either (Alone b) (is_digit b) (item (front is_digit bs)) (no_digit b bs)
    (λ d xs e. subst (λ l. piece b l ≡ item l) (item-same (front is_digit bs) xs e) (ap (λ t. if t then item (front is_digit (front is_digit bs)) else no_digit b (front is_digit bs)) d ∙ ap item (front-front is_digit bs)))
    (λ d. either (Alone b) (nat_eq b 45) (after_minus (front is_digit bs)) _
    (λ m. minus-alone b (front is_digit bs) d m (front-front is_digit bs))
    (λ m. either (Alone b) (is_letter b) (item (front is_word bs)) _
    (λ l xs e. subst (λ l. piece b l ≡ item l) (item-same (front is_word bs) xs e) (rw (d, m, l) (ap item (front-front is_word bs))))
    (λ l. either (Alone b) (is_mark b) (item []) _
    (λ k xs e. subst (λ l. piece b l ≡ item l) (item-same [] xs e) (rw (d, m, l, k) refl))
    (λ k. either (Alone b) (is_blank b) (free []) _ (λ h xs e. cc e) (λ h. either (Alone b) (nat_eq b 47) (after_slash bs) bad (λ s. slash-alone b bs) (λ s xs e. cc e))))))

passed-all : (xs : List ℕ) → tokens_behind xs xs ≡ Some []
passed-all [] = refl
passed-all (x ∷ xs) = passed-all xs

one-token : (b : ℕ) (bs xs : List ℕ) → piece b bs ≡ item xs → tokens_of (b ∷ xs) ≡ Some ((b ∷ xs) ∷ [])
one-token b bs xs e = ap (λ q. put_piece q b (tokens_behind (behind q) xs)) (alone b bs xs e) ∙ ap (cons (b ∷ xs)) (passed-all xs)

-- ---- tokens

-- the text from p on: a gap, and what stands where the next token begins
behind-gap : (p : TokenPlace) → drop p.at p.text ≡ take (free_length (drop p.at p.text)) (drop p.at p.text) ++ drop (start p) p.text
behind-gap p =
    let bs = drop p.at p.text in
    sym (take-append-drop (free_length bs) bs) ∙ ap (λ r. take (free_length bs) bs ++ r) (drop-drop (free_length bs) p.at p.text)

goes-on : (p : TokenPlace) (b : ℕ) (cs : List ℕ) → drop (start p) p.text ≡ b ∷ cs → Goes (free_length (drop p.at p.text)) (drop p.at p.text)
goes-on p b cs e k = let no : [] ≡ b ∷ cs = sym k ∙ drop-drop (free_length (drop p.at p.text)) p.at p.text ∙ e in cc no

token-stands : (p : TokenPlace) (t : AToken) (b : ℕ) (cs xs : List ℕ) → drop (start p) p.text ≡ b ∷ cs → piece b cs ≡ item xs → next_token p ≡ Ok (Some t) → TokenStands p t
token-stands p t b cs xs e f h =
    let bs = drop p.at p.text in
    let n : ℕ = suc (length xs) in
    let taken : Taken xs cs = ap-taken f in
    let item_is : found (drop (start p) p.text) ≡ Item (kind_of b) n = ap found e ∙ ap (λ q. seen_as q b) f in
    let q : TokenPlace = record { text = p.text; at = start p + n; line = start_line p; nth = p.nth + 1 } in
    let after : after_token p ≡ q = ap (after_at p) item_is in
    let v : AToken = record { line = start_line p; nth = p.nth + 1; from = start p; kind = kind_of b; text = take n (drop (start p) p.text) } in
    let answer : Ok (Some v) ≡ next_token p = sym (ap (next_at p) item_is) in
    let both : Ok (Some v) ≡ Ok (Some t) = answer ∙ h in
    let is : t ≡ v = cc in
    let at : (after_token p).at ≡ start p + n = ap (λ (q : TokenPlace). q.at) after in
    let bytes_are : t.text ≡ b ∷ xs = ap (λ (t : AToken). t.text) is ∙ ap (take n) e ∙ ap (λ l. b ∷ l) (taken-take xs cs taken) in
    let rest : drop (after_token p).at p.text ≡ drop n (b ∷ cs) = ap (λ i. drop i p.text) at ∙ sym (drop-drop n (start p) p.text) ∙ ap (drop n) e in
    let all : t.text ++ drop (after_token p).at p.text ≡ drop (start p) p.text =
    ap (λ l. l ++ drop (after_token p).at p.text) (ap (λ (t : AToken). t.text) is ∙ ap (take n) e) ∙ ap (λ r. take n (b ∷ cs) ++ r) rest ∙ take-append-drop n (b ∷ cs) ∙ sym e in
    let within : free_length bs ≤ length bs = gap-short bs in
    let before : length (take (free_length bs) bs) ≡ free_length bs = length-take (free_length bs) bs ∙ omega arith in
    let from : t.from ≡ start p = ap (λ (t : AToken). t.from) is in
    let size : length t.text ≡ n = ap length bytes_are in
    record {
      before = take (free_length bs) bs;
      bytes = behind-gap p ∙ ap (λ r. take (free_length bs) bs ++ r) (sym all);
      is_before = gap-is bs (goes-on p b cs e);
      is_token = ap tokens_of bytes_are ∙ one-token b cs xs f ∙ ap (λ w. Some (w ∷ [])) (sym bytes_are);
      from = from ∙ omega arith;
      behind = at ∙ omega arith;
      line = ap (λ (t : AToken). t.line) is;
      nth = ap (λ (t : AToken). t.nth) is;
      line_behind = ap (λ (q : TokenPlace). q.line) after ∙ sym (ap (λ (t : AToken). t.line) is);
      nth_behind = ap (λ (q : TokenPlace). q.nth) after ∙ sym (ap (λ (t : AToken). t.nth) is);
      text = ap (λ (q : TokenPlace). q.text) after;
    }
  where
    ap-taken : piece b cs ≡ item xs → Taken xs cs
    ap-taken g = subst (TakenIn cs) g (taken-piece b cs)

stands-by : (p : TokenPlace) (t : AToken) (b : ℕ) (cs : List ℕ) (q : Piece) → drop (start p) p.text ≡ b ∷ cs → piece b cs ≡ q → next_token p ≡ Ok (Some t) → TokenStands p t
stands-by p t b cs bad e f h = let no : next_token p ≡ Err (start_line p, p.nth + 1) = ap (next_at p) (ap found e ∙ ap (λ q. seen_as q b) f) in cc
stands-by p t b cs (free xs) e f h = let no : next_token p ≡ Err (start_line p, p.nth + 1) = ap (next_at p) (ap found e ∙ ap (λ q. seen_as q b) f) in cc
stands-by p t b cs (item xs) e f h = token-stands p t b cs xs e f h

stands-at : (p : TokenPlace) (t : AToken) (rest : List ℕ) → drop (start p) p.text ≡ rest → next_token p ≡ Ok (Some t) → TokenStands p t
stands-at p t [] e h = let no : next_token p ≡ Ok None = ap (next_at p) (ap found e) in cc
stands-at p t (b ∷ cs) e h = stands-by p t b cs (piece b cs) e refl h

pub tokens_stand_in_order : TokensStandInOrder
tokens_stand_in_order p t h = stands-at p t (drop (start p) p.text) refl h

-- ---- ends

end-by : (p : TokenPlace) (b : ℕ) (cs : List ℕ) (q : Piece) → next_at p (seen_as q b) ≡ Ok None → b ∷ cs ≡ []
end-by p b cs bad h = cc h
end-by p b cs (free xs) h = cc h
end-by p b cs (item xs) h = cc h

end-at : (p : TokenPlace) (rest : List ℕ) → next_at p (found rest) ≡ Ok None → rest ≡ []
end-at p [] h = refl
end-at p (b ∷ cs) h = end-by p b cs (piece b cs) h

pub tokens_end : TokensEnd
tokens_end p h = let bs = drop p.at p.text in gap-ends bs (drop-drop (free_length bs) p.at p.text ∙ end-at p (drop (start p) p.text) h)

breaks-by : (p : TokenPlace) (e : ℕ × ℕ) (b : ℕ) (cs : List ℕ) (q : Piece) → drop (start p) p.text ≡ b ∷ cs → piece b cs ≡ q → next_at p (seen_as q b) ≡ Err e → TokensBreakAt p e
breaks-by p e b cs bad r f h =
    let bs = drop p.at p.text in
    let is : e ≡ (start_line p, p.nth + 1) = cc h in
    record {
      before = take (free_length bs) bs;
      byte = b;
      rest = cs;
      bytes = behind-gap p ∙ ap (λ x. take (free_length bs) bs ++ x) r;
      is_before = gap-is bs (goes-on p b cs r);
      is_no_token = f;
      line = ap (λ (e : ℕ × ℕ). e.0) is;
      nth = ap (λ (e : ℕ × ℕ). e.1) is;
    }
breaks-by p e b cs (free xs) r f h =
    let bs = drop p.at p.text in
    let none : IsSolid (b ∷ cs) = subst IsSolid (drop-drop (free_length bs) p.at p.text ∙ r) (gap-done bs) in
    absurd (solid_piece b cs xs none f)
breaks-by p e b cs (item xs) r f h = cc h

breaks-at : (p : TokenPlace) (e : ℕ × ℕ) (rest : List ℕ) → drop (start p) p.text ≡ rest → next_at p (found rest) ≡ Err e → TokensBreakAt p e
breaks-at p e [] r h = cc h
breaks-at p e (b ∷ cs) r h = breaks-by p e b cs (piece b cs) r refl h

pub tokens_break : TokensBreak
tokens_break p e h = breaks-at p e (drop (start p) p.text) refl h

stays-at : (p : TokenPlace) (e : ℕ × ℕ) (f : Front) → next_at p f ≡ Err e → after_at p f ≡ p
stays-at p e Nothing h = cc h
stays-at p e Bad h = refl
stays-at p e (Item k n) h = cc h

pub breaks_again : TokensBreakAgain
breaks_again p e h = ap next_token (stays-at p e (found (drop (start p) p.text)) h) ∙ h
