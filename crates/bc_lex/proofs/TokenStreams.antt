-- The tokens that come one after another are those of the stream of the text, and these are the tokens of the text.
use Rattle.std.proofs.Common.{◌≡◌, ◌+◌, ℕ, suc, Bool, true, false, not, ◌||◌, nat_eq, List, [], ◌∷◌, length, take, drop, drop-drop, refl, sym, ap, subst, ◌∙◌, arith, if◌then◌else◌, eqb-true, Ok, None}
use Rattle.bc_num.specs.Lines.{is_line_end}
use Rattle.bc_num.specs.Tokens.{is_digit, is_letter, is_mark, is_blank, is_word, is_inline, front, Piece, bad, free, item, after_minus, after_slash, piece, behind, put_piece, tokens_behind}
use Rattle.bc_lex.specs.Places.{TokenPlace}
use Rattle.bc_lex.specs.Tokens.{is_slash, free_length, free_behind_slash, free_in_comment, line_ends, kind_of, seen_as, found, start, start_line, next_at, after_at, after_token, next_token}
use Rattle.bc_lex.specs.Stream.{Spot, Stream, ended, broken, token, begin, past, over, stream_behind, stream_from, tokens_left, token_then, texts, NextTokenIsFirst, StreamIsTokens}
use Rattle.bc_lex.specs.declared.tokens.Kind.{Kind}
use Rattle.bc_lex.specs.declared.tokens.Front.{Front}
use Rattle.bc_lex.specs.declared.tokens.Front.TheVariants.{Nothing, Bad, Item}

texts-begin : (q : Piece) (p : Spot) (b : ℕ) (more : Stream) → texts (begin q p b more) ≡ put_piece q b (texts more)
texts-begin bad p b more = refl
texts-begin (free bs) p b more = refl
texts-begin (item bs) p b more = refl

texts-behind : (taken : List ℕ) (p : Spot) (bs : List ℕ) → texts (stream_behind taken p bs) ≡ tokens_behind taken bs
texts-behind taken p [] = refl
texts-behind (x ∷ taken) p (b ∷ bs) = texts-behind taken (over p b) bs
texts-behind [] p (b ∷ bs) =
    texts-begin (piece b bs) p b (stream_behind (behind (piece b bs)) (past (piece b bs) p b) bs)
    ∙ ap (put_piece (piece b bs) b) (texts-behind (behind (piece b bs)) (past (piece b bs) p b) bs)

pub stream_is_tokens : StreamIsTokens
stream_is_tokens text = texts-behind [] (record { at = 0; line = 1; nth = 0 }) text

-- ---- what is taken of a token

-- the bytes xs stand at the front of bs, and none of them is LF
abbrev pub Taken : List ℕ → List ℕ → Type 0
Taken [] bs = Unit {0}
Taken (x ∷ xs) [] = ⊥
Taken (x ∷ xs) (b ∷ bs) = (x ≡ b) × (is_inline b ≡ true) × Taken xs bs

line_same : (c : Bool) (n : ℕ) → not c ≡ true → (if c then n + 1 else n) ≡ n
line_same true n e = cc e
line_same false n e = refl

abbrev pub at_spot : ℕ → ℕ → ℕ → Spot
at_spot at line nth = record { at = at; line = line; nth = nth }

taken-step : (xs bs : List ℕ) (p : Spot) → Taken xs bs → stream_behind xs p bs ≡ stream_from (at_spot (p.at + length xs) p.line p.nth) (drop (length xs) bs)
taken-step [] bs p h = let same : p.at ≡ p.at + 0 = omega arith in ap (λ k. stream_from (at_spot k p.line p.nth) bs) same
taken-step (x ∷ xs) [] p h = absurd h
taken-step (x ∷ xs) (b ∷ bs) p h =
    let same : p.at + 1 + length xs ≡ p.at + suc (length xs) = omega arith in
    taken-step xs bs (over p b) h.2 ∙ (λ i. stream_from (at_spot (same i) (line_same (nat_eq b 10) p.line h.1 i) p.nth) (drop (length xs) bs))

pub taken-take : (xs bs : List ℕ) → Taken xs bs → take (length xs) bs ≡ xs
taken-take [] bs h = refl
taken-take (x ∷ xs) [] h = absurd h
taken-take (x ∷ xs) (b ∷ bs) h = (λ i. sym h.0 i ∷ taken-take xs bs h.2 i)

either_if : {X : Type 0} (P : X → Type 0) (b : Bool) (x y : X) → (b ≡ true → P x) → P y → P (if b then x else y)
either_if P true x y p q = p refl
either_if P false x y p q = q

-- a byte that passes is no LF, where LF does not pass
not_lf : (test : ℕ → Bool) → test 10 ≡ false → (b : ℕ) → test b ≡ true → is_inline b ≡ true
not_lf test e b h = either_lf (nat_eq b 10) refl
  where
    either_lf : (c : Bool) → nat_eq b 10 ≡ c → not c ≡ true
    either_lf true k = let is : b ≡ 10 = eqb-true b 10 k in cc (h, e, is)
    either_lf false k = refl

taken-front : (test : ℕ → Bool) → test 10 ≡ false → (bs : List ℕ) → Taken (front test bs) bs
taken-front test e [] = tt
taken-front test e (b ∷ bs) = either_if (λ xs. Taken xs (b ∷ bs)) (test b) (b ∷ front test bs) [] (λ h. (refl, not_lf test e b h, taken-front test e bs)) tt

taken-minus : (xs bs : List ℕ) → Taken xs bs → Taken (behind (after_minus xs)) bs
taken-minus [] bs h = tt
taken-minus (x ∷ xs) bs h = h

abbrev pub TakenIn : List ℕ → Piece → Type 0
TakenIn bs q = Taken (behind q) bs

taken-slash : (bs : List ℕ) → TakenIn bs (after_slash bs)
taken-slash [] = tt
taken-slash (b ∷ bs) =
    either_if (TakenIn (b ∷ bs)) (nat_eq b 47) (free (b ∷ front is_inline bs)) bad (λ h. (refl, not_lf (λ c. nat_eq c 47) refl b h, taken-front is_inline refl bs)) tt

pub taken-piece : (b : ℕ) (bs : List ℕ) → TakenIn bs (piece b bs)
taken-piece b bs =
    either_if (TakenIn bs) (is_digit b) _ _ (λ h. taken-front is_digit refl bs)
    (either_if (TakenIn bs) (nat_eq b 45) _ _ (λ h. taken-minus (front is_digit bs) bs (taken-front is_digit refl bs))
    (either_if (TakenIn bs) (is_letter b) _ _ (λ h. taken-front is_word refl bs)
    (either_if (TakenIn bs) (is_mark b) _ _ (λ h. tt) (either_if (TakenIn bs) (is_blank b) _ _ (λ h. tt) (either_if (TakenIn bs) (nat_eq b 47) _ _ (λ h. taken-slash bs) tt)))))

-- ---- what stands where no gap begins

item_inline : (b : ℕ) (bs : List ℕ) (k : Kind) (n : ℕ) → found (b ∷ bs) ≡ Item k n → is_inline b ≡ true
item_inline b bs k n e = either_lf (nat_eq b 10) refl
  where
    either_lf : (c : Bool) → nat_eq b 10 ≡ c → not c ≡ true
    either_lf true h = let is : b ≡ 10 = eqb-true b 10 h in let bad_there : Bad ≡ Item k n = ap (λ c. found (c ∷ bs)) (sym is) ∙ e in cc bad_there
    either_lf false h = refl

item_at : (q : Piece) (p : Spot) (b n : ℕ) (k : Kind) (bs : List ℕ) → TakenIn bs q → is_inline b ≡ true → seen_as q b ≡ Item k n
    → begin q p b (stream_behind (behind q) (past q p b) bs)
    ≡ token (record { line = p.line; nth = p.nth + 1; from = p.at; kind = k; text = take n (b ∷ bs) }) (stream_from (at_spot (p.at + n) p.line (p.nth + 1)) (drop n (b ∷ bs)))
item_at bad p b n k bs h l e = cc e
item_at (free xs) p b n k bs h l e = cc e
item_at (item xs) p b n k bs h l e =
    let next : suc (length xs) ≡ n = cc e in
    let kind : kind_of b ≡ k = cc e in
    let same : p.at + 1 + length xs ≡ p.at + n = omega (arith, next) in
    ap (token (record { line = p.line; nth = p.nth + 1; from = p.at; kind = kind_of b; text = b ∷ xs })) (taken-step xs bs (over (record p { nth = p.nth + 1 }) b) h)
    ∙ (λ i.
    token (record { line = p.line; nth = p.nth + 1; from = p.at; kind = kind i; text = b ∷ sym (taken-take xs bs h) i })
    (stream_from (at_spot (same i) (line_same (nat_eq b 10) p.line l i) (p.nth + 1)) (drop (next i) (b ∷ bs))))
    ∙ (λ i. token (record { line = p.line; nth = p.nth + 1; from = p.at; kind = k; text = take (next i) (b ∷ bs) }) (stream_from (at_spot (p.at + n) p.line (p.nth + 1)) (drop n (b ∷ bs))))

-- the bytes begin with nothing that is free
abbrev pub IsSolid : List ℕ → Type 0
IsSolid bs = free_length bs ≡ 0

-- what begins with a byte that is neither a blank nor `/` is not free; and nothing is free at a `/` behind which no other stands
abbrev IsFree : Piece → Type 0
IsFree (free xs) = Unit {0}
IsFree _ = ⊥

either : {X : Type 0} (P : X → Type 0) (b : Bool) (x y : X) → (b ≡ true → P x) → (b ≡ false → P y) → P (if b then x else y)
either P true x y p q = p refl
either P false x y p q = q refl

minus-solid : (xs : List ℕ) → IsFree (after_minus xs) → ⊥
minus-solid [] h = h
minus-solid (x ∷ xs) h = h

slash-solid : (bs : List ℕ) → free_behind_slash bs ≡ 0 → IsFree (after_slash bs) → ⊥
slash-solid [] h f = f
slash-solid (b ∷ bs) h f = slash-by (nat_eq b 47) h f
  where
    slash-by : (c : Bool) → (if c then suc (suc (free_in_comment bs)) else 0) ≡ 0 → IsFree (if c then free (b ∷ front is_inline bs) else bad) → ⊥
    slash-by true h f = cc h
    slash-by false h f = f

abbrev NoGap : ℕ → List ℕ → Bool → Bool → Type 0
NoGap b bs blank slash = (if blank then suc (free_length bs) else (if slash then free_behind_slash bs else 0)) ≡ 0

last-solid : (b : ℕ) (bs : List ℕ) (blank slash : Bool) → NoGap b bs blank slash → IsFree (if blank then free [] else (if slash then after_slash bs else bad)) → ⊥
last-solid b bs true slash h f = cc h
last-solid b bs false true h f = slash-solid bs h f
last-solid b bs false false h f = f

solid : (b : ℕ) (bs : List ℕ) → IsSolid (b ∷ bs) → IsFree (piece b bs) → ⊥
solid b bs h =
    let NotFree : Piece → Type 0 = λ q. IsFree q → ⊥ in
    either NotFree (is_digit b) _ _ (λ e f. f)
    (λ e. either NotFree (nat_eq b 45) _ _ (λ e. minus-solid (front is_digit bs))
    (λ e. either NotFree (is_letter b) _ _ (λ e f. f)
    (λ e. either NotFree (is_mark b) _ _ (λ e f. f) (λ e. last-solid b bs (is_blank b) (nat_eq b 47) h))))

pub solid_piece : (b : ℕ) (bs xs : List ℕ) → IsSolid (b ∷ bs) → piece b bs ≡ free xs → ⊥
solid_piece b bs xs h e = solid b bs h (subst IsFree (sym e) tt)

at_bad : (p : Spot) (bs : List ℕ) → IsSolid bs → found bs ≡ Bad → stream_from p bs ≡ broken p.line (p.nth + 1)
at_bad p [] s e = cc e
at_bad p (b ∷ bs) s e = bad_at (piece b bs) refl e
  where
    bad_at : (q : Piece) → piece b bs ≡ q → seen_as q b ≡ Bad → begin q p b (stream_behind (behind q) (past q p b) bs) ≡ broken p.line (p.nth + 1)
    bad_at bad f h = refl
    bad_at (free xs) f h = absurd (solid_piece b bs xs s f)
    bad_at (item xs) f h = cc h

at_nothing : (p : Spot) (bs : List ℕ) → found bs ≡ Nothing → stream_from p bs ≡ ended p.nth
at_nothing p [] e = refl
at_nothing p (b ∷ bs) e = seen_something (piece b bs) e
  where
    seen_something : (q : Piece) → seen_as q b ≡ Nothing → stream_from p (b ∷ bs) ≡ ended p.nth
    seen_something bad h = cc h
    seen_something (free xs) h = cc h
    seen_something (item xs) h = cc h

at_item : (p : Spot) (n : ℕ) (k : Kind) (bs : List ℕ) → found bs ≡ Item k n
    → stream_from p bs
    ≡ token (record { line = p.line; nth = p.nth + 1; from = p.at; kind = k; text = take n bs }) (stream_from (at_spot (p.at + n) p.line (p.nth + 1)) (drop n bs))
at_item p n k [] e = cc e
at_item p n k (b ∷ bs) e = item_at (piece b bs) p b n k bs (taken-piece b bs) (item_inline b bs k n e) e

-- ---- the gap

-- what stands behind k bytes, in which n lines end
abbrev Behind : Spot → ℕ → List ℕ → Stream
Behind p k bs = stream_from (at_spot (p.at + k) (p.line + line_ends (take k bs)) p.nth) (drop k bs)

stays : (p : Spot) (bs : List ℕ) → stream_from p bs ≡ Behind p 0 bs
stays p bs = let a : p.at ≡ p.at + 0 = omega arith in let l : p.line ≡ p.line + 0 = omega arith in (λ i. stream_from (at_spot (a i) (l i) p.nth) bs)

-- one byte more
steps : (p : Spot) (b k : ℕ) (bs : List ℕ) → Behind (over p b) k bs ≡ Behind p (suc k) (b ∷ bs)
steps p b k bs = steps_by (nat_eq b 10) refl
  where
    steps_by : (c : Bool) → nat_eq b 10 ≡ c → Behind (over p b) k bs ≡ Behind p (suc k) (b ∷ bs)
    steps_by true e =
        let a : p.at + 1 + k ≡ p.at + suc k = omega arith in
        let l : p.line + 1 + line_ends (take k bs) ≡ p.line + suc (line_ends (take k bs)) = omega arith in
        rw e (λ i. stream_from (at_spot (a i) (l i) p.nth) (drop k bs))
    steps_by false e =
        let a : p.at + 1 + k ≡ p.at + suc k = omega arith in
        rw e (λ i. stream_from (at_spot (a i) (p.line + line_ends (take k bs)) p.nth) (drop k bs))

-- a blank is free, and so is `/` before another one
blank-is : (b : ℕ) (bs : List ℕ) → is_blank b ≡ true → piece b bs ≡ free []
blank-is b bs h =
    blank-by (nat_eq b 32) (nat_eq b 9) (nat_eq b 13) (nat_eq b 10) refl refl refl refl h
  where
    blank-by : (c d e f : Bool) → nat_eq b 32 ≡ c → nat_eq b 9 ≡ d → nat_eq b 13 ≡ e → nat_eq b 10 ≡ f → (c || (d || (e || f))) ≡ true → piece b bs ≡ free []
    blank-by true d e f p q r s h = ap (λ c. piece c bs) (eqb-true b 32 p)
    blank-by false true e f p q r s h = ap (λ c. piece c bs) (eqb-true b 9 q)
    blank-by false false true f p q r s h = ap (λ c. piece c bs) (eqb-true b 13 r)
    blank-by false false false true p q r s h = ap (λ c. piece c bs) (eqb-true b 10 s)
    blank-by false false false false p q r s h = cc h

-- behind a piece that is free
passed : (b : ℕ) (bs xs : List ℕ) (p : Spot) → piece b bs ≡ free xs → stream_from p (b ∷ bs) ≡ stream_behind xs (over p b) bs
passed b bs xs p e = ap (λ q. begin q p b (stream_behind (behind q) (past q p b) bs)) e

abbrev GapStep : List ℕ → Type 0
GapStep bs = (p : Spot) → stream_from p bs ≡ Behind p (free_length bs) bs

abbrev SlashStep : List ℕ → Type 0
SlashStep bs = (b : ℕ) (p : Spot) → b ≡ 47 → stream_from p (b ∷ bs) ≡ Behind p (free_behind_slash bs) (b ∷ bs)

abbrev CommentStep : List ℕ → Type 0
CommentStep bs = (p : Spot) → stream_behind (front is_inline bs) p bs ≡ Behind p (free_in_comment bs) bs

gap-by : (b : ℕ) (bs : List ℕ) (blank slash : Bool) → is_blank b ≡ blank → is_slash b ≡ slash → GapStep bs → SlashStep bs
    → (p : Spot) → stream_from p (b ∷ bs) ≡ Behind p (if blank then suc (free_length bs) else (if slash then free_behind_slash bs else 0)) (b ∷ bs)
gap-by b bs true slash e f g h p = passed b bs [] p (blank-is b bs e) ∙ g (over p b) ∙ steps p b (free_length bs) bs
gap-by b bs false true e f g h p = h b p (eqb-true b 47 f)
gap-by b bs false false e f g h p = stays p (b ∷ bs)

slash-by : (c : ℕ) (bs : List ℕ) (slash : Bool) → is_slash c ≡ slash → CommentStep bs
    → (b : ℕ) (p : Spot) → b ≡ 47 → stream_from p (b ∷ c ∷ bs) ≡ Behind p (if slash then suc (suc (free_in_comment bs)) else 0) (b ∷ c ∷ bs)
slash-by c bs true e g b p f =
    let two : piece b (c ∷ bs) ≡ free (c ∷ front is_inline bs) = ap (λ d. piece d (c ∷ bs)) f ∙ ap (λ t. if t then free (c ∷ front is_inline bs) else bad) e in
    passed b (c ∷ bs) (c ∷ front is_inline bs) p two ∙ g (over (over p b) c) ∙ steps (over p b) c (free_in_comment bs) bs ∙ steps p b (suc (free_in_comment bs)) (c ∷ bs)
slash-by c bs false e g b p f = stays p (b ∷ c ∷ bs)

comment-by : (b : ℕ) (bs : List ℕ) (lf : Bool) → nat_eq b 10 ≡ lf → GapStep bs → CommentStep bs
    → (p : Spot) → stream_behind (if not lf then b ∷ front is_inline bs else []) p (b ∷ bs) ≡ Behind p (if lf then suc (free_length bs) else suc (free_in_comment bs)) (b ∷ bs)
comment-by b bs true e g h p =
    let lf : piece b bs ≡ free [] = ap (λ c. piece c bs) (eqb-true b 10 e) in
    passed b bs [] p lf ∙ g (over p b) ∙ steps p b (free_length bs) bs
comment-by b bs false e g h p = h (over p b) ∙ steps p b (free_in_comment bs) bs

mutual
  gap-step : (bs : List ℕ) → GapStep bs
  gap-step [] p = stays p []
  gap-step (b ∷ bs) p = gap-by b bs (is_blank b) (is_slash b) refl refl (gap-step bs) (slash-step bs) p

  slash-step : (bs : List ℕ) → SlashStep bs
  slash-step [] b p e = stays p (b ∷ [])
  slash-step (c ∷ bs) b p e = slash-by c bs (is_slash c) refl (comment-step bs) b p e

  comment-step : (bs : List ℕ) → CommentStep bs
  comment-step [] p = stays p []
  comment-step (b ∷ bs) p = comment-by b bs (nat_eq b 10) refl (gap-step bs) (comment-step bs) p

-- ---- behind a gap stands none

abbrev SlashDone : List ℕ → Type 0
SlashDone bs = (b : ℕ) → is_blank b ≡ false → is_slash b ≡ true → free_length (drop (free_behind_slash bs) (b ∷ bs)) ≡ 0

gap-done-by : (b : ℕ) (bs : List ℕ) (blank slash : Bool) → is_blank b ≡ blank → is_slash b ≡ slash → free_length (drop (free_length bs) bs) ≡ 0 → SlashDone bs
    → free_length (drop (if blank then suc (free_length bs) else (if slash then free_behind_slash bs else 0)) (b ∷ bs)) ≡ 0
gap-done-by b bs true slash e f g h = g
gap-done-by b bs false true e f g h = h b e f
gap-done-by b bs false false e f g h = rw (e, f) refl

slash-done-by : (c : ℕ) (bs : List ℕ) (slash : Bool) → is_slash c ≡ slash → free_length (drop (free_in_comment bs) bs) ≡ 0
    → (b : ℕ) → is_blank b ≡ false → is_slash b ≡ true → free_length (drop (if slash then suc (suc (free_in_comment bs)) else 0) (b ∷ c ∷ bs)) ≡ 0
slash-done-by c bs true g h b e f = h
slash-done-by c bs false g h b e f = rw (e, f, g) refl

comment-done-by : (b : ℕ) (bs : List ℕ) (lf : Bool) → free_length (drop (free_length bs) bs) ≡ 0 → free_length (drop (free_in_comment bs) bs) ≡ 0
    → free_length (drop (if lf then suc (free_length bs) else suc (free_in_comment bs)) (b ∷ bs)) ≡ 0
comment-done-by b bs true g h = g
comment-done-by b bs false g h = h

mutual
  pub gap-done : (bs : List ℕ) → free_length (drop (free_length bs) bs) ≡ 0
  gap-done [] = refl
  gap-done (b ∷ bs) = gap-done-by b bs (is_blank b) (is_slash b) refl refl (gap-done bs) (slash-done bs)

  slash-done : (bs : List ℕ) → SlashDone bs
  slash-done [] b e f = rw (e, f) refl
  slash-done (c ∷ bs) b e f = slash-done-by c bs (is_slash c) refl (comment-done bs) b e f

  comment-done : (bs : List ℕ) → free_length (drop (free_in_comment bs) bs) ≡ 0
  comment-done [] = refl
  comment-done (b ∷ bs) = comment-done-by b bs (is_line_end b) (gap-done bs) (comment-done bs)

-- ---- the next token

first-at : (p : TokenPlace) (f : Front) → found (drop (start p) p.text) ≡ f → IsSolid (drop (start p) p.text)
    → stream_from (at_spot (start p) (start_line p) p.nth) (drop (start p) p.text) ≡ token_then (next_at p f) p.nth (tokens_left (after_at p f))
first-at p Nothing e s = at_nothing (at_spot (start p) (start_line p) p.nth) (drop (start p) p.text) e
first-at p Bad e s = at_bad (at_spot (start p) (start_line p) p.nth) (drop (start p) p.text) s e
first-at p (Item k n) e s =
    at_item (at_spot (start p) (start_line p) p.nth) n k (drop (start p) p.text) e
    ∙ ap (λ bs. token (record { line = start_line p; nth = p.nth + 1; from = start p; kind = k; text = take n (drop (start p) p.text) }) (stream_from (at_spot (start p + n) (start_line p) (p.nth + 1)) bs))
    (drop-drop n (start p) p.text)

pub next_token_is_first : NextTokenIsFirst
next_token_is_first p =
    let bs = drop p.at p.text in
    let there : drop (free_length bs) bs ≡ drop (start p) p.text = drop-drop (free_length bs) p.at p.text in
    let none : IsSolid (drop (start p) p.text) = subst IsSolid there (gap-done bs) in
    gap-step bs (at_spot p.at p.line p.nth)
    ∙ ap (λ r. stream_from (at_spot (start p) (start_line p) p.nth) r) there
    ∙ first-at p (found (drop (start p) p.text)) refl none

-- ---- what a step keeps

stays-at : (p : TokenPlace) (f : Front) → Ok None ≡ next_at p f → after_at p f ≡ p
stays-at p Nothing h = refl
stays-at p Bad h = refl
stays-at p (Item k n) h = cc h

pub token_stays : (p : TokenPlace) → Ok None ≡ next_token p → after_token p ≡ p
token_stays p h = stays-at p (found (drop (start p) p.text)) h

text-at : (p : TokenPlace) (f : Front) → (after_at p f).text ≡ p.text
text-at p Nothing = refl
text-at p Bad = refl
text-at p (Item k n) = refl

pub text_stays : (p : TokenPlace) → (after_token p).text ≡ p.text
text_stays p = text-at p (found (drop (start p) p.text))
