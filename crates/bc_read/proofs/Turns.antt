-- One turn of each loop of the reader.
use Rattle.std.proofs.Common.{◌≡◌, ℕ, suc, ◌+◌, List, [], ◌∷◌, length, Some, None, Result, Ok, Err, refl, sym, ap, ◌∙◌, arith}
use Rattle.bc_lex.specs.Places.{LinePlace}
use Rattle.bc_lex.specs.Lines.{ALine, next_line, after_line, after_in, line_in}
use Rattle.bc_lex.specs.Left.{lines_left, line_then}
use Rattle.bc_lex.proofs.Nexts.{next_line_is_first}
use Rattle.bc_tree.specs.declared.tree.Tree.{Tree}
use Rattle.bc_lex.specs.Places.{TokenPlace}
use Rattle.bc_lex.specs.Tokens.{AToken, next_token, after_token}
use Rattle.bc_lex.specs.Stream.{tokens_left, token_then}
use Rattle.bc_lex.proofs.TokenStreams.{next_token_is_first}
use Rattle.bc_read.specs.declared.fault.CsgFault.{CsgFault}
use Rattle.bc_read.specs.declared.fault.CsgFault.TheVariants.{BadToken, BadShape, BadNumber, BadFrame, Mixed, TooDeep, Extra, Memory}
use Rattle.bc_read.specs.Machine.{State, step, run, finish, ◌>>=◌, Steps}

-- ---- lines

number-in : (p : LinePlace) (bs : List ℕ) (l : ALine) → Some l ≡ line_in (p.number + 1) bs → (after_in p bs).number ≡ p.number + 1
number-in p [] l h = cc h
number-in p (b ∷ bs) l h = refl

pub line-came : (p : LinePlace) (l : ALine) → Some l ≡ next_line p → (after_line p).number + length (lines_left (after_line p)) ≡ p.number + length (lines_left p)
line-came p l h =
    let n : (after_line p).number ≡ p.number + 1 = number-in p _ l h in
    let left : lines_left p ≡ l.text ∷ lines_left (after_line p) = next_line_is_first p ∙ ap (λ o. line_then o (lines_left (after_line p))) (sym h) in
    let count : length (lines_left p) ≡ suc (length (lines_left (after_line p))) = ap length left in
    omega arith

text-in : (p : LinePlace) (bs : List ℕ) → (after_in p bs).text ≡ p.text
text-in p [] = refl
text-in p (b ∷ bs) = refl

pub line-text : (p : LinePlace) → (after_line p).text ≡ p.text
line-text p = text-in p _

stays-in : (p : LinePlace) (bs : List ℕ) → None ≡ line_in (p.number + 1) bs → after_in p bs ≡ p
stays-in p [] h = refl
stays-in p (b ∷ bs) h = cc h

pub no-line : (p : LinePlace) → None ≡ next_line p → ((after_line p).number ≡ p.number + length (lines_left p))
no-line p h =
    let left : lines_left p ≡ [] = next_line_is_first p ∙ ap (λ o. line_then o (lines_left (after_line p))) (sym h) in
    let none : length (lines_left p) ≡ 0 = ap length left in
    let n : (after_line p).number ≡ p.number = ap (λ (p : LinePlace). p.number) (stays-in p _ h) in
    omega arith

-- ---- tokens

pub at-end : (e : ℕ) (s : State) (p : TokenPlace) → Ok None ≡ next_token p → run e s (tokens_left p) ≡ finish e s.at p.nth
at-end e s p h = ap (run e s) (next_token_is_first p ∙ ap (λ r. token_then r p.nth (tokens_left (after_token p))) (sym h))

pub at-bad : (e : ℕ) (s : State) (p : TokenPlace) (b : ℕ × ℕ) → Err b ≡ next_token p → run e s (tokens_left p) ≡ Err (BadToken b.0 b.1)
at-bad e s p b h = ap (run e s) (next_token_is_first p ∙ ap (λ r. token_then r p.nth (tokens_left (after_token p))) (sym h))

pub at-token : (e : ℕ) (s : State) (p : TokenPlace) (t : AToken) → Ok (Some t) ≡ next_token p → run e s (tokens_left p) ≡ (step s t >>= λ next. run e next (tokens_left (after_token p)))
at-token e s p t h = ap (run e s) (next_token_is_first p ∙ ap (λ r. token_then r p.nth (tokens_left (after_token p))) (sym h))

-- ---- answers

-- an answer is what is wanted, unless memory ran out
abbrev pub Gives : Result Tree CsgFault → Result Tree CsgFault → Type 0
Gives (Ok t) want = want ≡ Ok t
Gives (Err Memory) want = Unit {0}
Gives (Err f) want = want ≡ Err f

pub gives : (r want : Result Tree CsgFault) → want ≡ r → Gives r want
gives (Ok t) want e = e
gives (Err Memory) want e = tt
gives (Err (BadToken l n)) want e = e
gives (Err (BadShape l n)) want e = e
gives (Err (BadNumber l n)) want e = e
gives (Err (BadFrame l n)) want e = e
gives (Err (Mixed l n)) want e = e
gives (Err (TooDeep l n)) want e = e
gives (Err (Extra l n)) want e = e

pub failed : (f : CsgFault) (new : State) (stepped : Result State CsgFault) (want : Result Tree CsgFault) (more : State → Result Tree CsgFault)
    → Steps (Err f) new stepped → want ≡ (stepped >>= more) → Gives (Err f) want
failed Memory new stepped want more h e = tt
failed (BadToken l n) new stepped want more h e = e ∙ ap (λ r. r >>= more) h
failed (BadShape l n) new stepped want more h e = e ∙ ap (λ r. r >>= more) h
failed (BadNumber l n) new stepped want more h e = e ∙ ap (λ r. r >>= more) h
failed (BadFrame l n) new stepped want more h e = e ∙ ap (λ r. r >>= more) h
failed (Mixed l n) new stepped want more h e = e ∙ ap (λ r. r >>= more) h
failed (TooDeep l n) new stepped want more h e = e ∙ ap (λ r. r >>= more) h
failed (Extra l n) new stepped want more h e = e ∙ ap (λ r. r >>= more) h
