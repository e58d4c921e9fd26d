-- One row of a text.
use Rattle.std.proofs.Common.{◌≡◌, ℕ, ◌+◌, true, false, List, [], ◌∷◌, length, Option, Some, is_none, refl, sym, ap, ◌∙◌, arith}
use Rattle.bc_lex.specs.Places.{LinePlace, WordPlace}
use Rattle.bc_lex.specs.Lines.{ALine, next_line, after_line}
use Rattle.bc_lex.specs.Words.{words_of, plain_line, next_plain}
use Rattle.bc_lex.specs.Left.{lines_left, line_then}
use Rattle.bc_lex.proofs.Nexts.{next_line_is_first, line_moved}
use Rattle.bc_off.specs.Rows.{Row, row_before, rows_from}
use Rattle.bc_off.specs.Left.{rows_left, end_left, row_at}
use Rattle.bc_off.proofs.WordSteps.{IsMore, ended, more}

next-left : (p : LinePlace) (o : Option ALine) → o ≡ next_line p → lines_left p ≡ line_then o (lines_left (after_line p))
next-left p o h = next_line_is_first p ∙ ap (λ q. line_then q (lines_left (after_line p))) (sym h)

pub rows_line : (p : LinePlace) (l : ALine) → Some l ≡ next_line p → rows_left p ≡ row_before l.number (words_of l.text) (rows_left (after_line p))
rows_line p l h =
    let m = line_moved p l (sym h) in
    let number : rows_from (p.number + 1 + 1) (lines_left (after_line p)) ≡ rows_left (after_line p) = ap (λ n. rows_from (n + 1) (lines_left (after_line p))) (sym m.number) in
    ap (rows_from (p.number + 1)) (next-left p (Some l) h)
    ∙ ap (row_before (p.number + 1) (words_of l.text)) number
    ∙ ap (λ n. row_before n (words_of l.text) (rows_left (after_line p))) (sym m.line_number)

pub end_line_on : (p : LinePlace) (l : ALine) → Some l ≡ next_line p → end_left (after_line p) ≡ end_left p
end_line_on p l h =
    let m = line_moved p l (sym h) in
    let number : (after_line p).number ≡ p.number + 1 = m.number in
    let count : length (lines_left p) ≡ length (lines_left (after_line p)) + 1 = ap length (next-left p (Some l) h) ∙ omega arith in
    omega arith

-- a line without words is skipped
pub rows_skipped : (p : LinePlace) (l : ALine) (q : WordPlace) → Some l ≡ next_line p → q ≡ plain_line l → true ≡ is_none (next_plain q)
    → rows_left p ≡ rows_left (after_line p)
rows_skipped p l q h e n =
    let none : words_of l.text ≡ [] = ended (plain_line l) (n ∙ ap (λ q. is_none (next_plain q)) e) in
    rows_line p l h ∙ ap (λ ws. row_before l.number ws (rows_left (after_line p))) none

some-row : (n : ℕ) (ws : List (List ℕ)) (rows : List Row) → IsMore ws → row_before n ws rows ≡ record { line = n; words = ws } ∷ rows
some-row n ws rows m = rw m.is refl

-- a line with words is a row
pub rows_some : (p : LinePlace) (l : ALine) (q : WordPlace) → Some l ≡ next_line p → q ≡ plain_line l → false ≡ is_none (next_plain q)
    → rows_left p ≡ row_at q ∷ rows_left (after_line p)
rows_some p l q h e n =
    let some : IsMore (words_of l.text) = more (plain_line l) (n ∙ ap (λ q. is_none (next_plain q)) e) in
    rows_line p l h
    ∙ some-row l.number (words_of l.text) (rows_left (after_line p)) some
    ∙ ap (λ q. row_at q ∷ rows_left (after_line p)) (sym e)

pub text_stays : (p : LinePlace) (l : ALine) → Some l ≡ next_line p → (after_line p).text ≡ p.text
text_stays p l h = (line_moved p l (sym h)).text
