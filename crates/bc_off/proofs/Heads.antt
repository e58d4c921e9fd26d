-- The head of a text, as it is read.
use Rattle.std.proofs.Common.{◌≡◌, ℕ, ◌+◌, true, false, List, [], length, Some, None, Err, refl, ap, arith}
use Rattle.bc_lex.specs.Places.{LinePlace, WordPlace}
use Rattle.bc_lex.specs.Words.{PlainWord, next_plain, after_plain}
use Rattle.bc_lex.specs.Left.{lines_left, plain_left}
use Rattle.bc_off.specs.declared.fault.OffFault.TheVariants.{Short, NotOff}
use Rattle.bc_off.specs.Rows.{Row}
use Rattle.bc_off.specs.Left.{end_left, row_then}
use Rattle.bc_off.specs.Header.{is_off, counts, before_rows, behind_off, header}
use Rattle.bc_off.proofs.WordSteps.{IsMore, none_left, some_left}

-- no line is left: the next line is the one behind the last
pub end_is : (p q : LinePlace) → lines_left q ≡ [] → end_left q ≡ end_left p → q.number + 1 ≡ end_left p
end_is p q h e =
    let none : length (lines_left q) ≡ 0 = ap length h in
    let same : end_left q ≡ end_left p = e in
    omega arith

-- behind `OFF` on its line
pub on_line : (e l n : ℕ) (ws : List (List ℕ)) (rows : List Row) → IsMore ws → n ≡ 2 → before_rows rows (counts l n ws) ≡ behind_off e l ws rows
on_line e l n ws rows m two = rw (two, m.is) refl

-- on the next row
pub on_next : (e l : ℕ) (ws : List (List ℕ)) (rows rest : List Row) (p : WordPlace) → ws ≡ [] → rows ≡ row_then (Some p) rest → p.nth ≡ 0
    → before_rows rest (counts p.line (p.nth + 1) (plain_left p)) ≡ behind_off e l ws rows
on_next e l ws rows rest p none is zero = rw (none, is, zero) refl

-- there is no next row
pub on_none : (e l n : ℕ) (ws : List (List ℕ)) (rows : List Row) → ws ≡ [] → rows ≡ [] → n ≡ e → Err (Short n 0) ≡ behind_off e l ws rows
on_none e l n ws rows none is end = rw (none, is, end) refl

-- the first word is `OFF`
pub named : (e : ℕ) (rows rest : List Row) (p : WordPlace) (w : PlainWord) → rows ≡ row_then (Some p) rest → Some w ≡ next_plain p → is_off w.text ≡ true
    → behind_off e p.line (plain_left (after_plain p)) rest ≡ header e rows
named e rows rest p w is h off = rw (is, some_left p w h, off) refl

-- the first word is another
pub not_named : (e : ℕ) (rows rest : List Row) (p : WordPlace) (w : PlainWord) → rows ≡ row_then (Some p) rest → Some w ≡ next_plain p → is_off w.text ≡ false
    → Err (NotOff p.line 1) ≡ header e rows
not_named e rows rest p w is h off = rw (is, some_left p w h, off) refl

pub no_name : (e : ℕ) (rows rest : List Row) (p : WordPlace) → rows ≡ row_then (Some p) rest → None ≡ next_plain p → Err (NotOff p.line 1) ≡ header e rows
no_name e rows rest p is h = rw (is, none_left p h) refl
