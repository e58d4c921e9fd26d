-- One row of a text of layers.
use Rattle.std.proofs.Common.{◌≡◌, ◌≤◌, ◌+◌, min, ℕ, true, false, List, [], ◌∷◌, length, take, drop, Option, Some, None, is_some, bytes_eq, codes, refl, sym, ap, ◌∙◌, arith, if◌then◌else◌, subst, ⊎_elim}
use Rattle.std.specs.Option.{option_map}
use Rattle.std.proofs.lemmas.Bool.{cases_Bool}
use Rattle.std.proofs.lemmas.List.{length-take}
use Rattle.bc_num.specs.Lines.{is_line_end}
use Rattle.bc_lex.specs.Places.{LinePlace, WordPlace}
use Rattle.bc_lex.specs.Lines.{ALine, line_length, line_in, next_line, after_line, after_in}
use Rattle.bc_lex.specs.Words.{words_of, PlainWord, plain_line, next_plain, after_plain}
use Rattle.bc_lex.specs.Left.{lines_left, line_then, plain_left, plain_then}
use Rattle.bc_lex.proofs.Nexts.{next_line_is_first, line_moved}
use Rattle.bc_lex.proofs.PlainSteps.{next_plain_is_first, all_plain_are_left}
use Rattle.bc_prism.specs.declared.row.Row.{Row}
use Rattle.bc_prism.specs.Rows.{kind_of, heights, rows_from}
use Rattle.bc_prism.specs.declared.row.Kind.TheVariants as kinds
use Rattle.bc_prism.specs.Reading.{rows_at}

line_within : (bs : List ℕ) → line_length bs ≤ length bs
line_within [] = omega arith
line_within (b ∷ bs) =
    let rest = line_within bs in
    ⊎_elim
    (λ yes. subst (λ c. (if c then 0 else line_length bs + 1) ≤ length (b ∷ bs)) (sym yes) (omega arith))
    (λ no. subst (λ c. (if c then 0 else line_length bs + 1) ≤ length (b ∷ bs)) (sym no) (omega (arith, rest)))
    (cases_Bool (is_line_end b))

-- where the next line begins
behind-in : (p : LinePlace) (n : ℕ) (bs : List ℕ) (l : ALine) → line_in n bs ≡ Some l → (after_in p bs).at ≡ min (length p.text) (p.at + length l.text + 1)
behind-in p n [] l e = cc
behind-in p n (b ∷ bs) l e =
    let text : l.text ≡ take (line_length (b ∷ bs)) (b ∷ bs) = cc in
    let size : length l.text ≡ line_length (b ∷ bs) = ap length text ∙ length-take (line_length (b ∷ bs)) (b ∷ bs) ∙ (let h = line_within (b ∷ bs) in omega (arith, h)) in
    ap (λ k. min (length p.text) (p.at + k + 1)) (sym size)

next-left : (p : LinePlace) (o : Option ALine) → o ≡ next_line p → lines_left p ≡ line_then o (lines_left (after_line p))
next-left p o h = next_line_is_first p ∙ ap (λ q. line_then q (lines_left (after_line p))) (sym h)

pub rows_some : (p : LinePlace) (l : ALine) (r : Row) → Some l ≡ next_line p → r.number ≡ l.number → r.from ≡ p.at → r.behind ≡ (after_line p).at → r.kind ≡ kind_of (words_of l.text)
    → rows_at p ≡ r ∷ rows_at (after_line p)
rows_some p l r h number from behind kind =
    let m = line_moved p l (sym h) in
    let place : (after_line p).at ≡ min (length p.text) (p.at + length l.text + 1) = behind-in p (p.number + 1) (drop p.at p.text) l (sym h) in
    let first : r ≡ record { number = p.number + 1; from = p.at; behind = min (length p.text) (p.at + length l.text + 1); kind = kind_of (words_of l.text) } =
    ap (λ n. record { number = n; from = r.from; behind = r.behind; kind = r.kind }) (number ∙ m.line_number)
    ∙ ap (λ n. record { number = p.number + 1; from = n; behind = r.behind; kind = r.kind }) from
    ∙ ap (λ n. record { number = p.number + 1; from = p.at; behind = n; kind = r.kind }) (behind ∙ place)
    ∙ ap (λ k. record { number = p.number + 1; from = p.at; behind = min (length p.text) (p.at + length l.text + 1); kind = k }) kind in
    let rest : rows_from (length p.text) (p.number + 1 + 1) (min (length p.text) (p.at + length l.text + 1)) (lines_left (after_line p)) ≡ rows_at (after_line p) =
    rw (m.text, m.number, place) refl in
    ap (rows_from (length p.text) (p.number + 1) p.at) (next-left p (Some l) h)
    ∙ ap (λ rs. record { number = p.number + 1; from = p.at; behind = min (length p.text) (p.at + length l.text + 1); kind = kind_of (words_of l.text) } ∷ rs) rest
    ∙ ap (λ x. x ∷ rows_at (after_line p)) (sym first)

-- the words that are left of a line
next-plain : (p : WordPlace) (o : Option PlainWord) → o ≡ next_plain p → plain_left p ≡ plain_then o (plain_left (after_plain p))
next-plain p o h = next_plain_is_first p ∙ ap (λ q. plain_then q (plain_left (after_plain p))) (sym h)

pub left_none : (p : WordPlace) → None ≡ next_plain p → plain_left p ≡ []
left_none p h = next-plain p None h

pub left_some : (p q : WordPlace) (w : PlainWord) → Some w ≡ next_plain p → q ≡ after_plain p → plain_left p ≡ w.text ∷ plain_left q
left_some p q w h e = next-plain p (Some w) h ∙ ap (λ r. w.text ∷ plain_left r) (sym e)

pub left_more : (p : WordPlace) (o : Option PlainWord) → o ≡ next_plain p → is_some o ≡ true → (w : List ℕ) × (ws : List (List ℕ)) × (plain_left p ≡ w ∷ ws)
left_more p None h e = cc
left_more p (Some w) h e = (w.text, plain_left (after_plain p), next-plain p (Some w) h)

pub left_end : (p : WordPlace) (o : Option PlainWord) → o ≡ next_plain p → is_some o ≡ false → plain_left p ≡ []
left_end p None h e = next-plain p None h
left_end p (Some w) h e = cc

pub mapped : {A B : Type 0} (f : A → B) (o : Option A) → is_some (option_map f o) ≡ is_some o
mapped f None = refl
mapped f (Some x) = refl

-- ---- what a line is

all-left : (l : ALine) (p : WordPlace) → p ≡ plain_line l → words_of l.text ≡ plain_left p
all-left l p e = sym (all_plain_are_left l) ∙ ap plain_left (sym e)

pub kind_empty : (l : ALine) (p : WordPlace) → p ≡ plain_line l → None ≡ next_plain p → kinds.Empty ≡ kind_of (words_of l.text)
kind_empty l p e h = sym (ap kind_of (all-left l p e ∙ left_none p h))

pub kind_layer : (l : ALine) (p q : WordPlace) (w : PlainWord) → p ≡ plain_line l → Some w ≡ next_plain p → q ≡ after_plain p → bytes_eq w.text (codes "LAYER") ≡ true
    → heights (plain_left q) ≡ kind_of (words_of l.text)
kind_layer l p q w e h k is = sym (ap kind_of (all-left l p e ∙ left_some p q w h k) ∙ ap (λ b. if b then heights (plain_left q) else kinds.Other) is)

pub kind_other : (l : ALine) (p q : WordPlace) (w : PlainWord) → p ≡ plain_line l → Some w ≡ next_plain p → q ≡ after_plain p → bytes_eq w.text (codes "LAYER") ≡ false
    → kinds.Other ≡ kind_of (words_of l.text)
kind_other l p q w e h k is = sym (ap kind_of (all-left l p e ∙ left_some p q w h k) ∙ ap (λ b. if b then heights (plain_left q) else kinds.Other) is)
