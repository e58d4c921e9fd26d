-- One word of a row.
use Rattle.std.proofs.Common.{◌≡◌, ℕ, ◌+◌, true, false, List, [], ◌∷◌, drop, Option, Some, None, is_none, Err, refl, sym, ap, ◌∙◌}
use Rattle.bc_num.specs.Whole.{whole}
use Rattle.bc_lex.specs.Places.{WordPlace}
use Rattle.bc_lex.specs.Words.{PlainWord, next_plain, after_plain}
use Rattle.bc_lex.specs.Left.{plain_left, plain_then}
use Rattle.bc_lex.proofs.PlainSteps.{next_plain_is_first, plain_moved, plain_line_stays, plain_text_stays}
use Rattle.bc_off.specs.declared.fault.OffFault.TheVariants.{BadCount, Short, Extra}
use Rattle.bc_off.specs.Entries.{number, whole_of, no_more}
use Rattle.bc_off.specs.Header.{checked_count, count}
use Rattle.bc_off.specs.Left.{IsBehind}

next-left : (p : WordPlace) (o : Option PlainWord) → o ≡ next_plain p → plain_left p ≡ plain_then o (plain_left (after_plain p))
next-left p o h = next_plain_is_first p ∙ ap (λ q. plain_then q (plain_left (after_plain p))) (sym h)

pub none_left : (p : WordPlace) → None ≡ next_plain p → plain_left p ≡ []
none_left p h = next-left p None h

pub some_left : (p : WordPlace) (w : PlainWord) → Some w ≡ next_plain p → plain_left p ≡ w.text ∷ plain_left (after_plain p)
some_left p w h = next-left p (Some w) h

pub number_none : (p : WordPlace) → None ≡ next_plain p → number p.line (p.nth + 1) (plain_left p) ≡ Err (Short p.line (p.nth + 1))
number_none p h = ap (number p.line (p.nth + 1)) (none_left p h)

pub number_some : (p : WordPlace) (w : PlainWord) → Some w ≡ next_plain p → number p.line (p.nth + 1) (plain_left p) ≡ whole_of p.line (p.nth + 1) (whole w.text)
number_some p w h = ap (number p.line (p.nth + 1)) (some_left p w h)

pub count_none : (p : WordPlace) → None ≡ next_plain p → count p.line (p.nth + 1) (plain_left p) ≡ Err (BadCount p.line (p.nth + 1))
count_none p h = ap (count p.line (p.nth + 1)) (none_left p h)

pub count_some : (p : WordPlace) (w : PlainWord) → Some w ≡ next_plain p → count p.line (p.nth + 1) (plain_left p) ≡ checked_count p.line (p.nth + 1) (whole w.text)
count_some p w h = ap (count p.line (p.nth + 1)) (some_left p w h)

-- no word is left, or one
pub data Left (p : WordPlace) : Type 0 where
  no_word : plain_left p ≡ [] → Left p
  a_word : (w : List ℕ) → plain_left p ≡ w ∷ plain_left (after_plain p) → IsBehind 1 p (after_plain p) → Left p

left-by : (p : WordPlace) (o : Option PlainWord) → o ≡ next_plain p → Left p
left-by p None h = no_word (none_left p h)
left-by p (Some w) h =
    let m = plain_moved p w (sym h) in
    let words : drop 1 (plain_left p) ≡ plain_left (after_plain p) = ap (drop 1) (some_left p w h) in
    a_word w.text (some_left p w h) (record { line = plain_line_stays p; nth = m.nth; text = plain_text_stays p; words = sym words })

pub left_is : (p : WordPlace) → Left p
left_is p = left-by p (next_plain p) refl

ended-by : (p : WordPlace) (o : Option PlainWord) → o ≡ next_plain p → true ≡ is_none o → plain_left p ≡ []
ended-by p None h e = none_left p h
ended-by p (Some w) h e = cc

pub ended : (p : WordPlace) → true ≡ is_none (next_plain p) → plain_left p ≡ []
ended p e = ended-by p (next_plain p) refl e

-- some word is left
pub record IsMore (ws : List (List ℕ)) : Type 0 where
  pub first : List ℕ
  pub rest : List (List ℕ)
  pub is : ws ≡ first ∷ rest

more-by : (p : WordPlace) (o : Option PlainWord) → o ≡ next_plain p → false ≡ is_none o → IsMore (plain_left p)
more-by p None h e = cc
more-by p (Some w) h e = record { first = w.text; rest = plain_left (after_plain p); is = some_left p w h }

pub more : (p : WordPlace) → false ≡ is_none (next_plain p) → IsMore (plain_left p)
more p e = more-by p (next_plain p) refl e

pub extra : (l n : ℕ) (ws : List (List ℕ)) → IsMore ws → no_more l n ws ≡ Err (Extra l n)
extra l n ws m = ap (no_more l n) m.is
