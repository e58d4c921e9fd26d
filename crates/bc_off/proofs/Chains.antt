-- Words of a row that come one after another stand where the definitions on whole rows say.
use Rattle.std.proofs.Common.{◌≡◌, ℕ, ◌+◌, List, [], ◌∷◌, drop, Result, Ok, Err, refl, sym, ap, ◌∙◌, subst, arith}
use Rattle.bc_num.specs.declared.v3.V3.{V3}
use Rattle.bc_lex.specs.Places.{WordPlace}
use Rattle.bc_lex.specs.Words.{after_plain}
use Rattle.bc_lex.specs.Left.{plain_left}
use Rattle.bc_off.specs.declared.fault.OffFault.{OffFault}
use Rattle.bc_off.specs.declared.header.Counts.{Counts}
use Rattle.bc_off.specs.Answers.{◌>>=◌}
use Rattle.bc_off.specs.Entries.{coordinate, no_more}
use Rattle.bc_off.specs.Header.{limited, count, counts}
use Rattle.bc_off.specs.Vertices.{vertex}
use Rattle.bc_off.specs.Left.{row_at}
use Rattle.bc_off.proofs.WordSteps.{Left, no_word, a_word, left_is}

-- at p the words ws of line l are left, the first of which is the n-th
pub record At (p : WordPlace) (l n : ℕ) (ws : List (List ℕ)) : Type 0 where
  pub line : p.line ≡ l
  pub nth : p.nth + 1 ≡ n
  pub left : plain_left p ≡ ws

at-next : (p : WordPlace) (l n : ℕ) (w : List ℕ) (ws : List (List ℕ)) → Left p → At p l n (w ∷ ws) → At (after_plain p) l (n + 1) ws
at-next p l n w ws (no_word e) a = let no : [] ≡ w ∷ ws = sym e ∙ a.left in cc
at-next p l n w ws (a_word v e b) a =
    let nth : (after_plain p).nth + 1 ≡ n + 1 = ap (λ k. k + 1) (b.nth ∙ a.nth) in
    let cons : v ∷ plain_left (after_plain p) ≡ w ∷ ws = sym e ∙ a.left in
    record { line = b.line ∙ a.line; nth = nth; left = ap (drop 1) cons }

pub at_next : (p q : WordPlace) (l n : ℕ) (w : List ℕ) (ws : List (List ℕ)) → q ≡ after_plain p → At p l n (w ∷ ws) → At q l (n + 1) ws
at_next p q l n w ws e a = subst (λ q. At q l (n + 1) ws) (sym e) (at-next p l n w ws (left_is p) a)

pub here : (p : WordPlace) → At p p.line (p.nth + 1) (plain_left p)
here p = record { line = refl; nth = refl; left = refl }

-- a step that failed, and one that went on
pub stop : {A B : Type 0} (r : Result A OffFault) (k : A → Result B OffFault) (f : OffFault) → Err f ≡ r → Err f ≡ (r >>= k)
stop r k f h = ap (λ r. r >>= k) h

pub on : {A B : Type 0} (r : Result A OffFault) (k : A → Result B OffFault) (x : A) (w : Result B OffFault) → Ok x ≡ r → w ≡ k x → w ≡ (r >>= k)
on r k x w h e = e ∙ ap (λ r. r >>= k) h

-- ---- counts

-- the counts by the places of their words
abbrev pub counts_at : WordPlace → WordPlace → WordPlace → WordPlace → Result Counts OffFault
counts_at p q r s =
    limited p.line (p.nth + 1) 1024 (plain_left p) >>= λ vertices.
    limited q.line (q.nth + 1) 2048 (plain_left q) >>= λ faces.
    count r.line (r.nth + 1) (plain_left r) >>= λ edges.
    no_more s.line (s.nth + 1) (plain_left s) >>= λ none.
    Ok (record { vertices = vertices; faces = faces })

counts-are : (p q r s : WordPlace) (l n : ℕ) (ws : List (List ℕ)) → q ≡ after_plain p → r ≡ after_plain q → s ≡ after_plain r → At p l n ws → counts_at p q r s ≡ counts l n ws
counts-are p q r s l n [] e f g a = rw (a.line, a.nth, a.left) refl
counts-are p q r s l n (x ∷ []) e f g a =
    let b = at_next p q l n x [] e a in
    rw (a.line, a.nth, a.left, b.line, b.nth, b.left) refl
counts-are p q r s l n (x ∷ y ∷ []) e f g a =
    let b = at_next p q l n x (y ∷ []) e a in
    let d = at_next q r l (n + 1) y [] f b in
    let nth : r.nth + 1 ≡ n + 1 + 1 = d.nth in
    let third : r.nth + 1 ≡ n + 2 = omega arith in
    rw (a.line, a.nth, a.left, b.line, b.nth, b.left, d.line, third, d.left) refl
counts-are p q r s l n (x ∷ y ∷ z ∷ ws) e f g a =
    let b = at_next p q l n x (y ∷ z ∷ ws) e a in
    let d = at_next q r l (n + 1) y (z ∷ ws) f b in
    let h = at_next r s l (n + 1 + 1) z ws g d in
    let r_nth : r.nth + 1 ≡ n + 1 + 1 = d.nth in
    let s_nth : s.nth + 1 ≡ n + 1 + 1 + 1 = h.nth in
    let third : r.nth + 1 ≡ n + 2 = omega arith in
    let fourth : s.nth + 1 ≡ n + 3 = omega arith in
    rw (a.line, a.nth, a.left, b.line, b.nth, b.left, d.line, third, d.left, h.line, fourth, h.left) refl

pub counts_are : (p q r s : WordPlace) → q ≡ after_plain p → r ≡ after_plain q → s ≡ after_plain r → counts_at p q r s ≡ counts p.line (p.nth + 1) (plain_left p)
counts_are p q r s e f g = counts-are p q r s p.line (p.nth + 1) (plain_left p) e f g (here p)

-- ---- vertices

-- the vertex by the places of its words
abbrev pub vertex_at : WordPlace → WordPlace → WordPlace → WordPlace → Result V3 OffFault
vertex_at p q r s =
    coordinate p.line (p.nth + 1) (plain_left p) >>= λ x.
    coordinate q.line (q.nth + 1) (plain_left q) >>= λ y.
    coordinate r.line (r.nth + 1) (plain_left r) >>= λ z.
    no_more s.line (s.nth + 1) (plain_left s) >>= λ none.
    Ok (record { x = x; y = y; z = z })

vertex-is : (p q r s : WordPlace) (l : ℕ) (ws : List (List ℕ)) → q ≡ after_plain p → r ≡ after_plain q → s ≡ after_plain r → At p l 1 ws
    → vertex_at p q r s ≡ vertex (record { line = l; words = ws })
vertex-is p q r s l [] e f g a = rw (a.line, a.nth, a.left) refl
vertex-is p q r s l (x ∷ []) e f g a =
    let b = at_next p q l 1 x [] e a in
    rw (a.line, a.nth, a.left, b.line, b.nth, b.left) refl
vertex-is p q r s l (x ∷ y ∷ []) e f g a =
    let b = at_next p q l 1 x (y ∷ []) e a in
    let d = at_next q r l 2 y [] f b in
    rw (a.line, a.nth, a.left, b.line, b.nth, b.left, d.line, d.nth, d.left) refl
vertex-is p q r s l (x ∷ y ∷ z ∷ ws) e f g a =
    let b = at_next p q l 1 x (y ∷ z ∷ ws) e a in
    let d = at_next q r l 2 y (z ∷ ws) f b in
    let h = at_next r s l 3 z ws g d in
    rw (a.line, a.nth, a.left, b.line, b.nth, b.left, d.line, d.nth, d.left, h.line, h.nth, h.left) refl

pub vertex_is : (p q r s : WordPlace) → p.nth ≡ 0 → q ≡ after_plain p → r ≡ after_plain q → s ≡ after_plain r → vertex_at p q r s ≡ vertex (row_at p)
vertex_is p q r s z e f g = vertex-is p q r s p.line (plain_left p) e f g (record { line = refl; nth = ap (λ n. n + 1) z; left = refl })
