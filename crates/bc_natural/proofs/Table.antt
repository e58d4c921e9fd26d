-- What a table of elements says of them, and they of it: which lines and discs it has.
use Rattle.std.proofs.Common.{◌≡◌, ℕ, zero, suc, [], ◌∷◌, List, Bool, true, inl, inr, refl, ap, ◌∙◌, subst}
use Rattle.std.specs.Prelude.{slice_get, Some, Contains, map}
use Rattle.std.specs.Cmp.{IsEquivalence}
use Rattle.bc_num.specs.declared.v2.V2.{V2}
use Rattle.bc_num.specs.declared.disc2.Disc2.{Disc2}
use Rattle.bc_space.specs.declared.line2.Line2.{Line2}
use Rattle.bc_space.specs.LinesThrough.{IsLineThrough}
use Rattle.bc_solid.specs.declared.element.Element.{Element}
use Rattle.bc_solid.specs.Closed.{start_of, end_of}
use Rattle.bc_natural.specs.Curves.{Curves, AreCurves, lines_of, has_line, is_arc, IsLineOf, IsDiscOf, is_same_line, is_same_disc}
use Rattle.bc_natural.proofs.FirstSeen.{IsTableOf, here, there, either, laws_by_key, table_has, table_from, table_same}
use Rattle.bc_natural.proofs.Canonical.{same_line, line_same, same_disc, disc_same, one_entry, one_disc}

-- ---- the two halves of a table

abbrev pub same_entry : Line2 × V2 → Line2 × V2 → Bool
same_entry g h = is_same_line g.0 h.0

abbrev pub AreLines : List Element → List (Line2 × V2) → Type 0
AreLines es ls = IsTableOf has_line IsLineOf same_entry es ls

abbrev pub AreDiscs : List Element → List Disc2 → Type 0
AreDiscs es ds = IsTableOf is_arc IsDiscOf is_same_disc es ds

pub lines_part : (es : List Element) (t : Curves) → AreCurves es t → AreLines es t.lines
lines_part es t h = record { found = h.found; of = h.of_lines; is = h.lines }

pub discs_part : (es : List Element) (t : Curves) → AreCurves es t → AreDiscs es t.discs
discs_part es t h = record { found = h.seen; of = h.of_discs; is = h.discs }

pub whole_table : (es : List Element) (t : Curves) → AreLines es t.lines → AreDiscs es t.discs → AreCurves es t
whole_table es t h k = record { found = h.found; seen = k.found; of_lines = h.of; of_discs = k.of; lines = h.is; discs = k.is }

pub line_laws : IsEquivalence same_entry
line_laws = laws_by_key same_entry (λ g. g.0) (λ g h. (same_line g.0 h.0, line_same g.0 h.0))

pub disc_laws : IsEquivalence is_same_disc
disc_laws = laws_by_key is_same_disc (λ d. d) (λ d e. (same_disc d e, disc_same d e))

-- ---- lines

pub contains_mapped : {X Y : Type 0} (f : X → Y) (xs : List X) (x : X) → Contains xs x → Contains (map f xs) (f x)
contains_mapped f [] x (k, l, e) = (k, l, refl)
contains_mapped f (y ∷ ys) x m =
    elim (either y ys x m) [
      | inl e ↦ subst (λ z. Contains (f y ∷ map f ys) z) (ap f e) (here (f y) (map f ys))
      | inr n ↦ there (f y) (map f ys) (f x) (contains_mapped f ys x n)
    ]

-- the table has the line of each element that has one
pub line_in_table : (es : List Element) (t : Curves) → AreCurves es t → (e : Element) → Contains es e → has_line e ≡ true → (l : Line2) × Contains (lines_of t) l × IsLineThrough (start_of e) (end_of e) l
line_in_table es t h e m y =
    let r = table_has has_line IsLineOf same_entry line_laws es t.lines e (lines_part es t h) m y in
    let c : Contains (lines_of t) r.2.0 = contains_mapped (λ g. g.0) t.lines r.2 r.3 in
    (r.2.0, c, subst (IsLineThrough (start_of e) (end_of e)) (same_line r.0.0 r.2.0 r.4) r.1.line)

-- each of its lines, with its origin, is that of an element
pub line_from_element : (es : List Element) (t : Curves) → AreCurves es t → (i : ℕ) (entry : Line2 × V2) → slice_get t.lines i ≡ Some entry → (e : Element) × Contains es e × (has_line e ≡ true) × IsLineOf e entry
line_from_element es t h i entry k = table_from has_line IsLineOf same_entry es t.lines i entry (lines_part es t h) k

-- a half-space of a table, with its origin
pub entry_at : {H O : Type 0} (xs : List (H × O)) (i : ℕ) (l : H) → slice_get (map (λ g. g.0) xs) i ≡ Some l → (g : H × O) × (slice_get xs i ≡ Some g) × (g.0 ≡ l)
entry_at [] i l h = cc
entry_at (g ∷ gs) zero l h = (g, refl, cc)
entry_at (g ∷ gs) (suc i) l h = entry_at gs i l h

-- ---- discs

-- the table has the disc of each arc
pub disc_in_table : (es : List Element) (t : Curves) → AreCurves es t → (e : Element) → Contains es e → is_arc e ≡ true → (d : Disc2) × Contains t.discs d × IsDiscOf e d
disc_in_table es t h e m y =
    let r = table_has is_arc IsDiscOf is_same_disc disc_laws es t.discs e (discs_part es t h) m y in
    (r.2, r.3, subst (IsDiscOf e) (same_disc r.0 r.2 r.4) r.1)

-- each of its discs is that of an arc
pub disc_from_element : (es : List Element) (t : Curves) → AreCurves es t → (i : ℕ) (d : Disc2) → slice_get t.discs i ≡ Some d → (e : Element) × Contains es e × IsDiscOf e d
disc_from_element es t h i d k =
    let r = table_from is_arc IsDiscOf is_same_disc es t.discs i d (discs_part es t h) k in
    (r.0, r.1, r.3)

-- ---- elements have one table

table : List (Line2 × V2) → List Disc2 → Curves
table ls ds = record { lines = ls; discs = ds }

pub one_table : (es : List Element) (t u : Curves) → AreCurves es t → AreCurves es u → t ≡ u
unfolding table
one_table es t u h k =
    let ls : t.lines ≡ u.lines = table_same has_line IsLineOf same_entry one_entry es t.lines u.lines (lines_part es t h) (lines_part es u k) in
    let ds : t.discs ≡ u.discs = table_same is_arc IsDiscOf is_same_disc one_disc es t.discs u.discs (discs_part es t h) (discs_part es u k) in
    ap (λ (xs : List (Line2 × V2)). table xs t.discs) ls ∙ ap (λ (xs : List Disc2). table u.lines xs) ds
