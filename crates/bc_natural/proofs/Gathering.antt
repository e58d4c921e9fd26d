-- One more element: what the table of some elements becomes, and that its numbers keep their sizes.
use Rattle.std.proofs.Common.{◌≡◌, ℕ, ◌+◌, Bool, true, false, not, inl, inr, List, [], ◌∷◌, ◌++◌, take, refl, sym, ap, ◌∙◌, subst}
use Rattle.std.specs.Prelude.{slice_get, Some, All, Result, Ok, Err, OnOk}
use Rattle.std.proofs.lemmas.List.Elements.{All-nil, All-contains}
use Rattle.bc_num.specs.declared.v2.V2.{V2}
use Rattle.bc_num.specs.declared.disc2.Disc2.{Disc2}
use Rattle.bc_num.specs.Measures.{is_same, square_between}
use Rattle.bc_num.specs.Sizes.{AreCoords}
use Rattle.bc_space.specs.declared.line2.Line2.{Line2}
use Rattle.bc_space.specs.Lines.{IsSizedLine}
use Rattle.bc_space.specs.Discs.{IsSizedDisc}
use Rattle.bc_space.specs.LinesThrough.{IsLineThrough}
use Rattle.bc_solid.specs.declared.element.Element.{Element}
use Rattle.bc_solid.specs.declared.element.Element.TheVariants.{Edge, Arc}
use Rattle.bc_solid.specs.Closed.{start_of, end_of, IsProper, IsProfile}
use Rattle.bc_natural.specs.Curves.{Curves, AreCurves, has_line, is_arc, IsLineOf, IsDiscOf, is_same_line, is_same_disc}
use Rattle.bc_natural.specs.Noted.{with_new, AddsLine, AddsDisc, Adds}
use Rattle.bc_natural.specs.Limits.{AreSized}
use Rattle.bc_natural.proofs.FirstSeen.{contains_at, all_with, table_nil, table_more, table_kept}
use Rattle.bc_natural.proofs.Canonical.{same_place}
use Rattle.bc_natural.proofs.Lists.{front_more}
use Rattle.bc_natural.proofs.Table.{AreLines, AreDiscs, same_entry, line_laws, disc_laws, lines_part, discs_part, whole_table}

-- what holds of a state that a call left, where it succeeded
after_both : {T E : Type 0} (P Q S : Type 0) (r : Result T E) → (P → Q → S) → OnOk r P → OnOk r Q → OnOk r S
after_both P Q S (Ok x) f h k = f h k
after_both P Q S (Err e) f h k = h

-- ---- one element's line and disc

pub adds_line : {T E : Type 0} (r : Result T E) (a b : V2) (l : Line2) (t u : Curves) → is_same a b ≡ false → IsLineThrough a b l
    → OnOk r (u.lines ≡ with_new (λ g h. is_same_line g.0 h.0) t.lines (l, a)) → OnOk r (u.discs ≡ t.discs) → OnOk r (AddsLine a b t u)
adds_line r a b l t u s h =
    after_both (u.lines ≡ with_new (λ g h. is_same_line g.0 h.0) t.lines (l, a)) (u.discs ≡ t.discs) (AddsLine a b t u) r
    (λ e f. inr (s, record { line = l; through = h; lines = e; discs = f }))

pub adds_disc : {T E : Type 0} (r : Result T E) (a c : V2) (d : Disc2) (t u : Curves) → d.c ≡ c → d.r2 ≡ square_between c a
    → OnOk r (u.lines ≡ t.lines) → OnOk r (u.discs ≡ with_new is_same_disc t.discs d) → OnOk r (AddsDisc a c t u)
adds_disc r a c d t u h k =
    after_both (u.lines ≡ t.lines) (u.discs ≡ with_new is_same_disc t.discs d) (AddsDisc a c t u) r
    (λ e f. record { disc = d; centre = h; radius = k; lines = e; discs = f })

pub differ : (a b : V2) → (a ≡ b → ⊥) → is_same a b ≡ false
differ a b h = by (is_same a b) refl
  where
    by : (x : Bool) → is_same a b ≡ x → x ≡ false
    by true e = absurd (h (same_place a b e))
    by false e = refl

-- ---- sizes

pub sized_nil : (t : Curves) → t.lines ≡ [] → t.discs ≡ [] → AreSized t
sized_nil t e f = record {
  lines = subst (All (λ (g : Line2 × V2). IsSizedLine g.0)) (sym e) (All-nil (λ (g : Line2 × V2). IsSizedLine g.0));
  origins = subst (All (λ (g : Line2 × V2). AreCoords g.1)) (sym e) (All-nil (λ (g : Line2 × V2). AreCoords g.1));
  discs = subst (All IsSizedDisc) (sym f) (All-nil IsSizedDisc);
}

with_line : (t u : Curves) (l : Line2) (o : V2) → AreSized t → IsSizedLine l → AreCoords o → u.lines ≡ with_new (λ g h. is_same_line g.0 h.0) t.lines (l, o) → u.discs ≡ t.discs → AreSized u
with_line t u l o s sl so e f = record {
  lines = subst (All (λ (g : Line2 × V2). IsSizedLine g.0)) (sym e) (all_with same_entry (λ (g : Line2 × V2). IsSizedLine g.0) t.lines (l, o) s.lines sl);
  origins = subst (All (λ (g : Line2 × V2). AreCoords g.1)) (sym e) (all_with same_entry (λ (g : Line2 × V2). AreCoords g.1) t.lines (l, o) s.origins so);
  discs = subst (All IsSizedDisc) (sym f) s.discs;
}

with_disc : (t u : Curves) (d : Disc2) → AreSized t → IsSizedDisc d → u.lines ≡ t.lines → u.discs ≡ with_new is_same_disc t.discs d → AreSized u
with_disc t u d s sd e f = record {
  lines = subst (All (λ (g : Line2 × V2). IsSizedLine g.0)) (sym e) s.lines;
  origins = subst (All (λ (g : Line2 × V2). AreCoords g.1)) (sym e) s.origins;
  discs = subst (All IsSizedDisc) (sym f) (all_with is_same_disc IsSizedDisc t.discs d s.discs sd);
}

pub sized_line : {T E : Type 0} (r : Result T E) (t u : Curves) (l : Line2) (o : V2) → AreSized t → IsSizedLine l → AreCoords o
    → OnOk r (u.lines ≡ with_new (λ g h. is_same_line g.0 h.0) t.lines (l, o)) → OnOk r (u.discs ≡ t.discs) → OnOk r (AreSized u)
sized_line r t u l o s sl so =
    after_both (u.lines ≡ with_new (λ g h. is_same_line g.0 h.0) t.lines (l, o)) (u.discs ≡ t.discs) (AreSized u) r (with_line t u l o s sl so)

pub sized_disc : {T E : Type 0} (r : Result T E) (t u : Curves) (d : Disc2) → AreSized t → IsSizedDisc d
    → OnOk r (u.lines ≡ t.lines) → OnOk r (u.discs ≡ with_new is_same_disc t.discs d) → OnOk r (AreSized u)
sized_disc r t u d s sd =
    after_both (u.lines ≡ t.lines) (u.discs ≡ with_new is_same_disc t.discs d) (AreSized u) r (with_disc t u d s sd)

-- ---- one more element

pub curves_nil : (t : Curves) → t.lines ≡ [] → t.discs ≡ [] → AreCurves [] t
curves_nil t e f =
    whole_table [] t (subst (AreLines []) (sym e) (table_nil has_line IsLineOf same_entry)) (subst (AreDiscs []) (sym f) (table_nil is_arc IsDiscOf is_same_disc))

more_lines : (es : List Element) (e : Element) (t u : Curves) → AreLines es t.lines → AddsLine (start_of e) (end_of e) t u → AreLines (es ++ e ∷ []) u.lines
more_lines es e t u h (inl (s, k)) =
    subst (AreLines (es ++ e ∷ [])) (sym (ap (λ (c : Curves). c.lines) k)) (table_kept has_line IsLineOf same_entry es t.lines e h (ap not s))
more_lines es e t u h (inr (s, k)) =
    subst (AreLines (es ++ e ∷ [])) (sym k.lines)
    (table_more has_line IsLineOf same_entry line_laws es t.lines e (k.line, start_of e) h (ap not s) (record { line = k.through; origin = refl }))

same_discs : (a b : V2) (t u : Curves) → AddsLine a b t u → u.discs ≡ t.discs
same_discs a b t u (inl (s, k)) = ap (λ (c : Curves). c.discs) k
same_discs a b t u (inr (s, k)) = k.discs

more : (es : List Element) (e : Element) (t u : Curves) → AreCurves es t → Adds e t u → AreCurves (es ++ e ∷ []) u
more es (Edge a b) t u h k =
    whole_table (es ++ Edge a b ∷ []) u (more_lines es (Edge a b) t u (lines_part es t h) k)
    (subst (AreDiscs (es ++ Edge a b ∷ [])) (sym (same_discs a b t u k)) (table_kept is_arc IsDiscOf is_same_disc es t.discs (Edge a b) (discs_part es t h) refl))
more es (Arc a b c ccw) t u h (v, k, d) =
    whole_table (es ++ Arc a b c ccw ∷ []) u
    (subst (AreLines (es ++ Arc a b c ccw ∷ [])) (sym d.lines) (more_lines es (Arc a b c ccw) t v (lines_part es t h) k))
    (subst (AreDiscs (es ++ Arc a b c ccw ∷ [])) (sym (d.discs ∙ ap (λ xs. with_new is_same_disc xs d.disc) (same_discs a b t v k)))
    (table_more is_arc IsDiscOf is_same_disc disc_laws es t.discs (Arc a b c ccw) d.disc (discs_part es t h) refl (d.centre, d.radius)))

pub curves_more : (es : List Element) (i : ℕ) (e : Element) (t u : Curves) → slice_get es i ≡ Some e → AreCurves (take i es) t → Adds e t u → AreCurves (take (i + 1) es) u
curves_more es i e t u h a k = subst (λ ds. AreCurves ds u) (sym (front_more es i e h)) (more (take i es) e t u a k)

-- ---- of a profile

pub proper_at : (es : List Element) (i : ℕ) (e : Element) → IsProfile es → slice_get es i ≡ Some e → IsProper e
proper_at es i e p h = All-contains IsProper es e (subst (All IsProper) p.whole p.closed.proper) (contains_at es i e h)
