-- A free point is odd exactly where its mask is, at any point of its region.
use Rattle.std.specs.Prelude.{◌≡◌, ◌≢◌, ℕ, Bool, true, false, ◌&&◌, ◌||◌, List, length, slice_index_or, All}
use Rattle.std.specs.List.{Contains}
use Rattle.std.proofs.Common.{refl, sym, ap, ◌∙◌, subst}
use Rattle.std.proofs.lemmas.List.Elements.{Contains-get_or}
use Rattle.bc_num.specs.declared.p2.P2.{P2}
use Rattle.bc_num.specs.declared.disc2.Disc2.{Disc2}
use Rattle.bc_num.specs.Measures.{is_same, square_between}
use Rattle.bc_space.specs.declared.side.Side.TheVariants.{On}
use Rattle.bc_space.specs.Lines.{line_side}
use Rattle.bc_space.specs.Regions.{mask_of}
use Rattle.bc_space.specs.LinesThrough.{IsLineThrough}
use Rattle.bc_solid.specs.declared.element.Element.{Element}
use Rattle.bc_solid.specs.declared.element.Element.TheVariants.{Edge, Arc}
use Rattle.bc_solid.specs.Closed.{IsProper, IsProfile, start_of, end_of}
use Rattle.bc_solid.specs.HalfSpaces.{IsOn, IsOff, IsOffLines, AreAlikeByLines, is_above, is_line}
use Rattle.bc_parity.specs.Parity.{xor}
use Rattle.bc_parity.specs.Sums.{odd}
use Rattle.bc_parity.specs.Sides.{is_left, is_right, side_by, is_on_arc_side}
use Rattle.bc_parity.specs.Crossings.{is_in_disc}
use Rattle.bc_parity.specs.ChordLaw.{arc_of}
use Rattle.bc_parity.specs.Odd.{is_odd_at}
use Rattle.bc_parity.specs.Flips.{is_flipped, is_oddly_flipped}
use Rattle.bc_parity.specs.StraightOdd.{is_straight_odd_at}
use Rattle.bc_parity.specs.Laws.{FlipLaw, StraightCellLaw}
use Rattle.bc_parity.proofs.Halves.{ForHalves, for_halves}
use Rattle.bc_parity.proofs.Straight.{left_same, right_same}
use Rattle.bc_parity.proofs.Xors.{odd-same}
use Rattle.bc_natural.specs.Curves.{Curves, AreCurves, lines_of, is_arc, IsDiscOf}
use Rattle.bc_natural.specs.Masks.{curve_mask}
use Rattle.bc_natural.proofs.Table.{entry_at, line_in_table, line_from_element, disc_in_table, disc_from_element}
use Rattle.bc_classify.specs.OddMasks.{has_disc, flips, is_odd_mask}
use Rattle.bc_classify.specs.Splits.{OddMaskLaw}
use Rattle.bc_classify.proofs.Halves.{IsTable, off_lines, alike_by_lines}
use Rattle.bc_classify.proofs.Discs.{has_where_in}

-- ---- the table

-- a table of elements says of each line and disc whose it is
pub table_is : (es : List Element) (t : Curves) → AreCurves es t → IsTable es t
table_is es t h = record {
  line_in = line_in_table es t h;
  line_from = λ i l e.
      let g = entry_at t.lines i l e in
      let r = line_from_element es t h i g.0 g.1 in
      (r.0, r.1, r.2, subst (IsLineThrough (start_of r.0) (end_of r.0)) g.2 r.3.line);
  disc_in = disc_in_table es t h;
  disc_from = disc_from_element es t h;
}

-- ---- one element

sides_same : (ccw l r l' r' : Bool) → l ≡ l' → r ≡ r' → side_by ccw l r ≡ side_by ccw l' r'
sides_same true l r l' r' h k = k
sides_same false l r l' r' h k = h

both_same : (i i' s b b' : Bool) → i ≡ i' → (s ≡ false → b ≡ b') → (i && (s || b)) ≡ (i' && (s || b'))
both_same i i' true b b' h k = rw h refl
both_same i i' false b b' h k = rw (h, k refl) refl

-- p and q are on none of the lines of the element, and Above the same
abbrev pub IsAlike : P2 → P2 → Element → Type 0
IsAlike p q e =
    ForHalves (λ h. is_line h ≡ true → IsOn h p → ⊥) e
    × ForHalves (λ h. is_line h ≡ true → IsOn h q → ⊥) e
    × ForHalves (λ h. is_line h ≡ true → is_above h p ≡ is_above h q) e

-- the table has the disc of each arc
abbrev pub HasDiscs : List Element → Curves → Type 0
HasDiscs es t = (e : Element) → Contains es e → is_arc e ≡ true → (d : Disc2) × Contains t.discs d × IsDiscOf e d

-- an element flips the parity at p just where it flips that of p's mask at q
flip_same : (es : List Element) (t : Curves) → HasDiscs es t → (p q : P2) (e : Element) → Contains es e → IsAlike p q e → is_flipped e p ≡ flips t q (curve_mask t p) e
flip_same es t k p q (Edge a b) m alike = refl
flip_same es t k p q (Arc a b c ccw) m (f, g, s) =
    let d = k (Arc a b c ccw) m refl in
    both_same (is_in_disc (arc_of a b c ccw) p) (has_disc (curve_mask t p) (length t.lines) t.discs c (square_between c a)) (is_same a b)
    (is_on_arc_side (arc_of a b c ccw) p) (is_on_arc_side (arc_of a b c ccw) q)
    (sym (has_where_in t p c (square_between c a) d.0 d.1 d.2.0 d.2.1))
    (λ n.
    sides_same ccw (is_left a b p) (is_right a b p) (is_left a b q) (is_right a b q)
    (left_same a b p q (f.0 n refl) (g.0 n refl) (s.0 n refl)) (right_same a b p q (f.0 n refl) (g.0 n refl) (s.0 n refl)))

-- an element flips a mask's parity at p just where it flips that at q
pub flips_moved : (t : Curves) (mask : ℕ) (p q : P2) (e : Element) → IsAlike p q e → flips t p mask e ≡ flips t q mask e
flips_moved t mask p q (Edge a b) alike = refl
flips_moved t mask p q (Arc a b c ccw) (f, g, s) =
    both_same (has_disc mask (length t.lines) t.discs c (square_between c a)) (has_disc mask (length t.lines) t.discs c (square_between c a)) (is_same a b)
    (is_on_arc_side (arc_of a b c ccw) p) (is_on_arc_side (arc_of a b c ccw) q) refl
    (λ n.
    sides_same ccw (is_left a b p) (is_right a b p) (is_left a b q) (is_right a b q)
    (left_same a b p q (f.0 n refl) (g.0 n refl) (s.0 n refl)) (right_same a b p q (f.0 n refl) (g.0 n refl) (s.0 n refl)))

-- ---- all elements

flips_same : (es : List Element) (t : Curves) → HasDiscs es t → (p q : P2) → IsOffLines es p → IsOffLines es q → AreAlikeByLines es p q → is_oddly_flipped es p ≡ odd (flips t q (curve_mask t p)) es
flips_same es t k p q f g s =
    let fs = for_halves (λ h. is_line h ≡ true → IsOn h p → ⊥) es f in
    let gs = for_halves (λ h. is_line h ≡ true → IsOn h q → ⊥) es g in
    let ss = for_halves (λ h. is_line h ≡ true → is_above h p ≡ is_above h q) es s in
    odd-same (λ e. is_flipped e p) (flips t q (curve_mask t p)) es
    (λ i d l. flip_same es t k p q (slice_index_or es i d) (Contains-get_or es i d l) (fs i d l, gs i d l, ss i d l))

pub proper_of : (es : List Element) → IsProfile es → All IsProper es
proper_of es h = subst (All IsProper) h.whole h.closed.proper

-- the mask is odd just where the point is, over a table that may have the half-spaces of others too
pub one_mask : (es : List Element) (t : Curves) → HasDiscs es t → FlipLaw es → StraightCellLaw es → (p q : P2) → IsOff es p → IsOffLines es q → AreAlikeByLines es p q
    → is_odd_at es p ≡ is_odd_mask es t q (curve_mask t p)
one_mask es t k flip straight p q off g s =
    let f : IsOffLines es p = λ i d l line. off i d l in
    flip p off
    ∙ ap (λ b. xor b (is_oddly_flipped es p)) (straight p q f g s)
    ∙ ap (xor (is_straight_odd_at es q)) (flips_same es t k p q f g s)

pub odd_masks : (es : List Element) (t : Curves) → AreCurves es t → IsProfile es → FlipLaw es → StraightCellLaw es → OddMaskLaw es t
odd_masks es t h profile flip straight p q off_p off_q same =
    let k = table_is es t h in
    let proper = proper_of es profile in
    one_mask es t k.disc_in flip straight p q off_p (off_lines es t k proper q off_q) (alike_by_lines es t k proper p q (sym same))

-- a mask has the same parity at all points on none of the table's lines that are Above the same of them
pub region_parity : (es : List Element) (t : Curves) → AreCurves es t → All IsProper es → StraightCellLaw es
    → (p q : P2) → All (λ l. line_side l p ≢ On) (lines_of t) → All (λ l. line_side l q ≢ On) (lines_of t) → mask_of line_side (lines_of t) p ≡ mask_of line_side (lines_of t) q
    → (mask : ℕ) → is_odd_mask es t p mask ≡ is_odd_mask es t q mask
region_parity es t h proper straight p q off_p off_q same mask =
    let k = table_is es t h in
    let f = off_lines es t k proper p off_p in
    let g = off_lines es t k proper q off_q in
    let s = alike_by_lines es t k proper p q same in
    let fs = for_halves (λ h. is_line h ≡ true → IsOn h p → ⊥) es f in
    let gs = for_halves (λ h. is_line h ≡ true → IsOn h q → ⊥) es g in
    let ss = for_halves (λ h. is_line h ≡ true → is_above h p ≡ is_above h q) es s in
    ap (λ b. xor b (odd (flips t p mask) es)) (straight p q f g s)
    ∙ ap (xor (is_straight_odd_at es q))
    (odd-same (flips t p mask) (flips t q mask) es (λ i d l. flips_moved t mask p q (slice_index_or es i d) (fs i d l, gs i d l, ss i d l)))
