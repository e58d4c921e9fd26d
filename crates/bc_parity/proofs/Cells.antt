-- The flip law, the law strictly outside the discs, and the cell law.
use Rattle.std.proofs.Common.{◌≡◌, Bool, true, false, ◌&&◌, ◌||◌, inl, inr, List, [], ◌∷◌, refl, sym, ◌∙◌, ap}
use Rattle.std.specs.Prelude.{All, slice_index_or}
use Rattle.bc_num.specs.declared.p2.P2.{P2}
use Rattle.bc_num.specs.Measures.{is_same}
use Rattle.bc_solid.specs.declared.element.Element.{Element}
use Rattle.bc_solid.specs.declared.element.Element.TheVariants.{Edge, Arc}
use Rattle.bc_solid.specs.Closed.{IsProper, AreClosed, joined}
use Rattle.bc_solid.specs.HalfSpaces.{IsOn, is_above}
use Rattle.bc_parity.specs.Parity.{xor, is_odd}
use Rattle.bc_parity.specs.Sums.{odd}
use Rattle.bc_parity.specs.Crossings.{is_in_disc}
use Rattle.bc_parity.specs.Sides.{is_left, is_right, side_by, is_on_arc_side}
use Rattle.bc_parity.specs.ChordLaw.{arc_of}
use Rattle.bc_parity.specs.Odd.{crossings_of, crossings_in, is_odd_at}
use Rattle.bc_parity.specs.StraightOdd.{straight_crossings_of, is_straight_odd_at}
use Rattle.bc_parity.specs.Flips.{is_flipped, is_oddly_flipped}
use Rattle.bc_parity.specs.Laws.{CellLaw, FlipLaw, IsAway, AwayLaw}
use Rattle.bc_parity.proofs.Xors.{xor_false, and_true, odd-same, odd-xor}
use Rattle.bc_parity.proofs.Segments.{same_cases}
use Rattle.bc_parity.proofs.Chords.{chord_law}
use Rattle.bc_parity.proofs.Halves.{ForHalves, for_halves}
use Rattle.bc_parity.proofs.Straight.{odd_sum, straight_odd_in, chord_odd, ends_crossed, left_same, right_same, straight_cell_law}

pub odd_in : (es : List Element) (p : P2) → is_odd_at es p ≡ odd (λ e. is_odd (crossings_of e p)) es
odd_in [] p = refl
odd_in (e ∷ es) p = odd_sum (crossings_of e p) (crossings_in es p) ∙ ap (xor (is_odd (crossings_of e p))) (odd_in es p)

-- ---- one element

-- p is on the boundary of none of the element's half-spaces
abbrev IsOffOf : P2 → Element → Type 0
IsOffOf p e = ForHalves (λ h. IsOn h p → ⊥) e

full : (o i c s t : Bool) → o ≡ i → c ≡ false → s ≡ true → o ≡ xor c (i && (s || t))
full o i c s t h k l = h ∙ rw (k, l) (sym (and_true i))

part : (o i c s t : Bool) → o ≡ xor c (i && t) → s ≡ false → o ≡ xor c (i && (s || t))
part o i c s t h l = h ∙ rw l refl

element_flip : (e : Element) (p : P2) → IsProper e → IsOffOf p e → is_odd (crossings_of e p) ≡ xor (is_odd (straight_crossings_of e p)) (is_flipped e p)
element_flip (Edge a b) p h f = sym (xor_false (is_odd (straight_crossings_of (Edge a b) p)))
element_flip (Arc a b c ccw) p h f =
    elim (same_cases a b) [
      | inl k ↦
          full (is_odd (crossings_of (Arc a b c ccw) p)) (is_in_disc (arc_of a b c ccw) p) (is_odd (straight_crossings_of (Arc a b c ccw) p)) (is_same a b) (is_on_arc_side (arc_of a b c ccw) p)
          ((chord_law a b c ccw h).circle k.0 p f.1) (chord_odd (Arc a b c ccw) p ∙ ends_crossed a b p k.1) k.1
      | inr n ↦
          part (is_odd (crossings_of (Arc a b c ccw) p)) (is_in_disc (arc_of a b c ccw) p) (is_odd (straight_crossings_of (Arc a b c ccw) p)) (is_same a b) (is_on_arc_side (arc_of a b c ccw) p)
          ((chord_law a b c ccw h).chord p f.1 (f.0 n.1) ∙ ap (λ x. xor x (is_in_disc (arc_of a b c ccw) p && is_on_arc_side (arc_of a b c ccw) p)) (sym (chord_odd (Arc a b c ccw) p))) n.1
    ]

element_away : (e : Element) (p : P2) → IsProper e → IsAway p e → is_odd (crossings_of e p) ≡ is_odd (straight_crossings_of e p)
element_away (Edge a b) p h o = refl
element_away (Arc a b c ccw) p h o = (chord_law a b c ccw h).past p o ∙ sym (chord_odd (Arc a b c ccw) p)

-- ---- lists of elements

pub flip_law : (es : List Element) → All IsProper es → FlipLaw es
flip_law es h p f =
    let fs = for_halves (λ k. IsOn k p → ⊥) es f in
    odd_in es p
    ∙ odd-same (λ e. is_odd (crossings_of e p)) (λ e. xor (is_odd (straight_crossings_of e p)) (is_flipped e p)) es
    (λ i d l. element_flip (slice_index_or es i d) p (h i d l) (fs i d l))
    ∙ odd-xor (λ e. is_odd (straight_crossings_of e p)) (λ e. is_flipped e p) es
    ∙ ap (λ x. xor x (is_oddly_flipped es p)) (sym (straight_odd_in es p))

pub away_law : (es : List Element) → All IsProper es → AwayLaw es
away_law es h p o =
    odd_in es p
    ∙ odd-same (λ e. is_odd (crossings_of e p)) (λ e. is_odd (straight_crossings_of e p)) es
    (λ i d l. element_away (slice_index_or es i d) p (h i d l) (o i d l))
    ∙ sym (straight_odd_in es p)

-- ---- the flips at two points

sides_same : (ccw l r l' r' : Bool) → l ≡ l' → r ≡ r' → side_by ccw l r ≡ side_by ccw l' r'
sides_same true l r l' r' h k = k
sides_same false l r l' r' h k = h

circle_same : (i i' s t t' : Bool) → s ≡ true → i ≡ i' → (i && (s || t)) ≡ (i' && (s || t'))
circle_same i i' s t t' h k = rw (h, k) refl

side_same : (i i' s t t' : Bool) → t ≡ t' → i ≡ i' → (i && (s || t)) ≡ (i' && (s || t'))
side_same i i' s t t' h k = rw (h, k) refl

flips_same : (e : Element) (p q : P2) → IsOffOf p e → IsOffOf q e → ForHalves (λ h. is_above h p ≡ is_above h q) e → is_flipped e p ≡ is_flipped e q
flips_same (Edge a b) p q f g s = refl
flips_same (Arc a b c ccw) p q f g s =
    elim (same_cases a b) [
      | inl k ↦ circle_same (is_in_disc (arc_of a b c ccw) p) (is_in_disc (arc_of a b c ccw) q) (is_same a b) (is_on_arc_side (arc_of a b c ccw) p) (is_on_arc_side (arc_of a b c ccw) q) k.1 s.1
      | inr k ↦
          side_same (is_in_disc (arc_of a b c ccw) p) (is_in_disc (arc_of a b c ccw) q) (is_same a b) (is_on_arc_side (arc_of a b c ccw) p) (is_on_arc_side (arc_of a b c ccw) q)
          (sides_same ccw (is_left a b p) (is_right a b p) (is_left a b q) (is_right a b q)
          (left_same a b p q (f.0 k.1) (g.0 k.1) (s.0 k.1)) (right_same a b p q (f.0 k.1) (g.0 k.1) (s.0 k.1)))
          s.1
    ]

pub cell_law : (contours : List (List Element)) → AreClosed contours → CellLaw (joined contours)
cell_law contours h p q f g s =
    let fs = for_halves (λ k. IsOn k p → ⊥) (joined contours) f in
    let gs = for_halves (λ k. IsOn k q → ⊥) (joined contours) g in
    let ss = for_halves (λ k. is_above k p ≡ is_above k q) (joined contours) s in
    flip_law (joined contours) h.proper p f
    ∙ ap (λ x. xor x (is_oddly_flipped (joined contours) p))
    (straight_cell_law contours h.closed p q (λ i d l k. f i d l) (λ i d l k. g i d l) (λ i d l k. s i d l))
    ∙ ap (xor (is_straight_odd_at (joined contours) q))
    (odd-same (λ e. is_flipped e p) (λ e. is_flipped e q) (joined contours) (λ i d l. flips_same (slice_index_or (joined contours) i d) p q (fs i d l) (gs i d l) (ss i d l)))
    ∙ sym (flip_law (joined contours) h.proper q g)
