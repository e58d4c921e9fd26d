-- The chord law.
use Rattle.std.proofs.Common.{◌≡◌, ℕ, ◌+◌, Bool, true, false, ◌&&◌, ◌||◌, inl, inr, ◌≢◌, arith, refl, sym, ap, ◌∙◌}
use Rattle.std.proofs.lemmas.Int.{ints}
use lib.IntN.{ℤ, pos}
use lib.Signed.{◌<ℤ◌}
use Rattle.bc_num.specs.declared.v2.V2.{V2}
use Rattle.bc_num.specs.declared.p2.P2.{P2}
use Rattle.bc_parity.specs.Parity.{xor, is_odd, count}
use Rattle.bc_num.specs.Measures.{turn, square_distance, is_same}
use Rattle.bc_solid.specs.Closed.{IsClosedArc}
use Rattle.bc_parity.specs.Crossings.{Arc, half_of, is_first, lies_on, upper_first, lower_first, is_before, square_radius, is_in_disc, is_past_disc, meets_circle, is_above_upper, is_above_lower, is_crossed, has_upper, has_lower}
use Rattle.bc_parity.specs.Sides.{is_left, is_right}
use Rattle.bc_parity.specs.ChordLaw.{arc_of, ChordLaw}
use Rattle.bc_parity.proofs.Segments.{crosses_segment, bridge, back, at_point, same_no, same_yes, same_cases}
use Rattle.bc_parity.proofs.Orders.{lt_yes, lt_no, weak, by_order}
use Rattle.bc_parity.proofs.Rows.{counted_inside, counted_outside}
use Rattle.bc_parity.proofs.Turns.{Setting, turn_back, apart, meets_inside}
use Rattle.bc_parity.proofs.InDisc.{claim_inside}
use Rattle.bc_parity.proofs.PastDisc.{left_back, meets_is, same_outside}

-- ---- the two ends are the same, or not

lies_apart : (b order to_s to_e : Bool) → b ≡ false → lies_on b order to_s to_e ≡ lies_on false order to_s to_e
lies_apart b order to_s to_e h = rw h refl

lies_same : (b order to_s to_e : Bool) → b ≡ true → lies_on b order to_s to_e ≡ true
lies_same b order to_s to_e h = rw h refl

ends_apart : (s e : V2) (p : P2) → turn s e p ≢ pos 0 → is_same s e ≡ false
ends_apart s e p n = same_no s e (λ h. apart s e p n (ap (λ (t : V2). t.x) h) (ap (λ (t : V2). t.y) h))

-- ---- the crossings of the arc from s to e

abbrev crossings : Arc → V2 → V2 → P2 → ℕ
crossings arc s e p =
    count (meets_circle arc p && (has_upper arc s e p && is_above_upper arc p))
    + count (meets_circle arc p && (has_lower arc s e p && is_above_lower arc p))

and_no : (x y : Bool) → x ≡ false → (x && y) ≡ false
and_no x y h = rw h refl

or_yes : (x y : Bool) → x ≡ true → (x || y) ≡ true
or_yes x y h = rw h refl

or_no : (x y : Bool) → x ≡ false → (x || y) ≡ y
or_no x y h = rw h refl

inside_odd : (arc : Arc) (s e : V2) (p : P2) → square_distance arc.centre p <ℤ square_radius arc p → is_odd (crossings arc s e p) ≡ has_lower arc s e p
inside_odd arc s e p i =
    counted_inside (meets_circle arc p) (has_upper arc s e p) (has_lower arc s e p) (is_above_upper arc p) (is_above_lower arc p)
    (meets_is arc p (inl (meets_inside arc p i)))
    (and_no (is_past_disc arc p) _ (lt_no (square_radius arc p) (square_distance arc.centre p) (weak _ _ i)))
    (or_yes (is_in_disc arc p) _ (lt_yes (square_distance arc.centre p) (square_radius arc p) i))

outside_odd : (arc : Arc) (s e : V2) (p : P2) → square_radius arc p <ℤ square_distance arc.centre p → is_odd (crossings arc s e p) ≡ ((meets_circle arc p && is_above_upper arc p) && xor (has_upper arc s e p) (has_lower arc s e p))
outside_odd arc s e p o =
    counted_outside (meets_circle arc p) (has_upper arc s e p) (has_lower arc s e p) (is_above_upper arc p) (is_above_lower arc p)
    (or_no (is_in_disc arc p) (is_above_upper arc p) (lt_no (square_distance arc.centre p) (square_radius arc p) (weak _ _ o)))

far_off : (d r : ℤ) → r <ℤ d → d ≡ r → ⊥
far_off d r l e = absurd (omega (arith, ints))

-- the law at a counter-clockwise arc
module _ (arc : Arc) (p : P2) (s e : V2) (g : Setting arc s e) (off : square_distance arc.centre p ≢ square_radius arc p) where
  to_end : (a b c : Bool) → b ≡ true → xor a c ≡ xor a (b && c)
  to_end a b c h = rw h refl

  no_end : (a b c : Bool) → b ≡ false → a ≡ xor a (b && c)
  no_end true b c h = rw h refl
  no_end false b c h = rw h refl

  meet_apart : (b c d i j k l : Bool) → b ≡ false → (c && xor (lies_on b d i j) (lies_on b d k l)) ≡ (c && xor (lies_on false d i j) (lies_on false d k l))
  meet_apart b c d i j k l h = rw h refl

  chord : turn s e p ≢ pos 0 → is_odd (crossings arc s e p) ≡ xor (crosses_segment s e p) (is_in_disc arc p && is_right s e p)
  chord n =
      by_order (square_distance arc.centre p) (square_radius arc p)
      (λ i.
      inside_odd arc s e p i
      ∙ lies_apart (is_same s e) (is_first arc s e) (lower_first (half_of arc s) (is_before p s)) (lower_first (half_of arc e) (is_before p e)) (ends_apart s e p n)
      ∙ claim_inside arc p s e g i n
      ∙ to_end (crosses_segment s e p) (is_in_disc arc p) (is_right s e p) (lt_yes (square_distance arc.centre p) (square_radius arc p) i))
      (λ z. absurd (off z))
      (λ o.
      outside_odd arc s e p o
      ∙ meet_apart (is_same s e) (meets_circle arc p && is_above_upper arc p) (is_first arc s e) (upper_first (half_of arc s) (is_before p s)) (upper_first (half_of arc e) (is_before p e)) (lower_first (half_of arc s) (is_before p s)) (lower_first (half_of arc e) (is_before p e)) (ends_apart s e p n)
      ∙ same_outside arc p s e g o
      ∙ no_end (crosses_segment s e p) (is_in_disc arc p) (is_right s e p) (lt_no (square_distance arc.centre p) (square_radius arc p) (weak _ _ o)))

  flat : (a u l : Bool) → u ≡ true → l ≡ true → (a && xor u l) ≡ false
  flat true u l h k = rw (h, k) refl
  flat false u l h k = refl

  circle : s ≡ e → is_odd (crossings arc s e p) ≡ is_in_disc arc p
  circle h =
      by_order (square_distance arc.centre p) (square_radius arc p)
      (λ i.
      inside_odd arc s e p i
      ∙ lies_same (is_same s e) (is_first arc s e) (lower_first (half_of arc s) (is_before p s)) (lower_first (half_of arc e) (is_before p e)) (same_yes s e h)
      ∙ sym (lt_yes (square_distance arc.centre p) (square_radius arc p) i))
      (λ z. absurd (off z))
      (λ o.
      outside_odd arc s e p o
      ∙ flat (meets_circle arc p && is_above_upper arc p) (has_upper arc s e p) (has_lower arc s e p)
      (lies_same (is_same s e) (is_first arc s e) (upper_first (half_of arc s) (is_before p s)) (upper_first (half_of arc e) (is_before p e)) (same_yes s e h))
      (lies_same (is_same s e) (is_first arc s e) (lower_first (half_of arc s) (is_before p s)) (lower_first (half_of arc e) (is_before p e)) (same_yes s e h))
      ∙ sym (lt_no (square_distance arc.centre p) (square_radius arc p) (weak _ _ o)))

  bend : (c b d i j k l : Bool) → b ≡ false → (c && xor (lies_on b d i j) (lies_on b d k l)) ≡ (c && xor (lies_on false d i j) (lies_on false d k l))
  bend c b d i j k l h = rw h refl

  past : square_radius arc p <ℤ square_distance arc.centre p → is_odd (crossings arc s e p) ≡ is_crossed s e p
  past o =
      elim (same_cases s e) [
        | inl h ↦ circle h.0 ∙ lt_no (square_distance arc.centre p) (square_radius arc p) (weak _ _ o) ∙ sym (at_point s p) ∙ ap (λ t. is_crossed s t p) h.0
        | inr n ↦
            outside_odd arc s e p o
            ∙ bend (meets_circle arc p && is_above_upper arc p) (is_same s e) (is_first arc s e) (upper_first (half_of arc s) (is_before p s)) (upper_first (half_of arc e) (is_before p e)) (lower_first (half_of arc s) (is_before p s)) (lower_first (half_of arc e) (is_before p e)) n.1
            ∙ same_outside arc p s e g o
            ∙ bridge s e p
      ]

-- ---- both directions

right_back : (s e : V2) (p : P2) → is_right e s p ≡ is_left s e p
right_back s e p = sym (left_back e s p)

turned : (s e : V2) (p : P2) → turn s e p ≢ pos 0 → turn e s p ≢ pos 0
turned s e p n h = let b = turn_back s e p in n (omega (arith, ints))

both_ways : (x x' i r l : Bool) → x ≡ x' → r ≡ l → xor x (i && r) ≡ xor x' (i && l)
both_ways x x' i r l p q = rw (p, q) refl

pub chord_law : (a b c : V2) (ccw : Bool) → IsClosedArc a b c → ChordLaw (arc_of a b c ccw)
chord_law a b c true h = record {
  chord = λ p off n.
      chord (arc_of a b c true) p a b (record { at_s = refl; at_e = h.closed }) off n
      ∙ ap (λ x. xor x (is_in_disc (arc_of a b c true) p && is_right a b p)) (bridge a b p);
  circle = λ q p off. circle (arc_of a b c true) p a b (record { at_s = refl; at_e = h.closed }) off q;
  past = λ p o. past (arc_of a b c true) p a b (record { at_s = refl; at_e = h.closed }) (far_off _ _ o) o;
}
chord_law a b c false h = record {
  chord = λ p off n.
      chord (arc_of a b c false) p b a (record { at_s = h.closed; at_e = refl }) off (turned a b p n)
      ∙ both_ways (crosses_segment b a p) (is_crossed a b p) (is_in_disc (arc_of a b c false) p) (is_right b a p) (is_left a b p) (bridge b a p ∙ back b a p) (right_back a b p);
  circle = λ q p off. circle (arc_of a b c false) p b a (record { at_s = h.closed; at_e = refl }) off (sym q);
  past = λ p o. past (arc_of a b c false) p b a (record { at_s = h.closed; at_e = refl }) (far_off _ _ o) o ∙ back b a p;
}
