-- The straight cell law: the edge lemma, summed along closed contours.
use Rattle.std.proofs.Common.{◌≡◌, ℕ, zero, suc, ◌+◌, Bool, true, false, not, ◌&&◌, inl, inr, List, [], ◌∷◌, arith, zero-add, refl, sym, ◌∙◌, ap}
use Rattle.std.specs.Prelude.{All, slice_index_or, int_lt}
use Rattle.std.proofs.lemmas.Int.{ints}
use Rattle.std.proofs.lemmas.List.Elements.{All-head, All-tail}
use lib.IntN.{ℤ, pos, ◌*ℤ◌}
use lib.Signed.{◌<ℤ◌}
use Rattle.bc_num.specs.declared.v2.V2.{V2}
use Rattle.bc_num.specs.declared.p2.P2.{P2}
use Rattle.bc_num.specs.Measures.{turn, is_same}
use Rattle.bc_solid.specs.declared.element.Element.{Element}
use Rattle.bc_solid.specs.declared.element.Element.TheVariants.{Edge, Arc}
use Rattle.bc_solid.specs.Closed.{start_of, end_of, IsWay, IsContour, joined}
use Rattle.bc_solid.specs.HalfSpaces.{leads_forth, above_by, is_above, is_line, IsOn, Line}
use Rattle.bc_parity.specs.Parity.{xor, is_odd, count}
use Rattle.bc_parity.specs.Sums.{odd}
use Rattle.bc_parity.specs.Crossings.{is_crossed}
use Rattle.bc_parity.specs.Sides.{is_left, is_right}
use Rattle.bc_parity.specs.StraightOdd.{straight_crossings_of, straight_crossings_in, is_straight_odd_at}
use Rattle.bc_parity.specs.Laws.{StraightCellLaw}
use Rattle.bc_parity.proofs.Orders.{by_order, one_way}
use Rattle.bc_parity.proofs.Signs.{one_side_above, one_side_below}
use Rattle.bc_parity.proofs.Xors.{xor_same, xor_through, xor_zero, odd-append, odd-xor, odd-same, odd-same_all}
use Rattle.bc_parity.proofs.Segments.{at_point, same_cases}
use Rattle.bc_parity.proofs.Edges.{IsOneSide, is_under, edge_lemma}
use Rattle.bc_parity.proofs.Halves.{ForHalves, for_halves}

-- ---- the parity of a sum

pub odd_of-count : (b : Bool) → is_odd (count b) ≡ b
odd_of-count true = refl
odd_of-count false = refl

pub odd_sum : (m n : ℕ) → is_odd (m + n) ≡ xor (is_odd m) (is_odd n)
odd_sum zero n = ap is_odd (zero-add n)
odd_sum (suc m) n = ap is_odd (next m n) ∙ ap not (odd_sum m n) ∙ turned (is_odd m) (is_odd n)
  where
    next : (m n : ℕ) → suc m + n ≡ suc (m + n)
    next m n = omega arith

    turned : (a b : Bool) → not (xor a b) ≡ xor (not a) b
    turned true true = refl
    turned true false = refl
    turned false b = refl

pub straight_odd_in : (es : List Element) (p : P2) → is_straight_odd_at es p ≡ odd (λ e. is_odd (straight_crossings_of e p)) es
straight_odd_in [] p = refl
straight_odd_in (e ∷ es) p = odd_sum (straight_crossings_of e p) (straight_crossings_in es p) ∙ ap (xor (is_odd (straight_crossings_of e p))) (straight_odd_in es p)

-- ---- chords

-- the ray crosses the segment from the element's start to its end
abbrev pub is_chord_crossed : P2 → Element → Bool
is_chord_crossed p e = is_crossed (start_of e) (end_of e) p

chord_when : (b c : Bool) → (b ≡ true → c ≡ false) → is_odd (count (not b && c)) ≡ c
chord_when true c h = sym (h refl)
chord_when false c h = odd_of-count c

pub ends_crossed : (a b : V2) (p : P2) → is_same a b ≡ true → is_crossed a b p ≡ false
ends_crossed a b p h =
    elim (same_cases a b) [
      | inl k ↦ ap (λ t. is_crossed a t p) (sym k.0) ∙ at_point a p
      | inr n ↦ absurd (let q : true ≡ false = sym h ∙ n.1 in cc)
    ]

pub chord_odd : (e : Element) (p : P2) → is_odd (straight_crossings_of e p) ≡ is_chord_crossed p e
chord_odd (Edge a b) p = odd_of-count (is_crossed a b p)
chord_odd (Arc a b c ccw) p = chord_when (is_same a b) (is_crossed a b p) (ends_crossed a b p)

pub straight_is : (es : List Element) (p : P2) → is_straight_odd_at es p ≡ odd (is_chord_crossed p) es
straight_is es p = straight_odd_in es p ∙ odd-same_all (λ e. is_odd (straight_crossings_of e p)) (is_chord_crossed p) es (λ e. chord_odd e p)

-- ---- what speaks of one end alone is even along a closed contour

abbrev pub ends : (V2 → Bool) → Element → Bool
ends g e = xor (g (start_of e)) (g (end_of e))

along : (g : V2 → Bool) (a : V2) (es : List Element) (z : V2) → IsWay a es z → odd (ends g) es ≡ xor (g a) (g z)
along g a [] z h = sym (xor_same (g z)) ∙ ap (λ v. xor (g v) (g z)) (sym h)
along g a (e ∷ es) z h =
    ap (xor (ends g e)) (along g (end_of e) es z h.1)
    ∙ xor_through (g (start_of e)) (g (end_of e)) (g z)
    ∙ ap (λ v. xor (g v) (g z)) h.0

round : (g : V2 → Bool) (es : List Element) → IsContour es → odd (ends g) es ≡ false
round g [] h = refl
round g (e ∷ es) h =
    ap (xor (ends g e)) (along g (end_of e) es (start_of e) h)
    ∙ xor_through (g (start_of e)) (g (end_of e)) (g (start_of e))
    ∙ xor_same (g (start_of e))

pub rounds : (g : V2 → Bool) (contours : List (List Element)) → All IsContour contours → odd (ends g) (joined contours) ≡ false
rounds g [] h = refl
rounds g (c ∷ cs) h =
    odd-append (ends g) c (joined cs)
    ∙ ap (λ b. xor b (odd (ends g) (joined cs))) (round g c (All-head IsContour c cs h))
    ∙ rounds g cs (All-tail IsContour c cs h)

-- ---- sides

pub not_not : (x y : Bool) → not x ≡ not y → x ≡ y
not_not true true e = refl
not_not true false e = sym e
not_not false true e = sym e
not_not false false e = refl

right_is : (a b : V2) (p : P2) → (turn a b p ≡ pos 0 → ⊥) → is_left a b p ≡ not (is_right a b p)
right_is a b p n = (one_way (turn a b p) n).left_is

-- two points off a line that are Above it or not together are left of it or not together
pub left_same : (a b : V2) (p q : P2) → (turn a b p ≡ pos 0 → ⊥) → (turn a b q ≡ pos 0 → ⊥) → is_above (Line a b) p ≡ is_above (Line a b) q → is_left a b p ≡ is_left a b q
left_same a b p q m n s = by (leads_forth a b) (is_left a b p) (is_right a b p) (is_left a b q) (is_right a b q) (right_is a b p m) (right_is a b q n) s
  where
    by : (forth l r l' r' : Bool) → l ≡ not r → l' ≡ not r' → above_by forth l r ≡ above_by forth l' r' → l ≡ l'
    by true l r l' r' e f h = h
    by false l r l' r' e f h = e ∙ ap not h ∙ sym f

pub right_same : (a b : V2) (p q : P2) → (turn a b p ≡ pos 0 → ⊥) → (turn a b q ≡ pos 0 → ⊥) → is_above (Line a b) p ≡ is_above (Line a b) q → is_right a b p ≡ is_right a b q
right_same a b p q m n s = not_not (is_right a b p) (is_right a b q) (sym (right_is a b p m) ∙ left_same a b p q m n s ∙ right_is a b q n)

-- two numbers that are not 0 and pass the same test have one sign
one_sign : (x y : ℤ) → (x ≡ pos 0 → ⊥) → (y ≡ pos 0 → ⊥) → int_lt (pos 0) x ≡ int_lt (pos 0) y → int_lt x (pos 0) ≡ int_lt y (pos 0) → pos 0 <ℤ (x *ℤ y)
one_sign x y m n e f =
    by_order (pos 0) x
    (λ l. by_order (pos 0) y (λ k. one_side_above x y l k) (λ z. absurd (n (sym z))) (λ k. absurd (apart x y l k e)))
    (λ z. absurd (m (sym z)))
    (λ l. by_order (pos 0) y (λ k. absurd (apart y x k l (sym e))) (λ z. absurd (n (sym z))) (λ k. one_side_below x y l k))
  where
    apart : (u v : ℤ) → pos 0 <ℤ u → v <ℤ pos 0 → int_lt (pos 0) u ≡ int_lt (pos 0) v → ⊥
    apart u v h k e = grind (arith, ints)

line_side : (a b : V2) (p q : P2) → (turn a b p ≡ pos 0 → ⊥) → (turn a b q ≡ pos 0 → ⊥) → is_above (Line a b) p ≡ is_above (Line a b) q → IsOneSide a b p q
line_side a b p q m n s = one_sign (turn a b p) (turn a b q) m n (left_same a b p q m n s) (right_same a b p q m n s)

-- ---- the law

-- where its ends differ, the line of an element or of its chord has p and q on one side
chord_side : (e : Element) (p q : P2) → ForHalves (λ h. is_line h ≡ true → IsOn h p → ⊥) e → ForHalves (λ h. is_line h ≡ true → IsOn h q → ⊥) e → ForHalves (λ h. is_line h ≡ true → is_above h p ≡ is_above h q) e
    → (start_of e ≡ end_of e → ⊥) → IsOneSide (start_of e) (end_of e) p q
chord_side (Edge a b) p q f g s n = line_side a b p q (f refl) (g refl) (s refl)
chord_side (Arc a b c ccw) p q f g s n =
    elim (same_cases a b) [
      | inl k ↦ absurd (n k.0)
      | inr k ↦ line_side a b p q (f.0 k.1 refl) (g.0 k.1 refl) (s.0 k.1 refl)
    ]

each : (a b : V2) (p q : P2) → ((a ≡ b → ⊥) → IsOneSide a b p q) → xor (is_crossed a b p) (is_crossed a b q) ≡ xor (is_under p q a) (is_under p q b)
each a b p q h =
    elim (same_cases a b) [
      | inl k ↦
          ap (λ x. xor x (is_crossed a b q)) (ends_crossed a b p k.1)
          ∙ ends_crossed a b q k.1
          ∙ sym (xor_same (is_under p q a))
          ∙ ap (λ v. xor (is_under p q a) (is_under p q v)) k.0
      | inr n ↦ edge_lemma a b p q (h n.0)
    ]

pub straight_cell_law : (contours : List (List Element)) → All IsContour contours → StraightCellLaw (joined contours)
straight_cell_law contours closed p q f g s =
    let fs = for_halves (λ h. is_line h ≡ true → IsOn h p → ⊥) (joined contours) f in
    let gs = for_halves (λ h. is_line h ≡ true → IsOn h q → ⊥) (joined contours) g in
    let ss = for_halves (λ h. is_line h ≡ true → is_above h p ≡ is_above h q) (joined contours) s in
    let step : odd (λ e. xor (is_chord_crossed p e) (is_chord_crossed q e)) (joined contours) ≡ odd (ends (is_under p q)) (joined contours) =
    odd-same (λ e. xor (is_chord_crossed p e) (is_chord_crossed q e)) (ends (is_under p q)) (joined contours)
    (λ k d l.
    let e : Element = slice_index_or (joined contours) k d in
    each (start_of e) (end_of e) p q (chord_side e p q (fs k d l) (gs k d l) (ss k d l))) in
    straight_is (joined contours) p
    ∙ xor_zero (odd (is_chord_crossed p) (joined contours)) (odd (is_chord_crossed q) (joined contours))
    (sym (odd-xor (is_chord_crossed p) (is_chord_crossed q) (joined contours)) ∙ step ∙ rounds (is_under p q) contours closed)
    ∙ sym (straight_is (joined contours) q)
