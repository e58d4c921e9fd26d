-- The chord law at a point outside the disc: what the column crosses lies above p or below p, the arc like the chord.
use Rattle.std.proofs.Common.{◌≡◌, Bool, true, false, ◌&&◌, ◌||◌, ◌⊎◌, inl, inr, arith, refl, sym, ◌∙◌}
use Rattle.std.proofs.lemmas.Int.{ints, by_lt_z}
use Rattle.std.specs.Ordering.{int_eq}
use lib.IntN.{pos, ◌*ℤ◌}
use lib.Signed.{◌<ℤ◌, ◌≤ℤ◌, lt_z}
use Rattle.bc_algebra.proofs.Order.{cancel_lt}
use Rattle.bc_num.specs.declared.v2.V2.{V2}
use Rattle.bc_num.specs.declared.p2.P2.{P2}
use Rattle.bc_parity.specs.Parity.{xor}
use Rattle.bc_parity.specs.Crossings.{Arc, Half, half_of, comes_first, has_passed, is_before, square_radius, is_past_disc, meets_circle, is_above_upper}
use Rattle.bc_num.specs.Measures.{across, turn, square_distance}
use Rattle.bc_parity.specs.Sides.{is_left, is_right}
use Rattle.bc_solid.specs.HalfSpaces.{above_by}
use Rattle.bc_parity.proofs.Orders.{lt_yes, lt_no, eq_yes, weak, Run, rising, falling, Place, before, passed}
use Rattle.bc_parity.proofs.Rows.{meetings, evenly, once_rising, once_falling}
use Rattle.bc_parity.proofs.Turns.{Setting, left_over, right_under, meets_between, turn_back}
use Rattle.bc_parity.proofs.InDisc.{flipped}

or_yes : (x y z : Bool) → y ≡ true → z ≡ true → (x || (y && z)) ≡ true
or_yes true y z h k = refl
or_yes false y z h k = rw (h, k) refl

either : (x y z : Bool) → x ≡ true → (x || (y && z)) ≡ true
either x y z h = rw h refl

pub meets_is : (arc : Arc) (p : P2) → ((across arc.centre p *ℤ across arc.centre p) <ℤ square_radius arc p) ⊎ ((across arc.centre p *ℤ across arc.centre p ≡ square_radius arc p) × (p.x <ℤ (arc.centre.x *ℤ p.w))) → meets_circle arc p ≡ true
meets_is arc p (inl h) = either _ (int_eq (across arc.centre p *ℤ across arc.centre p) (square_radius arc p)) (is_before p arc.centre) (lt_yes (across arc.centre p *ℤ across arc.centre p) (square_radius arc p) h)
meets_is arc p (inr h) = or_yes (lt_z (across arc.centre p *ℤ across arc.centre p) (square_radius arc p)) _ _ (eq_yes (across arc.centre p *ℤ across arc.centre p) (square_radius arc p) h.0) (lt_yes p.x (arc.centre.x *ℤ p.w) h.1)

both_yes : (m o b : Bool) → m ≡ true → o ≡ true → (m && (o && b)) ≡ b
both_yes m o b h k = rw (h, k) refl

-- s is passed and e is not
module _ (arc : Arc) (p : P2) (s e : V2) (g : Setting arc s e) (o : square_radius arc p <ℤ square_distance arc.centre p) (ps : (s.x *ℤ p.w) ≤ℤ p.x) (pe : p.x <ℤ (e.x *ℤ p.w)) where
  high_is : lt_z (arc.centre.y *ℤ p.w) p.y ≡ lt_z (pos 0) (turn s e p)
  high_is =
      by_lt_z (arc.centre.y *ℤ p.w) p.y
      (λ l. lt_yes _ _ l ∙ sym (lt_yes _ _ (left_over arc p s e g o ps pe l)))
      (λ l. lt_no _ _ l ∙ sym (lt_no _ _ (weak _ _ (right_under arc p s e g o ps pe l))))

  above_is : (meets_circle arc p && is_above_upper arc p) ≡ lt_z (pos 0) (turn s e p)
  above_is =
      both_yes (meets_circle arc p) (is_past_disc arc p) (lt_z (arc.centre.y *ℤ p.w) p.y) (meets_is arc p (meets_between arc p s e g ps pe)) (lt_yes (square_radius arc p) (square_distance arc.centre p) o)
      ∙ high_is

  rises : s.x <ℤ e.x
  rises = cancel_lt s.x e.x p.w (weak _ _ p.positive) (omega (arith, ints))

pub left_back : (s e : V2) (p : P2) → lt_z (pos 0) (turn e s p) ≡ lt_z (turn s e p) (pos 0)
left_back s e p =
    let b = turn_back s e p in
    by_lt_z (turn s e p) (pos 0)
    (λ l. lt_yes (pos 0) (turn e s p) (omega (arith, ints)) ∙ sym (lt_yes (turn s e p) (pos 0) l))
    (λ l. lt_no (pos 0) (turn e s p) (omega (arith, ints)) ∙ sym (lt_no (turn s e p) (pos 0) l))

-- ---- the four cases, over tests

abbrev Same : Half → Half → Bool → Bool → Bool → Bool → Bool → Bool → Bool → Bool → Bool → Type 0
Same hs he falls rises to_s to_e past_s past_e left right above =
    (above && meetings hs he (comes_first hs he falls rises) to_s to_e) ≡ (xor past_s past_e && above_by rises left right)

even_same : (hs he : Half) (f r to past l g a : Bool) → Same hs he f r to to past past l g a
even_same hs he f r to past l g a = rw (evenly hs he (comes_first hs he f r) to) (apart a past (above_by r l g))
  where
    apart : (a past b : Bool) → (a && false) ≡ (xor past past && b)
    apart true true b = refl
    apart true false b = refl
    apart false true b = refl
    apart false false b = refl

rising_same : (hs he : Half) (l g a : Bool) → a ≡ l → Same hs he false true false true true false l g a
rising_same hs he l g a h = rw (once_rising hs he, h) (whole l)
  where
    whole : (l : Bool) → (l && true) ≡ l
    whole true = refl
    whole false = refl

falling_same : (hs he : Half) (l g a : Bool) → a ≡ g → Same hs he true false true false false true l g a
falling_same hs he l g a h = rw (once_falling hs he, h) (whole g)
  where
    whole : (l : Bool) → (l && true) ≡ l
    whole true = refl
    whole false = refl

move : (hs he : Half) (f r ts te ps pe l g a : Bool) {f' r' ts' te' ps' pe' : Bool} → f ≡ f' → r ≡ r' → ts ≡ ts' → te ≡ te' → ps ≡ ps' → pe ≡ pe' → Same hs he f' r' ts' te' ps' pe' l g a → Same hs he f r ts te ps pe l g a
move hs he f r ts te ps pe l g a b c d e i j row = rw (b, c, d, e, i, j) row

module _ (arc : Arc) (p : P2) (s e : V2) where
  abbrev pub SameAt : Type 0
  SameAt = Same (half_of arc s) (half_of arc e) (lt_z e.x s.x) (lt_z s.x e.x) (is_before p s) (is_before p e) (has_passed s p) (has_passed e p) (is_left s e p) (is_right s e p) (meets_circle arc p && is_above_upper arc p)

  row : {f r ts te ps pe : Bool} → Run s e f r → Place p s ts ps → Place p e te pe → Same (half_of arc s) (half_of arc e) f r ts te ps pe (is_left s e p) (is_right s e p) (meets_circle arc p && is_above_upper arc p) → SameAt
  row a b c =
      move (half_of arc s) (half_of arc e) (lt_z e.x s.x) (lt_z s.x e.x) (is_before p s) (is_before p e) (has_passed s p) (has_passed e p) (is_left s e p) (is_right s e p) (meets_circle arc p && is_above_upper arc p)
      a.falls_is a.rises_is b.before_is c.before_is b.passed_is c.passed_is

  -- whichever way x runs
  any_run : Run s e (lt_z e.x s.x) (lt_z s.x e.x)
  any_run = record { falls_is = refl; rises_is = refl }

  even : (to past : Bool) → Place p s to past → Place p e to past → SameAt
  even to past a b =
      row any_run a b
      (even_same (half_of arc s) (half_of arc e) (lt_z e.x s.x) (lt_z s.x e.x) to past (is_left s e p) (is_right s e p) (meets_circle arc p && is_above_upper arc p))

module _ (arc : Arc) (p : P2) (s e : V2) (g : Setting arc s e) (o : square_radius arc p <ℤ square_distance arc.centre p) where
  pub same_outside : SameAt arc p s e
  same_outside =
      by_lt_z p.x (s.x *ℤ p.w)
      (λ ps.
      by_lt_z p.x (e.x *ℤ p.w)
      (λ pe. even arc p s e true false (before p s ps) (before p e pe))
      (λ pe.
      row arc p s e (falling s e (rises arc p e s (flipped g) o pe ps)) (before p s ps) (passed p e pe)
      (falling_same (half_of arc s) (half_of arc e) (is_left s e p) (is_right s e p) (meets_circle arc p && is_above_upper arc p) (above_is arc p e s (flipped g) o pe ps ∙ left_back s e p))))
      (λ ps.
      by_lt_z p.x (e.x *ℤ p.w)
      (λ pe.
      row arc p s e (rising s e (rises arc p s e g o ps pe)) (passed p s ps) (before p e pe)
      (rising_same (half_of arc s) (half_of arc e) (is_left s e p) (is_right s e p) (meets_circle arc p && is_above_upper arc p) (above_is arc p s e g o ps pe)))
      (λ pe. even arc p s e false true (passed p s ps) (passed p e pe)))
