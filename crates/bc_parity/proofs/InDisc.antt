-- The chord law at a point inside the disc: the column's lower point, by the order of the two ends and the point along x.
use Rattle.std.proofs.Common.{◌≡◌, Bool, false, not, ◌≢◌, arith, refl, sym}
use Rattle.std.proofs.lemmas.Int.{ints, by_lt_z}
use lib.IntN.{ℤ, pos, ◌*ℤ◌}
use lib.Signed.{◌<ℤ◌, ◌≤ℤ◌, lt_z, le_z}
use Rattle.bc_algebra.proofs.Order.{cancel_lt}
use Rattle.bc_num.specs.declared.v2.V2.{V2}
use Rattle.bc_num.specs.declared.p2.P2.{P2}
use Rattle.bc_parity.specs.Crossings.{Arc, Half, upper, lower, half_by, half_of, has_passed, is_before, square_radius}
use Rattle.bc_num.specs.Measures.{turn, square_distance}
use Rattle.bc_parity.specs.Sides.{is_left, is_right}
use Rattle.bc_parity.proofs.Orders.{le_yes, le_no, weak, by_order, Run, rising, falling, upright, Place, before, passed, Way, leftward, rightward, one_way}
use Rattle.bc_parity.proofs.Rows.{is_upper, Claim, at, s_e_p, e_s_p, p_s_e, p_e_s, s_p_e, e_p_s, under_p, over_p, p_under, p_over}
use Rattle.bc_parity.proofs.Turns.{Setting, right_after, left_after, left_ahead, right_ahead, turn_back, lower_end, upper_end, left_of_column, right_of_column}

-- ---- a turn whose way an end's half decides

right_way : (c y z : ℤ) → (c ≤ℤ y → z <ℤ pos 0) → (y <ℤ c → pos 0 <ℤ z) → Way z (not (is_upper (half_by (le_z c y)))) (is_upper (half_by (le_z c y)))
right_way c y z f g = by_lt_z y c (λ l. rw (le_no c y l) (leftward z (g l))) (λ l. rw (le_yes c y l) (rightward z (f l)))

left_way : (c y z : ℤ) → (c ≤ℤ y → pos 0 <ℤ z) → (y <ℤ c → z <ℤ pos 0) → Way z (is_upper (half_by (le_z c y))) (not (is_upper (half_by (le_z c y))))
left_way c y z f g = by_lt_z y c (λ l. rw (le_no c y l) (rightward z (g l))) (λ l. rw (le_yes c y l) (leftward z (f l)))

-- the turn from e to s tells the turn from s to e
left_since : (s e : V2) (p : P2) → turn e s p <ℤ pos 0 → pos 0 <ℤ turn s e p
left_since s e p h = let b = turn_back s e p in omega (arith, ints)

right_since : (s e : V2) (p : P2) → pos 0 <ℤ turn e s p → turn s e p <ℤ pos 0
right_since s e p h = let b = turn_back s e p in omega (arith, ints)

pub flipped : {arc : Arc} {s e : V2} → Setting arc s e → Setting arc e s
flipped g = record { at_s = g.at_e; at_e = g.at_s }

half_upper : (arc : Arc) (t : V2) → arc.centre.y ≤ℤ t.y → half_of arc t ≡ upper
half_upper arc t h = rw (le_yes arc.centre.y t.y h) refl

half_lower : (arc : Arc) (t : V2) → t.y <ℤ arc.centre.y → half_of arc t ≡ lower
half_lower arc t h = rw (le_no arc.centre.y t.y h) refl

below : (a b c : ℤ) → a <ℤ b → b ≤ℤ c → a <ℤ c
below a b c h k = omega (arith, ints)

-- the claim of `Rows` at the tests of an arc
abbrev pub ClaimAt : Arc → P2 → V2 → V2 → Type 0
ClaimAt arc p s e =
    Claim (half_of arc s) (half_of arc e) (lt_z e.x s.x) (lt_z s.x e.x) (is_before p s) (is_before p e) (has_passed s p) (has_passed e p) (is_left s e p) (is_right s e p)

row : (arc : Arc) (p : P2) (s e : V2) (hs he : Half) {f r ts te ps pe l g : Bool} → half_of arc s ≡ hs → half_of arc e ≡ he → Run s e f r → Place p s ts ps → Place p e te pe → Way (turn s e p) l g → Claim hs he f r ts te ps pe l g → ClaimAt arc p s e
row arc p s e hs he a b c d i w =
    at (half_of arc s) (half_of arc e) hs he a b c.falls_is c.rises_is d.before_is i.before_is d.passed_is i.passed_is w.left_is w.right_is

module _ (arc : Arc) (p : P2) (s e : V2) (g : Setting arc s e) (i : square_distance arc.centre p <ℤ square_radius arc p) (n : turn s e p ≢ pos 0) where
  -- the ends as they stand, in whatever halves
  free : {f r ts te ps pe l g : Bool} → Run s e f r → Place p s ts ps → Place p e te pe → Way (turn s e p) l g → Claim (half_of arc s) (half_of arc e) f r ts te ps pe l g → ClaimAt arc p s e
  free = row arc p s e (half_of arc s) (half_of arc e) refl refl

  back : turn e s p ≢ pos 0
  back h = let b = turn_back s e p in n (omega (arith, ints))

  -- both ends in one column: one is in the upper half and the other in the lower half
  column : {to past l g l' g' : Bool} → s.x ≡ e.x → Place p s to past → Place p e to past → (e.y <ℤ s.y → Way (turn s e p) l g) → (s.y <ℤ e.y → Way (turn s e p) l' g') → Claim upper lower false false to to past past l g → Claim lower upper false false to to past past l' g' → ClaimAt arc p s e
  column q a b f h under over =
      by_lt_z s.y arc.centre.y
      (λ u.
      let v = upper_end arc p s e g n q u in
      row arc p s e lower upper (half_lower arc s u) (half_upper arc e v) (upright s e q) a b (h (below _ _ _ u v)) over)
      (λ u.
      let v = lower_end arc p s e g n q u in
      row arc p s e upper lower (half_upper arc s u) (half_lower arc e v) (upright s e q) a b (f (below _ _ _ v u)) under)

  after_both : (s.x *ℤ p.w) ≤ℤ p.x → (e.x *ℤ p.w) ≤ℤ p.x → ClaimAt arc p s e
  after_both ps pe =
      by_order s.x e.x
      (λ l.
      free (rising s e l) (passed p s ps) (passed p e pe)
      (right_way arc.centre.y e.y (turn s e p) (right_after arc p s e g i l pe) (left_after arc p s e g i l pe))
      (s_e_p (half_of arc s) (half_of arc e)))
      (λ q.
      column q (passed p s ps) (passed p e pe)
      (λ l. leftward (turn s e p) (left_of_column s e p n q l ps))
      (λ l. rightward (turn s e p) (right_since s e p (left_of_column e s p back (sym q) l pe)))
      under_p over_p)
      (λ l.
      free (falling s e l) (passed p s ps) (passed p e pe)
      (left_way arc.centre.y s.y (turn s e p) (λ u. left_since s e p (right_after arc p e s (flipped g) i l ps u)) (λ u. right_since s e p (left_after arc p e s (flipped g) i l ps u)))
      (e_s_p (half_of arc s) (half_of arc e)))

  before_both : p.x <ℤ (s.x *ℤ p.w) → p.x <ℤ (e.x *ℤ p.w) → ClaimAt arc p s e
  before_both ps pe =
      by_order s.x e.x
      (λ l.
      free (rising s e l) (before p s ps) (before p e pe)
      (right_way arc.centre.y s.y (turn s e p) (λ u. right_since s e p (left_ahead arc p e s (flipped g) i l ps u)) (λ u. left_since s e p (right_ahead arc p e s (flipped g) i l ps u)))
      (p_s_e (half_of arc s) (half_of arc e)))
      (λ q.
      column q (before p s ps) (before p e pe)
      (λ l. rightward (turn s e p) (right_of_column s e p q l ps))
      (λ l. leftward (turn s e p) (left_since s e p (right_of_column e s p (sym q) l pe)))
      p_under p_over)
      (λ l.
      free (falling s e l) (before p s ps) (before p e pe)
      (left_way arc.centre.y e.y (turn s e p) (left_ahead arc p s e g i l pe) (right_ahead arc p s e g i l pe))
      (p_e_s (half_of arc s) (half_of arc e)))

  between : (s.x *ℤ p.w) ≤ℤ p.x → p.x <ℤ (e.x *ℤ p.w) → ClaimAt arc p s e
  between ps pe =
      let l : s.x <ℤ e.x = cancel_lt s.x e.x p.w (weak _ _ p.positive) (omega (arith, ints)) in
      free (rising s e l) (passed p s ps) (before p e pe) (one_way (turn s e p) n) (s_p_e (half_of arc s) (half_of arc e) (is_right s e p))

  between_back : p.x <ℤ (s.x *ℤ p.w) → (e.x *ℤ p.w) ≤ℤ p.x → ClaimAt arc p s e
  between_back ps pe =
      let l : e.x <ℤ s.x = cancel_lt e.x s.x p.w (weak _ _ p.positive) (omega (arith, ints)) in
      free (falling s e l) (before p s ps) (passed p e pe) (one_way (turn s e p) n) (e_p_s (half_of arc s) (half_of arc e) (is_right s e p))

  pub claim_inside : ClaimAt arc p s e
  claim_inside =
      by_lt_z p.x (s.x *ℤ p.w)
      (λ ps. by_lt_z p.x (e.x *ℤ p.w) (before_both ps) (between_back ps))
      (λ ps. by_lt_z p.x (e.x *ℤ p.w) (between ps) (after_both ps))
