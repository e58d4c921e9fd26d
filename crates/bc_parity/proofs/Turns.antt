-- The facts of `Circles`, for a point and two ends of an arc round any centre.
use Rattle.std.proofs.Common.{◌≡◌, [], ◌∷◌, refl, arith, ◌⊎◌, inl, inr, ◌∙◌, ◌≢◌}
use Rattle.std.proofs.lemmas.Int.{ints, by_lt_z}
use lib.IntN.{ℤ, pos, ◌+ℤ◌, ◌-ℤ◌, ◌*ℤ◌, neg_ℤ, zero-*ℤ}
use lib.Signed.{◌<ℤ◌, ◌≤ℤ◌}
use Rattle.bc_algebra.proofs.Ring.{quotes, ring, by_one, by_three}
use Rattle.bc_algebra.proofs.Order.{le_by, lt_by, mul_lt, pos_of-mul, neg_of-mul, zero_factor, nonneg-mul, nonneg-square}
use Rattle.bc_num.specs.declared.v2.V2.{V2}
use Rattle.bc_num.specs.declared.p2.P2.{P2}
use Rattle.bc_num.specs.Measures.{across, up, turn, square_distance, square_between}
use Rattle.bc_parity.specs.Crossings.{Arc, square_radius}
use Rattle.bc_parity.proofs.Circles.{cross, right_if_upper, left_if_lower, left_if_upper, right_if_lower, left_if_high, right_if_low, between_meets}

-- ---- from the centre, times p.w
abbrev far : ℤ → ℤ → ℤ → ℤ
far t c w = (t -ℤ c) *ℤ w

square_far : (arc : Arc) (t : V2) (p : P2) → far t.x arc.centre.x p.w *ℤ far t.x arc.centre.x p.w +ℤ far t.y arc.centre.y p.w *ℤ far t.y arc.centre.y p.w ≡ square_between arc.centre t *ℤ (p.w *ℤ p.w)
square_far arc t p = ring (t.x ∷ t.y ∷ arc.centre.x ∷ arc.centre.y ∷ p.w ∷ []) (search quotes depth 30) refl

turn_far : (arc : Arc) (s e : V2) (p : P2) → cross (far s.x arc.centre.x p.w) (far s.y arc.centre.y p.w) (far e.x arc.centre.x p.w) (far e.y arc.centre.y p.w) (across arc.centre p) (up arc.centre p) ≡ turn s e p *ℤ p.w
turn_far arc s e p = ring (s.x ∷ s.y ∷ e.x ∷ e.y ∷ arc.centre.x ∷ arc.centre.y ∷ p.x ∷ p.y ∷ p.w ∷ []) (search quotes depth 30) refl

far_lt : (s e c w : ℤ) → pos 0 <ℤ w → s <ℤ e → far s c w <ℤ far e c w
far_lt s e c w h k = mul_lt (s -ℤ c) (e -ℤ c) w h (omega (arith, ints))

far_passed : (t c w x : ℤ) → (t *ℤ w) ≤ℤ x → far t c w ≤ℤ (x -ℤ c *ℤ w)
far_passed t c w x h = le_by (x -ℤ t *ℤ w) (ring (t ∷ c ∷ w ∷ x ∷ []) (search quotes depth 30) refl) (omega (arith, ints))

far_before : (t c w x : ℤ) → x <ℤ (t *ℤ w) → (x -ℤ c *ℤ w) <ℤ far t c w
far_before t c w x h = lt_by (t *ℤ w -ℤ x) (ring (t ∷ c ∷ w ∷ x ∷ []) (search quotes depth 30) refl) (omega (arith, ints))

far_upper : (t c w : ℤ) → pos 0 <ℤ w → c ≤ℤ t → pos 0 ≤ℤ far t c w
far_upper t c w h k = nonneg-mul (t -ℤ c) w (omega (arith, ints)) (omega (arith, ints))

far_lower : (t c w : ℤ) → pos 0 <ℤ w → t <ℤ c → far t c w <ℤ pos 0
far_lower t c w h k = let m = mul_lt (t -ℤ c) (pos 0) w h (omega (arith, ints)) in omega (arith, ints)

-- two ends that are equally far from the centre
pub record Setting (arc : Arc) (s e : V2) : Type 0 where
  pub at_s : square_between arc.centre s ≡ square_between arc.centre arc.start
  pub at_e : square_between arc.centre e ≡ square_between arc.centre arc.start

even_far : (arc : Arc) (p : P2) (s e : V2) → Setting arc s e → far e.x arc.centre.x p.w *ℤ far e.x arc.centre.x p.w +ℤ far e.y arc.centre.y p.w *ℤ far e.y arc.centre.y p.w ≡ far s.x arc.centre.x p.w *ℤ far s.x arc.centre.x p.w +ℤ far s.y arc.centre.y p.w *ℤ far s.y arc.centre.y p.w
even_far arc p s e g = rw (square_far arc e p, square_far arc s p, g.at_s, g.at_e) refl

inside_far : (arc : Arc) (p : P2) (s e : V2) → Setting arc s e → square_distance arc.centre p <ℤ square_radius arc p → square_distance arc.centre p <ℤ (far s.x arc.centre.x p.w *ℤ far s.x arc.centre.x p.w +ℤ far s.y arc.centre.y p.w *ℤ far s.y arc.centre.y p.w)
inside_far arc p s e g h = rw (square_far arc s p, g.at_s) h

outside_far : (arc : Arc) (p : P2) (s e : V2) → Setting arc s e → square_radius arc p <ℤ square_distance arc.centre p → (far s.x arc.centre.x p.w *ℤ far s.x arc.centre.x p.w +ℤ far s.y arc.centre.y p.w *ℤ far s.y arc.centre.y p.w) <ℤ square_distance arc.centre p
outside_far arc p s e g h = rw (square_far arc s p, g.at_s) h

-- ---- inside: s, then e, then p; or p, then e, then s

pub right_after : (arc : Arc) (p : P2) (s e : V2) → Setting arc s e → square_distance arc.centre p <ℤ square_radius arc p → s.x <ℤ e.x → (e.x *ℤ p.w) ≤ℤ p.x → arc.centre.y ≤ℤ e.y → turn s e p <ℤ pos 0
right_after arc p s e g i l m u =
    neg_of-mul (turn s e p) p.w p.positive
    (rw (← turn_far arc s e p)
    (right_if_upper _ _ _ _ _ _ (even_far arc p s e g) (inside_far arc p s e g i) (far_lt s.x e.x arc.centre.x p.w p.positive l) (far_passed e.x arc.centre.x p.w p.x m) (far_upper e.y arc.centre.y p.w p.positive u)))

pub left_after : (arc : Arc) (p : P2) (s e : V2) → Setting arc s e → square_distance arc.centre p <ℤ square_radius arc p → s.x <ℤ e.x → (e.x *ℤ p.w) ≤ℤ p.x → e.y <ℤ arc.centre.y → pos 0 <ℤ turn s e p
left_after arc p s e g i l m u =
    pos_of-mul (turn s e p) p.w p.positive
    (rw (← turn_far arc s e p)
    (left_if_lower _ _ _ _ _ _ (even_far arc p s e g) (inside_far arc p s e g i) (far_lt s.x e.x arc.centre.x p.w p.positive l) (far_passed e.x arc.centre.x p.w p.x m) (far_lower e.y arc.centre.y p.w p.positive u)))

pub left_ahead : (arc : Arc) (p : P2) (s e : V2) → Setting arc s e → square_distance arc.centre p <ℤ square_radius arc p → e.x <ℤ s.x → p.x <ℤ (e.x *ℤ p.w) → arc.centre.y ≤ℤ e.y → pos 0 <ℤ turn s e p
left_ahead arc p s e g i l m u =
    pos_of-mul (turn s e p) p.w p.positive
    (rw (← turn_far arc s e p)
    (left_if_upper _ _ _ _ _ _ (even_far arc p s e g) (inside_far arc p s e g i) (far_lt e.x s.x arc.centre.x p.w p.positive l) (far_before e.x arc.centre.x p.w p.x m) (far_upper e.y arc.centre.y p.w p.positive u)))

pub right_ahead : (arc : Arc) (p : P2) (s e : V2) → Setting arc s e → square_distance arc.centre p <ℤ square_radius arc p → e.x <ℤ s.x → p.x <ℤ (e.x *ℤ p.w) → e.y <ℤ arc.centre.y → turn s e p <ℤ pos 0
right_ahead arc p s e g i l m u =
    neg_of-mul (turn s e p) p.w p.positive
    (rw (← turn_far arc s e p)
    (right_if_lower _ _ _ _ _ _ (even_far arc p s e g) (inside_far arc p s e g i) (far_lt e.x s.x arc.centre.x p.w p.positive l) (far_before e.x arc.centre.x p.w p.x m) (far_lower e.y arc.centre.y p.w p.positive u)))

-- the turn the other way round
pub turn_back : (s e : V2) (p : P2) → turn e s p ≡ neg_ℤ (turn s e p)
turn_back s e p = ring (s.x ∷ s.y ∷ e.x ∷ e.y ∷ p.x ∷ p.y ∷ p.w ∷ []) (search quotes depth 30) refl

-- ---- outside: p between the columns of s and e

pub left_over : (arc : Arc) (p : P2) (s e : V2) → Setting arc s e → square_radius arc p <ℤ square_distance arc.centre p → (s.x *ℤ p.w) ≤ℤ p.x → p.x <ℤ (e.x *ℤ p.w) → (arc.centre.y *ℤ p.w) <ℤ p.y → pos 0 <ℤ turn s e p
left_over arc p s e g o l m u =
    pos_of-mul (turn s e p) p.w p.positive
    (rw (← turn_far arc s e p)
    (left_if_high _ _ _ _ _ _ (even_far arc p s e g) (outside_far arc p s e g o) (far_passed s.x arc.centre.x p.w p.x l) (far_before e.x arc.centre.x p.w p.x m) (omega (arith, ints))))

pub right_under : (arc : Arc) (p : P2) (s e : V2) → Setting arc s e → square_radius arc p <ℤ square_distance arc.centre p → (s.x *ℤ p.w) ≤ℤ p.x → p.x <ℤ (e.x *ℤ p.w) → p.y ≤ℤ (arc.centre.y *ℤ p.w) → turn s e p <ℤ pos 0
right_under arc p s e g o l m u =
    neg_of-mul (turn s e p) p.w p.positive
    (rw (← turn_far arc s e p)
    (right_if_low _ _ _ _ _ _ (even_far arc p s e g) (outside_far arc p s e g o) (far_passed s.x arc.centre.x p.w p.x l) (far_before e.x arc.centre.x p.w p.x m) (omega (arith, ints))))

first_square : (a b : ℤ) → (a *ℤ a) ≤ℤ (a *ℤ a +ℤ b *ℤ b)
first_square a b = let n = nonneg-square b in omega (arith, ints)

within : (arc : Arc) (p : P2) (t : V2) → square_between arc.centre t ≡ square_between arc.centre arc.start → (far t.x arc.centre.x p.w *ℤ far t.x arc.centre.x p.w) ≤ℤ square_radius arc p
within arc p t h = rw (← h, ← square_far arc t p) (first_square (far t.x arc.centre.x p.w) (far t.y arc.centre.y p.w))

pub meets_between : (arc : Arc) (p : P2) (s e : V2) → Setting arc s e → (s.x *ℤ p.w) ≤ℤ p.x → p.x <ℤ (e.x *ℤ p.w) → ((across arc.centre p *ℤ across arc.centre p) <ℤ square_radius arc p) ⊎ ((across arc.centre p *ℤ across arc.centre p ≡ square_radius arc p) × (p.x <ℤ (arc.centre.x *ℤ p.w)))
meets_between arc p s e g l m =
    elim (between_meets _ _ _ _ (within arc p s g.at_s) (within arc p e g.at_e) (far_passed s.x arc.centre.x p.w p.x l) (far_before e.x arc.centre.x p.w p.x m)) [
      | inl h ↦ inl h
      | inr h ↦ let k = h.1 in inr (h.0, omega (arith, ints))
    ]

pub meets_inside : (arc : Arc) (p : P2) → square_distance arc.centre p <ℤ square_radius arc p → (across arc.centre p *ℤ across arc.centre p) <ℤ square_radius arc p
meets_inside arc p h = let k = first_square (across arc.centre p) (up arc.centre p) in omega (arith, ints)

-- ---- two ends in one column

pub turn_column : (s e : V2) (p : P2) → s.x ≡ e.x → turn s e p ≡ (s.y -ℤ e.y) *ℤ (p.x -ℤ s.x *ℤ p.w)
turn_column s e p h = by_one (s.y *ℤ p.w -ℤ p.y) h (ring (s.x ∷ s.y ∷ e.x ∷ e.y ∷ p.x ∷ p.y ∷ p.w ∷ []) (search quotes depth 30) refl)

same_column : (arc : Arc) (p : P2) (s e : V2) → Setting arc s e → s.x ≡ e.x → (s.y -ℤ e.y) *ℤ (s.y +ℤ e.y -ℤ pos 2 *ℤ arc.centre.y) ≡ pos 0
same_column arc p s e g h =
    by_three (pos 1) (neg_ℤ (pos 1)) (neg_ℤ (s.x +ℤ e.x -ℤ pos 2 *ℤ arc.centre.x)) g.at_s g.at_e h
    (ring (s.x ∷ s.y ∷ e.x ∷ e.y ∷ arc.centre.x ∷ arc.centre.y ∷ arc.start.x ∷ arc.start.y ∷ []) (search quotes depth 30) refl)

flat_zero : (a b : ℤ) → a ≡ pos 0 → a *ℤ b ≡ pos 0
flat_zero a b h = rw h (zero-*ℤ b)

mirrored : (arc : Arc) (p : P2) (s e : V2) → Setting arc s e → turn s e p ≢ pos 0 → s.x ≡ e.x → s.y +ℤ e.y -ℤ pos 2 *ℤ arc.centre.y ≡ pos 0
mirrored arc p s e g n h =
    elim (zero_factor _ _ (same_column arc p s e g h)) [
      | inl z ↦ absurd (n (turn_column s e p h ∙ flat_zero _ (p.x -ℤ s.x *ℤ p.w) z))
      | inr z ↦ z
    ]

pub apart : (s e : V2) (p : P2) → turn s e p ≢ pos 0 → s.x ≡ e.x → s.y ≡ e.y → ⊥
apart s e p n h k = n (turn_column s e p h ∙ flat_zero (s.y -ℤ e.y) (p.x -ℤ s.x *ℤ p.w) (omega (arith, ints)))

pub lower_end : (arc : Arc) (p : P2) (s e : V2) → Setting arc s e → turn s e p ≢ pos 0 → s.x ≡ e.x → arc.centre.y ≤ℤ s.y → e.y <ℤ arc.centre.y
lower_end arc p s e g n h u =
    let m = mirrored arc p s e g n h in
    by_lt_z e.y arc.centre.y (λ l. l) (λ l. absurd (apart s e p n h (omega (arith, ints))))

pub upper_end : (arc : Arc) (p : P2) (s e : V2) → Setting arc s e → turn s e p ≢ pos 0 → s.x ≡ e.x → s.y <ℤ arc.centre.y → arc.centre.y ≤ℤ e.y
upper_end arc p s e g n h u =
    let m = mirrored arc p s e g n h in
    omega (arith, ints)

-- the sign of a product that is not 0
by_signs : (z : ℤ) → pos 0 ≤ℤ z → z ≢ pos 0 → pos 0 <ℤ z
by_signs z h n = by_lt_z (pos 0) z (λ l. l) (λ l. absurd (n (omega (arith, ints))))

pub left_of_column : (s e : V2) (p : P2) → turn s e p ≢ pos 0 → s.x ≡ e.x → e.y <ℤ s.y → (s.x *ℤ p.w) ≤ℤ p.x → pos 0 <ℤ turn s e p
left_of_column s e p n h l m =
    by_signs (turn s e p) (rw (turn_column s e p h) (nonneg-mul (s.y -ℤ e.y) (p.x -ℤ s.x *ℤ p.w) (omega (arith, ints)) (omega (arith, ints)))) n

pub right_of_column : (s e : V2) (p : P2) → s.x ≡ e.x → e.y <ℤ s.y → p.x <ℤ (s.x *ℤ p.w) → turn s e p <ℤ pos 0
right_of_column s e p h l m =
    let k = mul_lt (p.x -ℤ s.x *ℤ p.w) (pos 0) (s.y -ℤ e.y) (omega (arith, ints)) (omega (arith, ints)) in
    rw (turn_column s e p h) (omega (arith, ints))
