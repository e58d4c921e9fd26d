-- Crossed segments: in another form, with the ends exchanged, and with equal ends.
use Rattle.std.proofs.Common.{◌≡◌, Bool, true, false, ◌&&◌, ◌⊎◌, inl, inr, [], ◌∷◌, arith, refl, sym, ◌∙◌, ap}
use Rattle.std.proofs.lemmas.Int.{ints, by_lt_z}
use Rattle.std.proofs.lemmas.Bool.{false_from_ne_true, and_parts, and_from, cases_Bool}
use Rattle.std.specs.Prelude.{int_lt, int_le}
use Rattle.std.specs.Ordering.{int_eq}
use lib.IntN.{ℤ, pos, ◌-ℤ◌, ◌*ℤ◌}
use lib.Signed.{◌<ℤ◌}
use Rattle.bc_algebra.proofs.Ring.{ring, quotes}
use Rattle.bc_algebra.proofs.Order.{mul_le, pos-mul, nonneg_of-pos}
use Rattle.bc_num.specs.declared.v2.V2.{V2}
use Rattle.bc_num.specs.declared.p2.P2.{P2}
use Rattle.bc_num.specs.Measures.{turn, is_same}
use Rattle.bc_solid.specs.HalfSpaces.{above_by}
use Rattle.bc_parity.specs.Parity.{xor}
use Rattle.bc_parity.specs.Crossings.{has_passed, is_above_line, is_crossed}
use Rattle.bc_parity.specs.Sides.{is_left, is_right}
use Rattle.bc_parity.proofs.Orders.{by_order, lt_yes, lt_no, eq_yes, eq_is}
use Rattle.bc_parity.proofs.Signs.{one_side_below}
use Rattle.bc_parity.proofs.Xors.{xor_same, xor_comm}

-- `is_crossed` by the sides of the directed line
abbrev pub crosses_segment : V2 → V2 → P2 → Bool
crosses_segment a b p = xor (has_passed a p) (has_passed b p) && above_by (int_lt a.x b.x) (is_left a b p) (is_right a b p)

-- the sign of a product with something above 0, or below 0
pub scaled_up : (d t : ℤ) → pos 0 <ℤ d → int_lt (pos 0) t ≡ int_lt (pos 0) (d *ℤ t)
scaled_up d t h =
    by_lt_z (pos 0) t
    (λ l. lt_yes (pos 0) t l ∙ sym (lt_yes (pos 0) (d *ℤ t) (pos-mul d t h l)))
    (λ l. let m = mul_le t (pos 0) d (nonneg_of-pos d h) l in lt_no (pos 0) t l ∙ sym (lt_no (pos 0) (d *ℤ t) (omega (arith, ints))))

pub scaled_down : (d t : ℤ) → d <ℤ pos 0 → int_lt t (pos 0) ≡ int_lt (pos 0) (d *ℤ t)
scaled_down d t h =
    by_lt_z t (pos 0)
    (λ l. lt_yes t (pos 0) l ∙ sym (lt_yes (pos 0) (d *ℤ t) (one_side_below d t h l)))
    (λ l. let m = mul_le d (pos 0) t l (omega (arith, ints)) in lt_no t (pos 0) l ∙ sym (lt_no (pos 0) (d *ℤ t) (omega (arith, ints))))

by_left : (x y r l g u : Bool) → r ≡ true → l ≡ u → (xor x y && above_by r l g) ≡ (xor x y && u)
by_left x y r l g u h k = ap (λ b. xor x y && above_by b l g) h ∙ ap (λ b. xor x y && b) k

by_right : (x y r l g u : Bool) → r ≡ false → g ≡ u → (xor x y && above_by r l g) ≡ (xor x y && u)
by_right x y r l g u h k = ap (λ b. xor x y && above_by b l g) h ∙ ap (λ b. xor x y && b) k

by_none : (x y m u : Bool) → x ≡ y → (xor x y && m) ≡ (xor x y && u)
by_none x y m u h = ap (λ b. xor b y && m) h ∙ flat y ∙ ap (λ b. xor b y && u) (sym h)
  where
    flat : (b : Bool) → (xor b b && m) ≡ (xor b b && u)
    flat true = refl
    flat false = refl

pub bridge : (a b : V2) (p : P2) → crosses_segment a b p ≡ is_crossed a b p
bridge a b p =
    by_order a.x b.x
    (λ l.
    by_left (has_passed a p) (has_passed b p) (int_lt a.x b.x) (is_left a b p) (is_right a b p) (is_above_line a b p)
    (lt_yes a.x b.x l) (scaled_up (b.x -ℤ a.x) (turn a b p) (omega (arith, ints))))
    (λ e. by_none (has_passed a p) (has_passed b p) (above_by (int_lt a.x b.x) (is_left a b p) (is_right a b p)) (is_above_line a b p) (ap (λ x. int_le (x *ℤ p.w) p.x) e))
    (λ l.
    by_right (has_passed a p) (has_passed b p) (int_lt a.x b.x) (is_left a b p) (is_right a b p) (is_above_line a b p)
    (lt_no a.x b.x (omega (arith, ints))) (scaled_down (b.x -ℤ a.x) (turn a b p) (omega (arith, ints))))

turned : (a b : V2) (p : P2) → (b.x -ℤ a.x) *ℤ turn a b p ≡ (a.x -ℤ b.x) *ℤ turn b a p
turned a b p = ring (a.x ∷ a.y ∷ b.x ∷ b.y ∷ p.x ∷ p.y ∷ p.w ∷ []) (search quotes depth 30) refl

pub back : (a b : V2) (p : P2) → is_crossed a b p ≡ is_crossed b a p
back a b p =
    ap (λ c. c && is_above_line a b p) (xor_comm (has_passed a p) (has_passed b p))
    ∙ ap (λ z. xor (has_passed b p) (has_passed a p) && int_lt (pos 0) z) (turned a b p)

-- a segment with equal ends
pub at_point : (a : V2) (p : P2) → is_crossed a a p ≡ false
at_point a p = ap (λ b. b && is_above_line a a p) (xor_same (has_passed a p))

-- ---- two places are the same or not

pub same_yes : (s e : V2) → s ≡ e → is_same s e ≡ true
same_yes s e h = and_from (int_eq s.x e.x) (int_eq s.y e.y) (eq_yes s.x e.x (ap (λ (t : V2). t.x) h)) (eq_yes s.y e.y (ap (λ (t : V2). t.y) h))

pub same_is : (s e : V2) → is_same s e ≡ true → s ≡ e
same_is s e h =
    let r = and_parts (int_eq s.x e.x) (int_eq s.y e.y) h in
    whole s e (eq_is s.x e.x r.0) (eq_is s.y e.y r.1)
  where
    whole : (u v : V2) → u.x ≡ v.x → u.y ≡ v.y → u ≡ v
    whole u v i j = λ k. record { x = i k; y = j k }

pub same_no : (s e : V2) → (s ≡ e → ⊥) → is_same s e ≡ false
same_no s e n = false_from_ne_true (is_same s e) (λ q. n (same_is s e q))

pub same_cases : (s e : V2) → ((s ≡ e) × (is_same s e ≡ true)) ⊎ ((s ≡ e → ⊥) × (is_same s e ≡ false))
same_cases s e =
    elim (cases_Bool (is_same s e)) [
      | inl h ↦ inl (same_is s e h, h)
      | inr h ↦ inr (λ k. absurd (let q : true ≡ false = sym (same_yes s e k) ∙ h in cc), h)
    ]
