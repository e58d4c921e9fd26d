-- Outside the box of the input nothing is odd: contours strictly on one side of a line through p count evenly at p, and p
-- is outside every disc.
use Rattle.std.proofs.Common.{◌≡◌, true, false, ◌&&◌, ◌⊎◌, inl, inr, List, [], ◌∷◌, arith, refl, ◌∙◌, ap}
use Rattle.std.proofs.lemmas.Int.{ints}
use Rattle.std.proofs.lemmas.List.Elements.{All-nil}
use Rattle.std.specs.Prelude.{All, slice_index_or, int_lt}
use lib.IntN.{ℤ, pos, ◌+ℤ◌, ◌-ℤ◌, ◌*ℤ◌, neg_ℤ}
use lib.Signed.{◌≤ℤ◌, ◌<ℤ◌}
use Rattle.bc_algebra.proofs.Ring.{ring, quotes, by_one}
use Rattle.bc_algebra.proofs.Order.{signs, lt_by, pos_of-mul, mul_le, pos-mul, nonneg-mul, nonneg-square, nonneg_of-pos, nonneg-pos}
use Rattle.bc_num.specs.declared.v2.V2.{V2}
use Rattle.bc_num.specs.declared.p2.P2.{P2}
use Rattle.bc_num.specs.declared.box2.Box2.{Box2}
use Rattle.bc_num.specs.Measures.{across, up, turn, square_distance, square_between}
use Rattle.bc_solid.specs.declared.element.Element.{Element}
use Rattle.bc_solid.specs.declared.element.Element.TheVariants.{Edge, Arc}
use Rattle.bc_solid.specs.Closed.{start_of, end_of, IsContour, AreClosed, joined}
use Rattle.bc_solid.specs.Boxes.{IsBoxOf, IsOutside}
use Rattle.bc_parity.specs.Parity.{xor}
use Rattle.bc_parity.specs.Crossings.{has_passed, is_above_line}
use Rattle.bc_parity.specs.Odd.{is_odd_at}
use Rattle.bc_parity.specs.StraightOdd.{is_straight_odd_at}
use Rattle.bc_parity.specs.Laws.{IsAway, OutsideLaw}
use Rattle.bc_parity.proofs.Signs.{same_sign}
use Rattle.bc_parity.proofs.Xors.{and_when, and_comm, and_false, odd-same, odd-and}
use Rattle.bc_parity.proofs.Edges.{one_passed}
use Rattle.bc_parity.proofs.Straight.{is_chord_crossed, straight_is, rounds}
use Rattle.bc_parity.proofs.Cells.{away_law}
use Rattle.bc_parity.proofs.Boxes.{IsIn, IsRoundIn, IsHeld, round_holds, all_held}

-- ---- contours on one side of a line

-- a x + b y + c, at a place and at a point
abbrev pub at_place : ℤ → ℤ → ℤ → V2 → ℤ
at_place a b c v = a *ℤ v.x +ℤ b *ℤ v.y +ℤ c

abbrev pub at_point : ℤ → ℤ → ℤ → P2 → ℤ
at_point a b c p = a *ℤ p.x +ℤ b *ℤ p.y +ℤ c *ℤ p.w

-- f and g are the distances of p from the columns of the ends, l and m the line's values at the ends
weights : (f g l m : ℤ) → pos 0 <ℤ l → pos 0 <ℤ m → (f <ℤ pos 0) × (pos 0 ≤ℤ g) ⊎ (pos 0 ≤ℤ f) × (g <ℤ pos 0) → pos 0 <ℤ ((f -ℤ g) *ℤ (f *ℤ m -ℤ g *ℤ l))
weights f g l m h k (inl x) =
    let n : pos 0 <ℤ neg_ℤ f = omega (arith, ints, x.0) in
    let y : pos 0 ≤ℤ g = x.1 in
    lt_by ((neg_ℤ f +ℤ g) *ℤ (neg_ℤ f *ℤ m +ℤ g *ℤ l)) (ring (f ∷ g ∷ l ∷ m ∷ []) (search quotes depth 30) refl) (search signs depth 12)
weights f g l m h k (inr x) =
    let n : pos 0 <ℤ neg_ℤ g = omega (arith, ints, x.1) in
    let y : pos 0 ≤ℤ f = x.0 in
    lt_by ((f +ℤ neg_ℤ g) *ℤ (f *ℤ m +ℤ neg_ℤ g *ℤ l)) (ring (f ∷ g ∷ l ∷ m ∷ []) (search quotes depth 30) refl) (search signs depth 12)

-- a segment strictly on one side of a line through p: where it straddles p's column, b alone decides whether p is above it
pub one_sided : (a b c : ℤ) (s e : V2) (p : P2) → at_point a b c p ≡ pos 0 → pos 0 <ℤ at_place a b c s → pos 0 <ℤ at_place a b c e
    → xor (has_passed s p) (has_passed e p) ≡ true
    → pos 0 <ℤ (((e.x -ℤ s.x) *ℤ turn s e p) *ℤ neg_ℤ b)
one_sided a b c s e p z h k x =
    let f : ℤ = p.x -ℤ s.x *ℤ p.w in
    let g : ℤ = p.x -ℤ e.x *ℤ p.w in
    let w : pos 0 <ℤ ((f -ℤ g) *ℤ (f *ℤ at_place a b c e -ℤ g *ℤ at_place a b c s)) =
    weights f g (at_place a b c s) (at_place a b c e) h k (one_passed (s.x *ℤ p.w) p.x (e.x *ℤ p.w) p.x x) in
    let r : (((e.x -ℤ s.x) *ℤ turn s e p) *ℤ neg_ℤ b) *ℤ p.w ≡ (f -ℤ g) *ℤ (f *ℤ at_place a b c e -ℤ g *ℤ at_place a b c s) =
    by_one (neg_ℤ (((e.x -ℤ s.x) *ℤ p.w) *ℤ (e.x -ℤ s.x))) z
    (ring (a ∷ b ∷ c ∷ p.x ∷ p.y ∷ p.w ∷ s.x ∷ s.y ∷ e.x ∷ e.y ∷ []) (search quotes depth 30) refl) in
    pos_of-mul (((e.x -ℤ s.x) *ℤ turn s e p) *ℤ neg_ℤ b) p.w p.positive (rw r w)

-- both ends of the element are strictly on one side of a line
abbrev IsBeside : ℤ → ℤ → ℤ → Element → Type 0
IsBeside a b c e = (pos 0 <ℤ at_place a b c (start_of e)) × (pos 0 <ℤ at_place a b c (end_of e))

beside : (a b c : ℤ) (contours : List (List Element)) (p : P2) → at_point a b c p ≡ pos 0 → All IsContour contours → All (IsBeside a b c) (joined contours)
    → is_straight_odd_at (joined contours) p ≡ false
beside a b c contours p z closed h =
    straight_is (joined contours) p
    ∙ odd-same (is_chord_crossed p) (λ e. int_lt (pos 0) (neg_ℤ b) && xor (has_passed (start_of e) p) (has_passed (end_of e) p)) (joined contours)
    (λ i d l. one (slice_index_or (joined contours) i d) (h i d l))
    ∙ odd-and (int_lt (pos 0) (neg_ℤ b)) (λ e. xor (has_passed (start_of e) p) (has_passed (end_of e) p)) (joined contours)
    ∙ ap (λ x. int_lt (pos 0) (neg_ℤ b) && x) (rounds (λ v. has_passed v p) contours closed)
    ∙ and_false (int_lt (pos 0) (neg_ℤ b))
  where
    one : (e : Element) → IsBeside a b c e → is_chord_crossed p e ≡ (int_lt (pos 0) (neg_ℤ b) && xor (has_passed (start_of e) p) (has_passed (end_of e) p))
    one e g =
        and_when (xor (has_passed (start_of e) p) (has_passed (end_of e) p)) (is_above_line (start_of e) (end_of e) p) (int_lt (pos 0) (neg_ℤ b))
        (λ x. same_sign (((end_of e).x -ℤ (start_of e).x) *ℤ turn (start_of e) (end_of e) p) (neg_ℤ b) (one_sided a b c (start_of e) (end_of e) p z g.0 g.1 x))
        ∙ and_comm (xor (has_passed (start_of e) p) (has_passed (end_of e) p)) (int_lt (pos 0) (neg_ℤ b))

-- ---- the four sides of a box

pub past_low : (x0 v w x : ℤ) → pos 0 <ℤ w → x0 ≤ℤ v → x <ℤ (x0 *ℤ w) → pos 0 <ℤ (w *ℤ v -ℤ x)
past_low x0 v w x h k l =
    let m = mul_le x0 v w (nonneg_of-pos w h) k in
    let e : w *ℤ v ≡ v *ℤ w = ring (w ∷ v ∷ []) (search quotes depth 30) refl in
    omega (arith, ints)

pub past_high : (x1 v w x : ℤ) → pos 0 <ℤ w → v ≤ℤ x1 → (x1 *ℤ w) <ℤ x → pos 0 <ℤ (x -ℤ w *ℤ v)
past_high x1 v w x h k l =
    let m = mul_le v x1 w (nonneg_of-pos w h) k in
    let e : w *ℤ v ≡ v *ℤ w = ring (w ∷ v ∷ []) (search quotes depth 30) refl in
    omega (arith, ints)

low_x : (w v y x : ℤ) → pos 0 <ℤ (w *ℤ v -ℤ x) → pos 0 <ℤ (w *ℤ v +ℤ pos 0 *ℤ y +ℤ neg_ℤ x)
low_x w v y x h = lt_by (w *ℤ v -ℤ x) (ring (w ∷ v ∷ y ∷ x ∷ []) (search quotes depth 30) refl) h

high_x : (w v y x : ℤ) → pos 0 <ℤ (x -ℤ w *ℤ v) → pos 0 <ℤ (neg_ℤ w *ℤ v +ℤ pos 0 *ℤ y +ℤ x)
high_x w v y x h = lt_by (x -ℤ w *ℤ v) (ring (w ∷ v ∷ y ∷ x ∷ []) (search quotes depth 30) refl) h

low_y : (w v x y : ℤ) → pos 0 <ℤ (w *ℤ v -ℤ y) → pos 0 <ℤ (pos 0 *ℤ x +ℤ w *ℤ v +ℤ neg_ℤ y)
low_y w v x y h = lt_by (w *ℤ v -ℤ y) (ring (w ∷ v ∷ y ∷ x ∷ []) (search quotes depth 30) refl) h

high_y : (w v x y : ℤ) → pos 0 <ℤ (y -ℤ w *ℤ v) → pos 0 <ℤ (pos 0 *ℤ x +ℤ neg_ℤ w *ℤ v +ℤ y)
high_y w v x y h = lt_by (y -ℤ w *ℤ v) (ring (w ∷ v ∷ y ∷ x ∷ []) (search quotes depth 30) refl) h

-- a line through p that has all places of the box on one side
pub record IsAside (p : P2) (b : Box2) : Type 0 where
  pub a : ℤ
  pub k : ℤ
  pub c : ℤ
  pub through : at_point a k c p ≡ pos 0
  pub above : (v : V2) → IsIn b v → pos 0 <ℤ at_place a k c v

pub aside : (b : Box2) (p : P2) → IsOutside b p → IsAside p b
aside b p (inl l) = record {
  a = p.w;
  k = pos 0;
  c = neg_ℤ p.x;
  through = ring (p.x ∷ p.y ∷ p.w ∷ []) (search quotes depth 30) refl;
  above = λ v h. low_x p.w v.x v.y p.x (past_low b.x0 v.x p.w p.x p.positive h.x_in.low_is l);
}
aside b p (inr (inl l)) = record {
  a = neg_ℤ p.w;
  k = pos 0;
  c = p.x;
  through = ring (p.x ∷ p.y ∷ p.w ∷ []) (search quotes depth 30) refl;
  above = λ v h. high_x p.w v.x v.y p.x (past_high b.x1 v.x p.w p.x p.positive h.x_in.high_is l);
}
aside b p (inr (inr (inl l))) = record {
  a = pos 0;
  k = p.w;
  c = neg_ℤ p.y;
  through = ring (p.x ∷ p.y ∷ p.w ∷ []) (search quotes depth 30) refl;
  above = λ v h. low_y p.w v.y v.x p.y (past_low b.y0 v.y p.w p.y p.positive h.y_in.low_is l);
}
aside b p (inr (inr (inr l))) = record {
  a = pos 0;
  k = neg_ℤ p.w;
  c = p.y;
  through = ring (p.x ∷ p.y ∷ p.w ∷ []) (search quotes depth 30) refl;
  above = λ v h. high_y p.w v.y v.x p.y (past_high b.y1 v.y p.w p.y p.positive h.y_in.high_is l);
}

-- ---- outside a disc

-- d is a distance along an axis past the circle's size m
past : (r m w d e : ℤ) → pos 0 ≤ℤ m → pos 0 <ℤ w → r ≤ℤ (m *ℤ m) → (m *ℤ w) <ℤ d → (r *ℤ (w *ℤ w)) <ℤ (d *ℤ d +ℤ e *ℤ e)
past r m w d e h w0 n l =
    let k : pos 0 ≤ℤ (m *ℤ w) = nonneg-mul m w h (nonneg_of-pos w w0) in
    let t : pos 0 <ℤ ((d -ℤ m *ℤ w) *ℤ (d +ℤ m *ℤ w)) = pos-mul (d -ℤ m *ℤ w) (d +ℤ m *ℤ w) (omega (arith, ints)) (omega (arith, ints)) in
    let is : (d -ℤ m *ℤ w) *ℤ (d +ℤ m *ℤ w) ≡ d *ℤ d -ℤ (m *ℤ m) *ℤ (w *ℤ w) = ring (d ∷ m ∷ w ∷ []) (search quotes depth 30) refl in
    let u : (r *ℤ (w *ℤ w)) ≤ℤ ((m *ℤ m) *ℤ (w *ℤ w)) = mul_le r (m *ℤ m) (w *ℤ w) (nonneg-square w) n in
    let v : pos 0 ≤ℤ (e *ℤ e) = nonneg-square e in
    omega (arith, ints)

-- the same for the distance the other way
past_back : (r m w d e : ℤ) → pos 0 ≤ℤ m → pos 0 <ℤ w → r ≤ℤ (m *ℤ m) → (m *ℤ w) <ℤ neg_ℤ d → (r *ℤ (w *ℤ w)) <ℤ (d *ℤ d +ℤ e *ℤ e)
past_back r m w d e h w0 n l =
    let a = past r m w (neg_ℤ d) e h w0 n l in
    let is : neg_ℤ d *ℤ neg_ℤ d ≡ d *ℤ d = ring (d ∷ []) (search quotes depth 30) refl in
    omega (arith, ints)

past_first : (a b r : ℤ) → r <ℤ (b *ℤ b +ℤ a *ℤ a) → r <ℤ (a *ℤ a +ℤ b *ℤ b)
past_first a b r h = omega (arith, ints)

-- below x0 and above x1
low : (x0 c m w x : ℤ) → pos 0 <ℤ w → x0 ≤ℤ (c -ℤ m) → x <ℤ (x0 *ℤ w) → (m *ℤ w) <ℤ neg_ℤ (x -ℤ c *ℤ w)
low x0 c m w x h k l =
    let a : (x0 *ℤ w) ≤ℤ ((c -ℤ m) *ℤ w) = mul_le x0 (c -ℤ m) w (nonneg_of-pos w h) k in
    let is : (c -ℤ m) *ℤ w ≡ c *ℤ w -ℤ m *ℤ w = ring (c ∷ m ∷ w ∷ []) (search quotes depth 30) refl in
    omega (arith, ints)

high : (x1 c m w x : ℤ) → pos 0 <ℤ w → (c +ℤ m) ≤ℤ x1 → (x1 *ℤ w) <ℤ x → (m *ℤ w) <ℤ (x -ℤ c *ℤ w)
high x1 c m w x h k l =
    let a : ((c +ℤ m) *ℤ w) ≤ℤ (x1 *ℤ w) = mul_le (c +ℤ m) x1 w (nonneg_of-pos w h) k in
    let is : (c +ℤ m) *ℤ w ≡ c *ℤ w +ℤ m *ℤ w = ring (c ∷ m ∷ w ∷ []) (search quotes depth 30) refl in
    omega (arith, ints)

pub outside_disc : (b : Box2) (c : V2) (r2 : ℤ) (p : P2) → IsRoundIn b c r2 → IsOutside b p → (r2 *ℤ (p.w *ℤ p.w)) <ℤ square_distance c p
outside_disc b c r2 p h (inl l) =
    past_back r2 (pos h.size) p.w (across c p) (up c p) (nonneg-pos h.size) p.positive h.enough (low b.x0 c.x (pos h.size) p.w p.x p.positive h.x_low l)
outside_disc b c r2 p h (inr (inl l)) =
    past r2 (pos h.size) p.w (across c p) (up c p) (nonneg-pos h.size) p.positive h.enough (high b.x1 c.x (pos h.size) p.w p.x p.positive h.x_high l)
outside_disc b c r2 p h (inr (inr (inl l))) =
    past_first (across c p) (up c p) (r2 *ℤ (p.w *ℤ p.w))
    (past_back r2 (pos h.size) p.w (up c p) (across c p) (nonneg-pos h.size) p.positive h.enough (low b.y0 c.y (pos h.size) p.w p.y p.positive h.y_low l))
outside_disc b c r2 p h (inr (inr (inr l))) =
    past_first (across c p) (up c p) (r2 *ℤ (p.w *ℤ p.w))
    (past r2 (pos h.size) p.w (up c p) (across c p) (nonneg-pos h.size) p.positive h.enough (high b.y1 c.y (pos h.size) p.w p.y p.positive h.y_high l))

-- ---- the law

away : (b : Box2) (e : Element) (p : P2) → IsHeld b e → IsOutside b p → IsAway p e
away b (Edge s e) p h o = _
away b (Arc s e c ccw) p h o = outside_disc b c (square_between c s) p h.1 o

ends_in : (b : Box2) (e : Element) → IsHeld b e → IsIn b (start_of e) × IsIn b (end_of e)
ends_in b (Edge s e) h = h
ends_in b (Arc s e c ccw) h = h.0

-- outside a box that holds the elements
pub outside_held : (contours : List (List Element)) → AreClosed contours → (b : Box2) (p : P2) → All (IsHeld b) (joined contours) → IsOutside b p → is_odd_at (joined contours) p ≡ false
outside_held contours h b p held o =
    let t : IsAside p b = aside b p o in
    away_law (joined contours) h.proper p (λ i d l. away b (slice_index_or (joined contours) i d) p (held i d l) o)
    ∙ beside t.a t.k t.c contours p t.through h.closed
    (λ i d l. let g = ends_in b (slice_index_or (joined contours) i d) (held i d l) in (t.above _ g.0, t.above _ g.1))

held_in : (b : Box2) (es : List Element) → IsBoxOf es b → All (IsHeld b) es
held_in b [] h = All-nil (IsHeld b)
held_in b (e ∷ es) h = all_held b (e ∷ es) (round_holds b (e ∷ es) h)

pub outside_law : (contours : List (List Element)) → AreClosed contours → OutsideLaw (joined contours)
outside_law contours h b p box o = outside_held contours h b p (held_in b (joined contours) box) o
