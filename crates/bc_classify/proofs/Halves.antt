-- What a table tells of a point: on which boundaries and sides of the elements' half-spaces it is.
use Rattle.std.proofs.Common.{◌≡◌, ◌≢◌, ◌↔◌, inl, inr, ℕ, zero, suc, ◌+◌, ◌*◌, ◌≤◌, Bool, true, false, not, ◌&&◌, ◌||◌, cond, length, ◌^◌, List, [], ◌∷◌, refl, sym, ap, ◌∙◌, arith, Some, subst}
use Rattle.std.specs.Prelude.{int_lt, slice_get, slice_index_or, All}
use Rattle.std.specs.List.{Contains}
use Rattle.std.specs.Ordering.{int_eq}
use Rattle.std.proofs.lemmas.Int.{ints, by_lt_z}
use Rattle.std.proofs.lemmas.Bool.{false_from_ne_true, or_left, or_right, or_from, and_from, and_left, and_right, not-true}
use Rattle.std.proofs.lemmas.Option.{slice_get-get_or}
use Rattle.std.proofs.lemmas.List.Elements.{All-cons, All-nil, All-head, All-tail, All-weaker, All-contains, Contains-get_or}
use lib.IntN.{ℤ, pos, negsuc, ◌-ℤ◌, ◌*ℤ◌}
use lib.Signed.{◌<ℤ◌}
use Rattle.bc_algebra.proofs.Ring.{ring, quotes}
use Rattle.bc_algebra.proofs.Order.{zero_factor, neg-mul, pos-mul}
use Rattle.bc_num.specs.declared.v2.V2.{V2}
use Rattle.bc_num.specs.declared.p2.P2.{P2}
use Rattle.bc_num.specs.declared.p3.P3.{P3}
use Rattle.bc_num.specs.declared.disc2.Disc2.{Disc2}
use Rattle.bc_num.specs.Directions.{IsLeading2}
use Rattle.bc_num.specs.Measures.{turn, is_same, square_between, square_distance}
use Rattle.bc_space.specs.declared.side.Side.{Side}
use Rattle.bc_space.specs.declared.side.Side.TheVariants.{Below, On, Above}
use Rattle.bc_space.specs.declared.line2.Line2.{Line2}
use Rattle.bc_space.specs.Sides.{side_of_value}
use Rattle.bc_space.specs.Lines.{line_value, line_side}
use Rattle.bc_space.specs.Discs.{disc_value, disc_side}
use Rattle.bc_space.specs.Planes.{plane_side}
use Rattle.bc_space.specs.LinesThrough.{IsLineThrough}
use Rattle.bc_space.specs.Regions.{bit_of_side, mask_of}
use Rattle.bc_space.proofs.Canonical.{turn_is}
use Rattle.bc_solid.specs.declared.element.Element.{Element}
use Rattle.bc_solid.specs.declared.element.Element.TheVariants.{Edge, Arc}
use Rattle.bc_solid.specs.Closed.{IsProper, start_of, end_of}
use Rattle.bc_solid.specs.HalfSpaces.{HalfSpace2, Line, Disc, IsOn, half_spaces, IsOff, is_above, leads_forth, above_by, is_line, AreAlike, IsOffLines, AreAlikeByLines}
use Rattle.bc_solid.specs.Facets.{Facet, AreAlike3}
use Rattle.bc_parity.proofs.Orders.{by_order, lt_yes, lt_no, eq_yes, eq_is}
use Rattle.bc_parity.proofs.Signs.{one_side_below}
use Rattle.bc_parity.proofs.Segments.{scaled_up, same_no}
use Rattle.bc_parity.proofs.Halves.{ForHalves, for_halves, from_halves}
use Rattle.bc_natural.specs.Curves.{Curves, lines_of, has_line, is_arc, IsDiscOf}
use Rattle.bc_natural.specs.Masks.{IsClear, curve_mask}
use Rattle.bc_natural.specs.Planes.{Planes, planes_of, ArePlanes, plane_mask}
use Rattle.bc_natural.proofs.Masks.{same_parts, lines_below}
use Rattle.bc_natural.proofs.PlaneTables.{planes_have}

-- each element's line and disc is in the table, and each of the table is an element's
pub record IsTable (es : List Element) (t : Curves) : Type 0 where
  pub line_in : (e : Element) → Contains es e → has_line e ≡ true → (l : Line2) × Contains (lines_of t) l × IsLineThrough (start_of e) (end_of e) l
  pub line_from : (i : ℕ) (l : Line2) → slice_get (lines_of t) i ≡ Some l → (e : Element) × Contains es e × (has_line e ≡ true) × IsLineThrough (start_of e) (end_of e) l
  pub disc_in : (e : Element) → Contains es e → is_arc e ≡ true → (d : Disc2) × Contains t.discs d × IsDiscOf e d
  pub disc_from : (i : ℕ) (d : Disc2) → slice_get t.discs i ≡ Some d → (e : Element) × Contains es e × IsDiscOf e d

-- ---- sides and values

pub above_is : (z : ℤ) → (side_of_value z ≡ Above) ↔ (int_lt (pos 0) z ≡ true)
above_is (pos zero) = (λ e. cc, λ e. cc)
above_is (pos (suc n)) = (λ e. lt_yes (pos 0) (pos (suc n)) (omega (arith, ints)), λ e. refl)
above_is (negsuc n) = (λ e. cc, λ e. cc)

pub on_is : (z : ℤ) → (side_of_value z ≡ On) ↔ (z ≡ pos 0)
on_is (pos zero) = (λ e. refl, λ e. refl)
on_is (pos (suc n)) = (λ e. cc, λ e. cc)
on_is (negsuc n) = (λ e. cc, λ e. cc)

-- equal bits are equal tests
bits_same : (y z : ℤ) → bit_of_side (side_of_value y) ≡ bit_of_side (side_of_value z) → int_lt (pos 0) y ≡ int_lt (pos 0) z
bits_same (pos zero) (pos zero) e = refl
bits_same (pos zero) (pos (suc m)) e = cc
bits_same (pos zero) (negsuc m) e = refl
bits_same (pos (suc n)) (pos zero) e = cc
bits_same (pos (suc n)) (pos (suc m)) e = lt_yes (pos 0) (pos (suc n)) (omega (arith, ints)) ∙ sym (lt_yes (pos 0) (pos (suc m)) (omega (arith, ints)))
bits_same (pos (suc n)) (negsuc m) e = cc
bits_same (negsuc n) (pos zero) e = refl
bits_same (negsuc n) (pos (suc m)) e = cc
bits_same (negsuc n) (negsuc m) e = refl

-- equal tests are equal bits
tests_same : (y z : ℤ) → int_lt (pos 0) y ≡ int_lt (pos 0) z → bit_of_side (side_of_value y) ≡ bit_of_side (side_of_value z)
tests_same y z e = bit_is y ∙ ap (λ b. cond b 1 0) e ∙ sym (bit_is z)
  where
    bit_is : (z : ℤ) → bit_of_side (side_of_value z) ≡ cond (int_lt (pos 0) z) 1 0
    bit_is (pos zero) = refl
    bit_is (pos (suc n)) = sym (ap (λ b. cond b 1 0) (lt_yes (pos 0) (pos (suc n)) (omega (arith, ints))))
    bit_is (negsuc n) = refl

-- ---- lines

no_eq : (a b : ℤ) → (a ≡ b → ⊥) → int_eq a b ≡ false
no_eq a b n = false_from_ne_true (int_eq a b) (λ e. n (eq_is a b e))

second_of : (x y z : Bool) → y ≡ true → z ≡ true → (x || (y && z)) ≡ true
second_of x y z h k = or_right x (y && z) (and_from y z h k)

neither_of : (x y z : Bool) → x ≡ false → y ≡ false → (x || (y && z)) ≡ false
neither_of x y z h k = or_from x (y && z) h (and_left y z k)

not_last_of : (x y z : Bool) → x ≡ false → z ≡ false → (x || (y && z)) ≡ false
not_last_of x y z h k = or_from x (y && z) h (and_right y z k)

-- the canonical line leads as the ends do, where the way between them is a positive multiple of its direction
forth : (a b u : V2) (t : ℤ) → b.x -ℤ a.x ≡ t *ℤ u.x → b.y -ℤ a.y ≡ t *ℤ u.y → IsLeading2 u → pos 0 <ℤ t → leads_forth a b ≡ true
forth a b u t ex ey (inl l) h =
    let m = pos-mul t u.x h l in or_left (int_lt a.x b.x) (int_eq a.x b.x && int_lt a.y b.y) (lt_yes a.x b.x (omega (arith, ints)))
forth a b u t ex ey (inr k) h =
    let z : t *ℤ u.x ≡ pos 0 = ap (λ z. t *ℤ z) k.0 ∙ ring (t ∷ []) (search quotes depth 30) refl in
    let m = pos-mul t u.y h k.1 in second_of (int_lt a.x b.x) (int_eq a.x b.x) (int_lt a.y b.y) (eq_yes a.x b.x (omega (arith, ints))) (lt_yes a.y b.y (omega (arith, ints)))

back : (a b u : V2) (t : ℤ) → b.x -ℤ a.x ≡ t *ℤ u.x → b.y -ℤ a.y ≡ t *ℤ u.y → IsLeading2 u → t <ℤ pos 0 → leads_forth a b ≡ false
back a b u t ex ey (inl l) h =
    let m = neg-mul t u.x l h in neither_of (int_lt a.x b.x) (int_eq a.x b.x) (int_lt a.y b.y) (lt_no a.x b.x (omega (arith, ints))) (no_eq a.x b.x (λ e. absurd (omega (arith, ints))))
back a b u t ex ey (inr k) h =
    let z : t *ℤ u.x ≡ pos 0 = ap (λ z. t *ℤ z) k.0 ∙ ring (t ∷ []) (search quotes depth 30) refl in
    let m = neg-mul t u.y k.1 h in not_last_of (int_lt a.x b.x) (int_eq a.x b.x) (int_lt a.y b.y) (lt_no a.x b.x (omega (arith, ints))) (lt_no a.y b.y (omega (arith, ints)))

-- a negative factor exchanges above and below
turned_over : (t v : ℤ) → t <ℤ pos 0 → int_lt (t *ℤ v) (pos 0) ≡ int_lt (pos 0) v
turned_over t v h =
    by_order (pos 0) v
    (λ l. lt_yes (t *ℤ v) (pos 0) (let m : (v *ℤ t) <ℤ pos 0 = neg_way v t l h in let e : t *ℤ v ≡ v *ℤ t = ring (t ∷ v ∷ []) (search quotes depth 30) refl in omega (arith, ints)) ∙ sym (lt_yes (pos 0) v l))
    (λ e. let z : t *ℤ v ≡ pos 0 = ap (λ z. t *ℤ z) (sym e) ∙ ring (t ∷ []) (search quotes depth 30) refl in lt_no (t *ℤ v) (pos 0) (omega (arith, ints)) ∙ sym (lt_no (pos 0) v (omega (arith, ints))))
    (λ l. let m = one_side_below t v h l in lt_no (t *ℤ v) (pos 0) (omega (arith, ints)) ∙ sym (lt_no (pos 0) v (omega (arith, ints))))
  where
    neg_way : (v t : ℤ) → pos 0 <ℤ v → t <ℤ pos 0 → (v *ℤ t) <ℤ pos 0
    neg_way v t h k = let m = neg-mul t v h k in let e : v *ℤ t ≡ t *ℤ v = ring (t ∷ v ∷ []) (search quotes depth 30) refl in omega (arith, ints)

-- Above a line, as it is drawn, is where the value of the canonical line is above 0
pub line_is_above : (a b : V2) (l : Line2) → IsLineThrough a b l → (p : P2) → is_above (Line a b) p ≡ int_lt (pos 0) (line_value l p)
line_is_above a b l h p =
    by_order (pos 0) h.primitive.times
    (λ k. forward (leads_forth a b) (turn a b p) h.primitive.times (line_value l p) (forth a b h.direction h.primitive.times h.primitive.along_x h.primitive.along_y h.primitive.leading k) (turn_is a b l h p) k)
    (λ k. absurd (h.primitive.some (sym k)))
    (λ k. backward (leads_forth a b) (turn a b p) h.primitive.times (line_value l p) (back a b h.direction h.primitive.times h.primitive.along_x h.primitive.along_y h.primitive.leading k) (turn_is a b l h p) k)
  where
    forward : (f : Bool) (u t v : ℤ) → f ≡ true → u ≡ t *ℤ v → pos 0 <ℤ t → above_by f (int_lt (pos 0) u) (int_lt u (pos 0)) ≡ int_lt (pos 0) v
    forward f u t v h e k = ap (λ f. above_by f (int_lt (pos 0) u) (int_lt u (pos 0))) h ∙ ap (int_lt (pos 0)) e ∙ sym (scaled_up t v k)

    backward : (f : Bool) (u t v : ℤ) → f ≡ false → u ≡ t *ℤ v → t <ℤ pos 0 → above_by f (int_lt (pos 0) u) (int_lt u (pos 0)) ≡ int_lt (pos 0) v
    backward f u t v h e k = ap (λ f. above_by f (int_lt (pos 0) u) (int_lt u (pos 0))) h ∙ ap (λ u. int_lt u (pos 0)) e ∙ turned_over t v k

-- on a line, as it is drawn, is on the canonical line
pub line_is_on : (a b : V2) (l : Line2) → IsLineThrough a b l → (p : P2) → IsOn (Line a b) p ↔ (line_side l p ≡ On)
line_is_on a b l h p = (
  λ e. (on_is (line_value l p)).1 (elim (zero_factor h.primitive.times (line_value l p) (sym (turn_is a b l h p) ∙ e)) [ inl k ↦ absurd (h.primitive.some k) | inr k ↦ k ]),
  λ e. turn_is a b l h p ∙ ap (λ z. h.primitive.times *ℤ z) ((on_is (line_value l p)).0 e) ∙ ring (h.primitive.times ∷ []) (search quotes depth 30) refl,
)

-- ---- discs

pub disc_is_above : (c : V2) (r2 : ℤ) (d : Disc2) → d.c ≡ c → d.r2 ≡ r2 → (p : P2) → is_above (Disc c r2) p ≡ int_lt (pos 0) (disc_value d p)
disc_is_above c r2 d ec er p =
    moved (square_distance c p) (r2 *ℤ (p.w *ℤ p.w)) ∙ ap (int_lt (pos 0)) (sym (ap (λ r. r *ℤ (p.w *ℤ p.w) -ℤ square_distance d.c p) er ∙ ap (λ c. r2 *ℤ (p.w *ℤ p.w) -ℤ square_distance c p) ec))
  where
    moved : (x y : ℤ) → int_lt x y ≡ int_lt (pos 0) (y -ℤ x)
    moved x y =
        by_lt_z x y (λ l. lt_yes x y l ∙ sym (lt_yes (pos 0) (y -ℤ x) (omega (arith, ints)))) (λ l. lt_no x y l ∙ sym (lt_no (pos 0) (y -ℤ x) (omega (arith, ints))))

pub disc_is_on : (c : V2) (r2 : ℤ) (d : Disc2) → d.c ≡ c → d.r2 ≡ r2 → (p : P2) → IsOn (Disc c r2) p ↔ (disc_side d p ≡ On)
disc_is_on c r2 d ec er p =
    let v : disc_value d p ≡ r2 *ℤ (p.w *ℤ p.w) -ℤ square_distance c p = ap (λ r. r *ℤ (p.w *ℤ p.w) -ℤ square_distance d.c p) er ∙ ap (λ c. r2 *ℤ (p.w *ℤ p.w) -ℤ square_distance c p) ec in (
      λ e. (on_is (disc_value d p)).1 (v ∙ nothing (square_distance c p) (r2 *ℤ (p.w *ℤ p.w)) e),
      λ e. same_of (square_distance c p) (r2 *ℤ (p.w *ℤ p.w)) (sym v ∙ (on_is (disc_value d p)).0 e),
    )
  where
    nothing : (x y : ℤ) → x ≡ y → y -ℤ x ≡ pos 0
    nothing x y e = omega (arith, ints)

    same_of : (x y : ℤ) → y -ℤ x ≡ pos 0 → x ≡ y
    same_of x y e = omega (arith, ints)

-- ---- elements and their places

edge_has_line : (a b : V2) → a ≢ b → has_line (Edge a b) ≡ true
edge_has_line a b n = ap not (same_no a b n)

arc_has_line : (a b c : V2) (ccw : Bool) → is_same a b ≡ false → has_line (Arc a b c ccw) ≡ true
arc_has_line a b c ccw e = ap not e

-- what holds of the half-spaces of each element holds of all
each_half : (P : HalfSpace2 → Type 0) (es : List Element) → ((e : Element) → Contains es e → ForHalves P e) → All P (half_spaces es)
each_half P es f = from_halves P es (λ k d h. f (slice_index_or es k d) (Contains-get_or es k d h))

half_of : (P : HalfSpace2 → Type 0) (es : List Element) → All P (half_spaces es) → (e : Element) → Contains es e → ForHalves P e
half_of P es h e c = All-contains (ForHalves P) es e (for_halves P es h) c

proper_of : (es : List Element) → All IsProper es → (e : Element) → Contains es e → IsProper e
proper_of es h e c = All-contains IsProper es e h c

-- the line of an element that has one
line_part : (P : HalfSpace2 → Type 0) (e : Element) → has_line e ≡ true → ForHalves P e → P (Line (start_of e) (end_of e))
line_part P (Edge a b) h f = f
line_part P (Arc a b c ccw) h f = f.0 (not-true (is_same a b) h)

-- something of each of an element's half-spaces, from the same of its line and its disc
both_parts : (P : HalfSpace2 → Type 0) (e : Element) → IsProper e → (has_line e ≡ true → P (Line (start_of e) (end_of e))) → ((a b c : V2) (ccw : Bool) → e ≡ Arc a b c ccw → P (Disc c (square_between c a))) → ForHalves P e
both_parts P (Edge a b) n line disc = line (edge_has_line a b n)
both_parts P (Arc a b c ccw) n line disc = (λ h. line (arc_has_line a b c ccw h), disc a b c ccw refl)

-- ---- boundaries

-- on none of the table's lines is on none of the elements' lines
pub off_lines : (es : List Element) (t : Curves) → IsTable es t → All IsProper es → (q : P2) → All (λ l. line_side l q ≢ On) (lines_of t) → IsOffLines es q
off_lines es t k h q off =
    each_half (λ g. is_line g ≡ true → IsOn g q → ⊥) es
    (λ e c. both_parts (λ g. is_line g ≡ true → IsOn g q → ⊥) e (proper_of es h e c)
    (λ has i on. let r = k.line_in e c has in All-contains (λ l. line_side l q ≢ On) (lines_of t) r.0 off r.1 ((line_is_on (start_of e) (end_of e) r.0 r.2 q).0 on))
    (λ a b d ccw is i on. absurd (let z : false ≡ true = i in cc)))

-- on no boundary of the elements is on no boundary of the table
pub clear_from_off : (es : List Element) (t : Curves) → IsTable es t → (q : P2) → IsOff es q → IsClear t q
clear_from_off es t k q off = record {
  lines = λ i d w on.
      let l = slice_index_or (lines_of t) i d in
      let r = k.line_from i (slice_index_or (lines_of t) i d) (slice_get-get_or (lines_of t) i d w) in
      line_part (λ g. IsOn g q → ⊥) r.0 r.2 (half_of (λ g. IsOn g q → ⊥) es off r.0 r.1) ((line_is_on (start_of r.0) (end_of r.0) (slice_index_or (lines_of t) i d) r.3 q).1 on);
  discs = λ i d w on.
      let r = k.disc_from i (slice_index_or t.discs i d) (slice_get-get_or t.discs i d w) in
      disc_part r.0 (slice_index_or t.discs i d) r.2 (half_of (λ g. IsOn g q → ⊥) es off r.0 r.1) on;
}
  where
    disc_part : (e : Element) (d : Disc2) → IsDiscOf e d → ForHalves (λ g. IsOn g q → ⊥) e → disc_side d q ≡ On → ⊥
    disc_part (Edge a b) d h f on = h
    disc_part (Arc a b c ccw) d h f on = f.1 ((disc_is_on c (square_between c a) d h.0 h.1 q).1 on)

-- ---- sides

-- equal masks are equal bits
equal_bits : {H : Type 0} (side : H → P2 → Side) (hs : List H) (p q : P2) → mask_of side hs p ≡ mask_of side hs q → All (λ h. bit_of_side (side h p) ≡ bit_of_side (side h q)) hs
equal_bits side [] p q e = All-nil (λ h. bit_of_side (side h p) ≡ bit_of_side (side h q))
equal_bits side (h ∷ hs) p q e =
    let r = parts (bit_of_side (side h p)) (bit_of_side (side h q)) (mask_of side hs p) (mask_of side hs q) (small (side h p)) (small (side h q)) e in
    All-cons (λ h. bit_of_side (side h p) ≡ bit_of_side (side h q)) h hs r.0 (equal_bits side hs p q r.1)
  where
    small : (s : Side) → bit_of_side s ≤ 1
    small Below = omega arith
    small On = omega arith
    small Above = omega arith

    parts : (a b m n : ℕ) → a ≤ 1 → b ≤ 1 → a + 2 * m ≡ b + 2 * n → (a ≡ b) × (m ≡ n)
    parts a b m n h k e = (omega arith, omega arith)

-- and the other way round
equal_masks : {P H : Type 0} (side : H → P → Side) (hs : List H) (p q : P) → All (λ h. bit_of_side (side h p) ≡ bit_of_side (side h q)) hs → mask_of side hs p ≡ mask_of side hs q
equal_masks side [] p q a = refl
equal_masks side (h ∷ hs) p q a =
    ap (λ b. b + 2 * mask_of side hs p) (All-head (λ h. bit_of_side (side h p) ≡ bit_of_side (side h q)) h hs a)
    ∙ ap (λ m. bit_of_side (side h q) + 2 * m) (equal_masks side hs p q (All-tail (λ h. bit_of_side (side h p) ≡ bit_of_side (side h q)) h hs a))

-- points that are Above the same of the table's lines are Above an element's line or not, both
line_alike : (es : List Element) (t : Curves) → IsTable es t → (p q : P2) → mask_of line_side (lines_of t) p ≡ mask_of line_side (lines_of t) q
    → (e : Element) → Contains es e → has_line e ≡ true → is_above (Line (start_of e) (end_of e)) p ≡ is_above (Line (start_of e) (end_of e)) q
line_alike es t k p q m e c has =
    let r = k.line_in e c has in
    line_is_above (start_of e) (end_of e) r.0 r.2 p
    ∙ bits_same (line_value r.0 p) (line_value r.0 q) (All-contains (λ l. bit_of_side (line_side l p) ≡ bit_of_side (line_side l q)) (lines_of t) r.0 (equal_bits line_side (lines_of t) p q m) r.1)
    ∙ sym (line_is_above (start_of e) (end_of e) r.0 r.2 q)

-- the same of the disc of an arc
disc_alike : (es : List Element) (t : Curves) → IsTable es t → (p q : P2) → mask_of disc_side t.discs p ≡ mask_of disc_side t.discs q
    → (a b c : V2) (ccw : Bool) → Contains es (Arc a b c ccw) → is_above (Disc c (square_between c a)) p ≡ is_above (Disc c (square_between c a)) q
disc_alike es t k p q m a b c ccw has =
    let r = k.disc_in (Arc a b c ccw) has refl in
    disc_is_above c (square_between c a) r.0 r.2.0 r.2.1 p
    ∙ bits_same (disc_value r.0 p) (disc_value r.0 q) (All-contains (λ d. bit_of_side (disc_side d p) ≡ bit_of_side (disc_side d q)) t.discs r.0 (equal_bits disc_side t.discs p q m) r.1)
    ∙ sym (disc_is_above c (square_between c a) r.0 r.2.0 r.2.1 q)

-- Above the same lines of the table is Above the same lines of the elements
pub alike_by_lines : (es : List Element) (t : Curves) → IsTable es t → All IsProper es → (p q : P2) → mask_of line_side (lines_of t) p ≡ mask_of line_side (lines_of t) q → AreAlikeByLines es p q
alike_by_lines es t k h p q e =
    each_half (λ g. is_line g ≡ true → is_above g p ≡ is_above g q) es
    (λ x c. both_parts (λ g. is_line g ≡ true → is_above g p ≡ is_above g q) x (proper_of es h x c)
    (λ has i. line_alike es t k p q e x c has)
    (λ a b d ccw is i. absurd (let z : false ≡ true = i in cc)))

-- equal masks of the table are equal sides of all elements
pub sides_by_mask : (es : List Element) (t : Curves) → IsTable es t → All IsProper es → (p q : P2) → curve_mask t p ≡ curve_mask t q → AreAlike es p q
sides_by_mask es t k h p q e =
    let m = same_parts t p (mask_of line_side (lines_of t) q) (mask_of disc_side t.discs q) (lines_below t q) e in
    each_half (λ g. is_above g p ≡ is_above g q) es
    (λ x c. both_parts (λ g. is_above g p ≡ is_above g q) x (proper_of es h x c)
    (λ has. line_alike es t k p q (sym m.0) x c has)
    (λ a b d ccw is. disc_alike es t k p q (sym m.1) a b d ccw (subst (Contains es) is c)))

-- and the other way round
pub mask_by_sides : (es : List Element) (t : Curves) → IsTable es t → (p q : P2) → AreAlike es p q → curve_mask t p ≡ curve_mask t q
mask_by_sides es t k p q alike =
    ap (λ m. m + 2 ^ length t.lines * mask_of disc_side t.discs p) (equal_masks line_side (lines_of t) p q lines)
    ∙ ap (λ m. mask_of line_side (lines_of t) q + 2 ^ length t.lines * m) (equal_masks disc_side t.discs p q discs)
  where
    half : (e : Element) → Contains es e → ForHalves (λ g. is_above g p ≡ is_above g q) e
    half e c = half_of (λ g. is_above g p ≡ is_above g q) es alike e c

    lines : All (λ l. bit_of_side (line_side l p) ≡ bit_of_side (line_side l q)) (lines_of t)
    lines i d w =
        let l = slice_index_or (lines_of t) i d in
        let r = k.line_from i l (slice_get-get_or (lines_of t) i d w) in
        tests_same (line_value l p) (line_value l q)
        (sym (line_is_above (start_of r.0) (end_of r.0) l r.3 p) ∙ line_part (λ g. is_above g p ≡ is_above g q) r.0 r.2 (half r.0 r.1) ∙ line_is_above (start_of r.0) (end_of r.0) l r.3 q)

    disc_part : (e : Element) (d : Disc2) → IsDiscOf e d → ForHalves (λ g. is_above g p ≡ is_above g q) e → bit_of_side (disc_side d p) ≡ bit_of_side (disc_side d q)
    disc_part (Edge a b) d h f = absurd h
    disc_part (Arc a b c ccw) d h f =
        tests_same (disc_value d p) (disc_value d q)
        (sym (disc_is_above c (square_between c a) d h.0 h.1 p) ∙ f.1 ∙ disc_is_above c (square_between c a) d h.0 h.1 q)

    discs : All (λ d. bit_of_side (disc_side d p) ≡ bit_of_side (disc_side d q)) t.discs
    discs i d w =
        let e = slice_index_or t.discs i d in
        let r = k.disc_from i e (slice_get-get_or t.discs i d w) in
        disc_part r.0 e r.2 (half r.0 r.1)

-- ---- planes

-- points on the same sides of the faces' planes have equal masks
pub plane_mask_by_sides : (fs : List Facet) (t : Planes) → ArePlanes fs t → (p q : P3) → AreAlike3 fs p q → plane_mask t p ≡ plane_mask t q
plane_mask_by_sides fs t h p q alike =
    equal_masks plane_side (planes_of t) p q
    (All-weaker (λ g. plane_side g p ≡ plane_side g q) (λ g. bit_of_side (plane_side g p) ≡ bit_of_side (plane_side g q)) (λ g e. ap bit_of_side e) (planes_of t)
    (planes_have (λ g. plane_side g p ≡ plane_side g q) fs t h alike))
