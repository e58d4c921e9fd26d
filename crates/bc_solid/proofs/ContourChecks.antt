-- Contours as they are read are closed exactly where no arc is at fault.
use Rattle.std.proofs.Common.{◌≡◌, ◌≢◌, ℕ, ◌+◌, ◌≤◌, ◌^◌, length, true, false, not, ◌&&◌, inl, inr, List, [], ◌∷◌, Some, None, Option, arith, refl, sym, ap, ◌∙◌}
use Rattle.std.specs.Prelude.{All, nat_lt, unsigned_abs}
use Rattle.std.specs.List.{list_all}
use Rattle.std.specs.Ordering.{int_eq}
use Rattle.std.proofs.lemmas.Int.{ints, by_lt_z}
use Rattle.std.proofs.lemmas.Bool.{and_parts, and_from, or_parts, not-true, cases_Bool}
use Rattle.std.proofs.lemmas.Bool.Decides.{nat_tests, Decides-int_eq}
use Rattle.std.proofs.lemmas.List.Elements.{All-cons, All-nil, All-head, All-tail, All-same}
use lib.IntN.{ℤ, pos, ◌-ℤ◌}
use lib.Signed.{◌<ℤ◌, ◌≤ℤ◌}
use Rattle.bc_algebra.proofs.Ring.{ring, quotes, by_two}
use Rattle.bc_algebra.proofs.Order.{squares_zero, nonneg-square, nonneg-add}
use Rattle.bc_num.specs.declared.coord.TheConstants.{MOST_COORD}
use Rattle.bc_num.specs.declared.v2.V2.{V2}
use Rattle.bc_num.specs.Measures.{square_between, is_same}
use Rattle.bc_num.specs.Sizes.{IsCoord, AreCoords}
use Rattle.bc_solid.specs.declared.element.Element.{Element}
use Rattle.bc_solid.specs.declared.element.Element.TheVariants.{Edge, Arc}
use Rattle.bc_solid.specs.declared.contour_fault.ContourFault.{ContourFault}
use Rattle.bc_solid.specs.declared.contour_fault.ContourFault.TheVariants.{ZeroRadius, SkewArc, Memory}
use Rattle.bc_solid.specs.Closed.{IsClosedArc, IsProper, IsContour, AreClosed, AreNear, IsProfile, joined}
use Rattle.bc_solid.specs.Contours.{is_far, is_far_point, is_drawn}
use Rattle.bc_solid.specs.ContourFaults.{arc_fault, fault_of, or_else, first_fault, IsFault}
use Rattle.bc_solid.proofs.Faults.{zero, even, skew}

-- ---- tests

same_yes : (a b : V2) → a ≡ b → is_same a b ≡ true
same_yes a b h = and_from (int_eq a.x b.x) (int_eq a.y b.y) ((Decides-int_eq a.x b.x).1 (ap (λ (t : V2). t.x) h)) ((Decides-int_eq a.y b.y).1 (ap (λ (t : V2). t.y) h))

-- ---- near elements, and edges whose ends differ

pub near : (z : ℤ) → is_far z ≡ false → IsCoord z
near z h = record { within = by (unsigned_abs z) h }
  where
    by : (n : ℕ) → nat_lt MOST_COORD n ≡ false → n ≤ MOST_COORD
    by n k = grind (arith, nat_tests)

near_point : (v : V2) → not (is_far_point v) ≡ true → AreCoords v
near_point v h = let p = or_parts (is_far v.x) (is_far v.y) (not-true (is_far_point v) h) in record { x_near = near v.x p.0; y_near = near v.y p.1 }

near_element : (e : Element) → is_drawn e ≡ true → AreNear e
near_element (Edge a b) h =
    let p = and_parts (not (is_far_point a)) (not (is_far_point b) && not (is_same a b)) h in
    let q = and_parts (not (is_far_point b)) (not (is_same a b)) p.1 in
    (near_point a p.0, near_point b q.0)
near_element (Arc a b c ccw) h =
    let p = and_parts (not (is_far_point a)) (not (is_far_point b) && not (is_far_point c)) h in
    let q = and_parts (not (is_far_point b)) (not (is_far_point c)) p.1 in
    (near_point a p.0, near_point b q.0, near_point c q.1)

pub all_near : (es : List Element) → list_all is_drawn es ≡ true → All AreNear es
all_near [] h = All-nil AreNear
all_near (e ∷ es) h = let p = and_parts (is_drawn e) (list_all is_drawn es) h in All-cons AreNear e es (near_element e p.0) (all_near es p.1)

apart : (a b : V2) → is_drawn (Edge a b) ≡ true → a ≢ b
apart a b h e =
    let p = and_parts (not (is_far_point a)) (not (is_far_point b) && not (is_same a b)) h in
    let q = and_parts (not (is_far_point b)) (not (is_same a b)) p.1 in
    let r : true ≡ false = sym (same_yes a b e) ∙ not-true (is_same a b) q.1 in
    cc

-- ---- the fault of an arc

-- a place other than c is at a distance above 0
some_radius : (c a : V2) → is_same c a ≡ false → pos 0 <ℤ square_between c a
some_radius c a h =
    by_lt_z (pos 0) (square_between c a) (λ l. l)
    (λ l.
    let n : pos 0 ≤ℤ square_between c a = nonneg-add _ _ (nonneg-square (a.x -ℤ c.x)) (nonneg-square (a.y -ℤ c.y)) in
    let z : square_between c a ≡ pos 0 = omega (arith, ints) in
    let s = squares_zero (a.x -ℤ c.x) (a.y -ℤ c.y) z in
    let ex : c.x ≡ a.x = gone c.x a.x s.0 in
    let ey : c.y ≡ a.y = gone c.y a.y s.1 in
    absurd (let q : true ≡ false = sym (and_from (int_eq c.x a.x) (int_eq c.y a.y) ((Decides-int_eq c.x a.x).1 ex) ((Decides-int_eq c.y a.y).1 ey)) ∙ h in cc))
  where
    gone : (x y : ℤ) → y -ℤ x ≡ pos 0 → x ≡ y
    gone x y e = omega (arith, ints)

no_radius : (c a : V2) → is_same c a ≡ true → square_between c a ≡ pos 0
no_radius c a h =
    let p = and_parts (int_eq c.x a.x) (int_eq c.y a.y) h in
    let ex : c.x ≡ a.x = (Decides-int_eq c.x a.x).0 p.0 in
    let ey : c.y ≡ a.y = (Decides-int_eq c.y a.y).0 p.1 in
    by_two (c.x -ℤ a.x) (c.y -ℤ a.y) ex ey (ring (c.x ∷ c.y ∷ a.x ∷ a.y ∷ []) (search quotes depth 30) refl)

different : {X : Type 0} (o : Option X) (x : X) → o ≡ None → o ≡ Some x → ⊥
different o x h k = let q : None ≡ Some x = sym h ∙ k in cc

closed_arc : (n : ℕ) (a b c : V2) → arc_fault n a b c ≡ None → IsClosedArc a b c
closed_arc n a b c h =
    elim (cases_Bool (is_same c a)) [
      | inl s ↦ absurd (different (arc_fault n a b c) (ZeroRadius n) h (zero n a b c s))
      | inr s ↦
          elim (cases_Bool (int_eq (square_between c b) (square_between c a))) [
            | inl e ↦ record { proper = some_radius c a s; closed = (Decides-int_eq (square_between c b) (square_between c a)).0 e }
            | inr e ↦ absurd (different (arc_fault n a b c) (SkewArc n (square_between c a) (square_between c b)) h (skew n a b c s e))
          ]
    ]

no_fault : (n : ℕ) (a b c : V2) → IsClosedArc a b c → arc_fault n a b c ≡ None
no_fault n a b c h =
    elim (cases_Bool (is_same c a)) [
      | inl s ↦ absurd (let z = no_radius c a s in let p = h.proper in omega (arith, ints))
      | inr s ↦ even n a b c s ((Decides-int_eq (square_between c b) (square_between c a)).1 h.closed)
    ]

-- ---- all elements

proper_element : (n : ℕ) (e : Element) → is_drawn e ≡ true → fault_of n e ≡ None → IsProper e
proper_element n (Edge a b) d h = apart a b d
proper_element n (Arc a b c ccw) d h = closed_arc n a b c h

no_element : (n : ℕ) (e : Element) → IsProper e → fault_of n e ≡ None
no_element n (Edge a b) h = refl
no_element n (Arc a b c ccw) h = no_fault n a b c h

first_none : (f g : Option ContourFault) → or_else f g ≡ None → (f ≡ None) × (g ≡ None)
first_none None g h = (refl, h)
first_none (Some f) g h = absurd (different (Some f) f h refl)

pub all_proper : (n : ℕ) (es : List Element) → list_all is_drawn es ≡ true → first_fault n es ≡ None → All IsProper es
all_proper n [] d h = All-nil IsProper
all_proper n (e ∷ es) d h =
    let p = and_parts (is_drawn e) (list_all is_drawn es) d in
    let q = first_none (fault_of n e) (first_fault (n + 1) es) h in
    All-cons IsProper e es (proper_element n e p.0 q.0) (all_proper (n + 1) es p.1 q.1)

pub none_first : (n : ℕ) (es : List Element) → All IsProper es → first_fault n es ≡ None
none_first n [] h = refl
none_first n (e ∷ es) h =
    ap (λ o. or_else o (first_fault (n + 1) es)) (no_element n e (All-head IsProper e es h))
    ∙ none_first (n + 1) es (All-tail IsProper e es h)

-- a fault and closed arcs do not go together
pub faultless : (es : List Element) (f : ContourFault) → first_fault 0 es ≡ Some f → All IsProper es → ⊥
faultless es f k h = different (first_fault 0 es) f (none_first 0 es h) k

-- ---- what the check answers, of contours that it lends as ds

module _ (contours ds : List (List Element)) (lent : ds ≡ contours) where
  pub whole : (items : List Element) → items ≡ joined ds → items ≡ joined contours
  whole items w = w ∙ ap joined lent

  pub closed : All IsContour contours → list_all is_drawn (joined contours) ≡ true → first_fault 0 (joined ds) ≡ None → AreClosed contours
  closed k d n = record { closed = k; proper = all_proper 0 (joined contours) d (ap (λ xs. first_fault 0 (joined xs)) (sym lent) ∙ n) }

  pub profile : (items : List Element) → items ≡ joined ds → All IsContour contours → list_all is_drawn (joined contours) ≡ true → length (joined contours) ≤ 2 ^ 20 → first_fault 0 (joined ds) ≡ None → IsProfile items
  profile items w k d l n = record {
    contours = contours;
    whole = sym (whole items w);
    closed = closed k d n;
    near = All-same AreNear items (joined contours) (whole items w) (all_near (joined contours) d);
    few = let e = ap length (whole items w) in omega arith;
  }

  pub not_closed : (f : ContourFault) → IsFault 0 (joined ds) f → f ≢ Memory → AreClosed contours → ⊥
  not_closed f h m k = faultless (joined contours) f (ap (λ xs. first_fault 0 (joined xs)) (sym lent) ∙ h m) k.proper
