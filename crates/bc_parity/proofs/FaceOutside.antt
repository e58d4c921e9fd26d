-- Outside the box of a closed mesh nothing is odd.
use Rattle.std.proofs.Common.{◌≡◌, ◌+◌, ◌<◌, Bool, true, false, not, ◌&&◌, ◌||◌, inl, inr, List, [], ◌∷◌, arith, refl, sym, ◌∙◌, ap}
use Rattle.std.proofs.lemmas.Int.{ints, by_lt_z}
use Rattle.std.specs.Prelude.{All, slice_index_or, int_lt, int_le, unsigned_abs}
use Rattle.std.specs.Ordering.{int_eq}
use Rattle.std.proofs.lemmas.List.Elements.{All-weaker}
use lib.IntN.{ℤ, pos, ◌+ℤ◌, ◌-ℤ◌, ◌*ℤ◌, neg_ℤ}
use lib.Signed.{◌≤ℤ◌, ◌<ℤ◌}
use Rattle.bc_algebra.proofs.Ring.{ring, quotes, by_one, by_two, by_three}
use Rattle.bc_algebra.proofs.Order.{signs, mul_le, nonneg_of-pos, pos-mul, pos-square, zero_factor}
use Rattle.bc_num.specs.declared.v3.V3.{V3}
use Rattle.bc_num.specs.declared.p3.P3.{P3}
use Rattle.bc_num.specs.declared.box3.Box3.{Box3}
use Rattle.bc_space.specs.declared.plane3.Plane3.{Plane3}
use Rattle.bc_space.specs.Planes.{plane_value}
use Rattle.bc_solid.specs.Meshes.{Edge3, edges, all_edges, joins}
use Rattle.bc_solid.specs.Facets.{Facet, outlines, IsOnPlane}
use Rattle.bc_solid.specs.Boxes.{IsOutside}
use Rattle.bc_solid.specs.Boxes3.{IsOutside3}
use Rattle.bc_parity.specs.Parity.{xor}
use Rattle.bc_parity.specs.Sums.{odd}
use Rattle.bc_parity.specs.Crossings.{has_passed}
use Rattle.bc_parity.specs.Faces.{shadow, shadow_point, is_above_or_on, is_edge_crossed, is_over, is_face_crossed, is_odd3_at}
use Rattle.bc_parity.specs.FaceLaws.{IsThrough, OutsideLaw3}
use Rattle.bc_parity.proofs.Orders.{lt_yes, lt_no, eq_yes}
use Rattle.bc_parity.proofs.Signs.{zero_or-not, not_zero-left, same_sign}
use Rattle.bc_parity.proofs.Xors.{and_when, and_comm, and_false, xor_same, odd-same, odd-and, odd-none}
use Rattle.bc_parity.proofs.Outside.{at_place, at_point, one_sided, past_low, past_high, IsAside, aside}
use Rattle.bc_parity.proofs.Marks.{marked, odd-marked, list_law}
use Rattle.bc_parity.proofs.Planes.{turn_of}
use Rattle.bc_parity.proofs.Boxes3.{IsIn3, base, in_base, all_in}
use Rattle.bc_parity.proofs.FaceCells.{or_on, round, edges-each, odd-all_edges, clash, crossed-flipped, IsFlatAndEven}

-- ---- edges that straddle the column of p all answer b

abbrev straddles : Edge3 → P3 → Bool
straddles e p = xor (has_passed (shadow e.from) (shadow_point p)) (has_passed (shadow e.to) (shadow_point p))

-- p is above the edge, or on it as the rule for ties says
abbrev is_past : Edge3 → P3 → Bool
is_past e p = is_above_or_on (shadow e.from) (shadow e.to) (shadow_point p)

-- the edges of a face seen from above are crossed evenly
abbrev IsEven : P3 → List V3 → Type 0
IsEven p cs = odd (λ e. is_edge_crossed e p) (edges cs) ≡ false

constant : (cs : List V3) (p : P3) (b : Bool) → All (λ e. straddles e p ≡ true → is_past e p ≡ b) (edges cs) → IsEven p cs
constant cs p b h =
    odd-same (λ e. is_edge_crossed e p) (λ e. b && straddles e p) (edges cs)
    (λ i d l.
    and_when (straddles (slice_index_or (edges cs) i d) p) (is_past (slice_index_or (edges cs) i d) p) b (h i d l)
    ∙ and_comm (straddles (slice_index_or (edges cs) i d) p) b)
    ∙ odd-and b (λ e. straddles e p) (edges cs)
    ∙ ap (λ x. b && x) (round (λ v. has_passed (shadow v) (shadow_point p)) cs)
    ∙ and_false b

-- ---- a face strictly on one side of a planar line through p

beside : (a b c : ℤ) (cs : List V3) (p : P3) → at_point a b c (shadow_point p) ≡ pos 0 → All (λ v. pos 0 <ℤ at_place a b c (shadow v)) cs → IsEven p cs
beside a b c cs p z h =
    constant cs p (int_lt (pos 0) (neg_ℤ b))
    (λ i d l. one (slice_index_or (edges cs) i d) (edges-each (λ v. pos 0 <ℤ at_place a b c (shadow v)) cs h i d l))
  where
    one : (e : Edge3) → (pos 0 <ℤ at_place a b c (shadow e.from)) × (pos 0 <ℤ at_place a b c (shadow e.to)) → straddles e p ≡ true → is_past e p ≡ int_lt (pos 0) (neg_ℤ b)
    one e g x =
        let m : pos 0 <ℤ (((e.to.x -ℤ e.from.x) *ℤ turn_of e p) *ℤ neg_ℤ b) = one_sided a b c (shadow e.from) (shadow e.to) (shadow_point p) z g.0 g.1 x in
        or_on (shadow e.from) (shadow e.to) (shadow_point p)
        (λ t. not_zero-left ((e.to.x -ℤ e.from.x) *ℤ turn_of e p) (neg_ℤ b) m (zero (e.to.x -ℤ e.from.x) (turn_of e p) t))
        ∙ same_sign ((e.to.x -ℤ e.from.x) *ℤ turn_of e p) (neg_ℤ b) m
      where
        zero : (d t : ℤ) → t ≡ pos 0 → d *ℤ t ≡ pos 0
        zero d t h = by_one d h (ring (d ∷ t ∷ []) (search quotes depth 30) refl)

-- ---- faces above or below p as a whole

lt_from : (a b : ℤ) → int_lt a b ≡ true → a <ℤ b
lt_from a b h = by_lt_z a b (λ l. l) (λ l. absurd (clash (int_lt a b) h (lt_no a b l)))

le_from : (a b : ℤ) → int_lt a b ≡ false → b ≤ℤ a
le_from a b h = by_lt_z a b (λ l. absurd (clash (int_lt a b) (lt_yes a b l) h)) (λ l. l)

-- p is above the plane, and below all corners
over_low : (f : Facet) (p : P3) → All (IsOnPlane f.plane) f.corners → All (λ v. pos 0 <ℤ (p.w *ℤ v.z -ℤ p.z)) f.corners → is_over f.plane p ≡ true → IsEven p f.corners
over_low f p flat k o =
    let m : pos 0 <ℤ (f.plane.c *ℤ plane_value f.plane p) = lt_from (pos 0) (f.plane.c *ℤ plane_value f.plane p) o in
    beside (neg_ℤ (f.plane.c *ℤ (f.plane.a *ℤ p.w))) (neg_ℤ (f.plane.c *ℤ (f.plane.b *ℤ p.w))) (f.plane.c *ℤ (f.plane.a *ℤ p.x +ℤ f.plane.b *ℤ p.y)) f.corners p
    (ring (f.plane.a ∷ f.plane.b ∷ f.plane.c ∷ p.x ∷ p.y ∷ p.w ∷ []) (search quotes depth 30) refl)
    (λ i d l. at f.plane (slice_index_or f.corners i d) m (flat i d l) (k i d l))
  where
    at : (h : Plane3) (v : V3) → pos 0 <ℤ (h.c *ℤ plane_value h p) → IsOnPlane h v → pos 0 <ℤ (p.w *ℤ v.z -ℤ p.z)
        → pos 0 <ℤ at_place (neg_ℤ (h.c *ℤ (h.a *ℤ p.w))) (neg_ℤ (h.c *ℤ (h.b *ℤ p.w))) (h.c *ℤ (h.a *ℤ p.x +ℤ h.b *ℤ p.y)) (shadow v)
    at h v m on g =
        let e : at_place (neg_ℤ (h.c *ℤ (h.a *ℤ p.w))) (neg_ℤ (h.c *ℤ (h.b *ℤ p.w))) (h.c *ℤ (h.a *ℤ p.x +ℤ h.b *ℤ p.y)) (shadow v)
        ≡ h.c *ℤ plane_value h p +ℤ (h.c *ℤ h.c) *ℤ (p.w *ℤ v.z -ℤ p.z) =
        by_one (h.c *ℤ p.w) on (ring (h.a ∷ h.b ∷ h.c ∷ h.d ∷ v.x ∷ v.y ∷ v.z ∷ p.x ∷ p.y ∷ p.z ∷ p.w ∷ []) (search quotes depth 30) refl) in
        let n : pos 0 <ℤ (h.c *ℤ plane_value h p +ℤ (h.c *ℤ h.c) *ℤ (p.w *ℤ v.z -ℤ p.z)) = search (signs, m, g) depth 12 in
        rw e n

-- p is not above the plane, which is not vertical, and above all corners
under_high : (f : Facet) (p : P3) → All (IsOnPlane f.plane) f.corners → All (λ v. pos 0 <ℤ (p.z -ℤ p.w *ℤ v.z)) f.corners → (f.plane.c ≡ pos 0 → ⊥) → is_over f.plane p ≡ false
    → IsEven p f.corners
under_high f p flat k n o =
    let m : (f.plane.c *ℤ plane_value f.plane p) ≤ℤ pos 0 = le_from (pos 0) (f.plane.c *ℤ plane_value f.plane p) o in
    beside (f.plane.c *ℤ (f.plane.a *ℤ p.w)) (f.plane.c *ℤ (f.plane.b *ℤ p.w)) (neg_ℤ (f.plane.c *ℤ (f.plane.a *ℤ p.x +ℤ f.plane.b *ℤ p.y))) f.corners p
    (ring (f.plane.a ∷ f.plane.b ∷ f.plane.c ∷ p.x ∷ p.y ∷ p.w ∷ []) (search quotes depth 30) refl)
    (λ i d l. at f.plane (slice_index_or f.corners i d) n m (flat i d l) (k i d l))
  where
    at : (h : Plane3) (v : V3) → (h.c ≡ pos 0 → ⊥) → (h.c *ℤ plane_value h p) ≤ℤ pos 0 → IsOnPlane h v → pos 0 <ℤ (p.z -ℤ p.w *ℤ v.z)
        → pos 0 <ℤ at_place (h.c *ℤ (h.a *ℤ p.w)) (h.c *ℤ (h.b *ℤ p.w)) (neg_ℤ (h.c *ℤ (h.a *ℤ p.x +ℤ h.b *ℤ p.y))) (shadow v)
    at h v n m on g =
        let e : at_place (h.c *ℤ (h.a *ℤ p.w)) (h.c *ℤ (h.b *ℤ p.w)) (neg_ℤ (h.c *ℤ (h.a *ℤ p.x +ℤ h.b *ℤ p.y))) (shadow v)
        ≡ (h.c *ℤ h.c) *ℤ (p.z -ℤ p.w *ℤ v.z) -ℤ h.c *ℤ plane_value h p =
        by_one (neg_ℤ (h.c *ℤ p.w)) on (ring (h.a ∷ h.b ∷ h.c ∷ h.d ∷ v.x ∷ v.y ∷ v.z ∷ p.x ∷ p.y ∷ p.z ∷ p.w ∷ []) (search quotes depth 30) refl) in
        let q : pos 0 <ℤ ((h.c *ℤ h.c) *ℤ (p.z -ℤ p.w *ℤ v.z)) = pos-mul (h.c *ℤ h.c) (p.z -ℤ p.w *ℤ v.z) (pos-square h.c n) g in
        rw e (less ((h.c *ℤ h.c) *ℤ (p.z -ℤ p.w *ℤ v.z)) (h.c *ℤ plane_value h p) q m)
      where
        less : (a b : ℤ) → pos 0 <ℤ a → b ≤ℤ pos 0 → pos 0 <ℤ (a -ℤ b)
        less a b h k = omega (arith, ints)

-- ---- vertical faces

-- p is not on the plane
vertical_off : (f : Facet) (p : P3) → All (IsOnPlane f.plane) f.corners → f.plane.c ≡ pos 0 → (plane_value f.plane p ≡ pos 0 → ⊥) → IsEven p f.corners
vertical_off f p flat c n =
    by_lt_z (pos 0) (plane_value f.plane p)
    (λ m.
    beside (neg_ℤ (f.plane.a *ℤ p.w)) (neg_ℤ (f.plane.b *ℤ p.w)) (f.plane.a *ℤ p.x +ℤ f.plane.b *ℤ p.y) f.corners p
    (ring (f.plane.a ∷ f.plane.b ∷ p.x ∷ p.y ∷ p.w ∷ []) (search quotes depth 30) refl)
    (λ i d l. rw (ahead f.plane (slice_index_or f.corners i d) c (flat i d l)) m))
    (λ m.
    beside (f.plane.a *ℤ p.w) (f.plane.b *ℤ p.w) (neg_ℤ (f.plane.a *ℤ p.x +ℤ f.plane.b *ℤ p.y)) f.corners p
    (ring (f.plane.a ∷ f.plane.b ∷ p.x ∷ p.y ∷ p.w ∷ []) (search quotes depth 30) refl)
    (λ i d l. rw (behind f.plane (slice_index_or f.corners i d) c (flat i d l)) (negative (plane_value f.plane p) n m)))
  where
    ahead : (h : Plane3) (v : V3) → h.c ≡ pos 0 → IsOnPlane h v → at_place (neg_ℤ (h.a *ℤ p.w)) (neg_ℤ (h.b *ℤ p.w)) (h.a *ℤ p.x +ℤ h.b *ℤ p.y) (shadow v) ≡ plane_value h p
    ahead h v c on = by_two p.w (p.w *ℤ v.z -ℤ p.z) on c (ring (h.a ∷ h.b ∷ h.c ∷ h.d ∷ v.x ∷ v.y ∷ v.z ∷ p.x ∷ p.y ∷ p.z ∷ p.w ∷ []) (search quotes depth 30) refl)

    behind : (h : Plane3) (v : V3) → h.c ≡ pos 0 → IsOnPlane h v → at_place (h.a *ℤ p.w) (h.b *ℤ p.w) (neg_ℤ (h.a *ℤ p.x +ℤ h.b *ℤ p.y)) (shadow v) ≡ neg_ℤ (plane_value h p)
    behind h v c on = by_two (neg_ℤ p.w) (p.z -ℤ p.w *ℤ v.z) on c (ring (h.a ∷ h.b ∷ h.c ∷ h.d ∷ v.x ∷ v.y ∷ v.z ∷ p.x ∷ p.y ∷ p.z ∷ p.w ∷ []) (search quotes depth 30) refl)

    negative : (z : ℤ) → (z ≡ pos 0 → ⊥) → z ≤ℤ pos 0 → pos 0 <ℤ neg_ℤ z
    negative z n h = by_lt_z z (pos 0) (λ l. omega (arith, ints)) (λ l. absurd (n (omega (arith, ints))))

-- the normal is not zero
not_level : (h : Plane3) → h.c ≡ pos 0 → (h.a ≡ pos 0) × (h.b ≡ pos 0) → ⊥
not_level h z k = zero h.a h.b h.c h.normal k.0 k.1 z
  where
    zero : (a b c : ℤ) → 0 < unsigned_abs a + unsigned_abs b + unsigned_abs c → a ≡ pos 0 → b ≡ pos 0 → c ≡ pos 0 → ⊥
    zero a b c n e f g =
        let x : unsigned_abs a ≡ 0 = ap unsigned_abs e in
        let y : unsigned_abs b ≡ 0 = ap unsigned_abs f in
        let z : unsigned_abs c ≡ 0 = ap unsigned_abs g in
        omega (arith, n, x, y, z)

zero_left : (c k : ℤ) → c ≡ pos 0 → c *ℤ k ≡ pos 0
zero_left c k h = by_one k h (ring (c ∷ k ∷ []) (search quotes depth 30) refl)

times_b : (h : Plane3) (e : Edge3) (p : P3) → IsThrough h e → h.c ≡ pos 0 → plane_value h p ≡ pos 0 → h.b *ℤ turn_of e p ≡ pos 0
times_b h e p t c z =
    let g : h.b *ℤ turn_of e p ≡ h.c *ℤ ((p.x -ℤ e.from.x *ℤ p.w) *ℤ (e.to.z -ℤ e.from.z) -ℤ (e.to.x -ℤ e.from.x) *ℤ (p.z -ℤ e.from.z *ℤ p.w)) =
    by_three (e.to.x -ℤ e.from.x) (neg_ℤ ((p.x -ℤ e.from.x *ℤ p.w) -ℤ (e.to.x -ℤ e.from.x) *ℤ p.w)) (p.x -ℤ e.from.x *ℤ p.w) z t.0 t.1
    (ring (h.a ∷ h.b ∷ h.c ∷ h.d ∷ e.from.x ∷ e.from.y ∷ e.from.z ∷ e.to.x ∷ e.to.y ∷ e.to.z ∷ p.x ∷ p.y ∷ p.z ∷ p.w ∷ []) (search quotes depth 30) refl) in
    g ∙ zero_left h.c ((p.x -ℤ e.from.x *ℤ p.w) *ℤ (e.to.z -ℤ e.from.z) -ℤ (e.to.x -ℤ e.from.x) *ℤ (p.z -ℤ e.from.z *ℤ p.w)) c

times_a : (h : Plane3) (e : Edge3) (p : P3) → IsThrough h e → h.c ≡ pos 0 → plane_value h p ≡ pos 0 → h.a *ℤ turn_of e p ≡ pos 0
times_a h e p t c z =
    let g : h.a *ℤ turn_of e p ≡ h.c *ℤ ((e.to.y -ℤ e.from.y) *ℤ (p.z -ℤ e.from.z *ℤ p.w) -ℤ (p.y -ℤ e.from.y *ℤ p.w) *ℤ (e.to.z -ℤ e.from.z)) =
    by_three (neg_ℤ (e.to.y -ℤ e.from.y)) (neg_ℤ ((e.to.y -ℤ e.from.y) *ℤ p.w -ℤ (p.y -ℤ e.from.y *ℤ p.w))) (neg_ℤ (p.y -ℤ e.from.y *ℤ p.w)) z t.0 t.1
    (ring (h.a ∷ h.b ∷ h.c ∷ h.d ∷ e.from.x ∷ e.from.y ∷ e.from.z ∷ e.to.x ∷ e.to.y ∷ e.to.z ∷ p.x ∷ p.y ∷ p.z ∷ p.w ∷ []) (search quotes depth 30) refl) in
    g ∙ zero_left h.c ((e.to.y -ℤ e.from.y) *ℤ (p.z -ℤ e.from.z *ℤ p.w) -ℤ (p.y -ℤ e.from.y *ℤ p.w) *ℤ (e.to.z -ℤ e.from.z)) c

-- the direction of an edge
direction : (h : Plane3) (e : Edge3) → IsThrough h e → h.c ≡ pos 0 → h.a *ℤ (e.to.x -ℤ e.from.x) +ℤ h.b *ℤ (e.to.y -ℤ e.from.y) ≡ pos 0
direction h e t c =
    by_three (neg_ℤ (pos 1)) (pos 1) (e.from.z -ℤ e.to.z) t.1 t.0 c
    (ring (h.a ∷ h.b ∷ h.c ∷ h.d ∷ e.from.x ∷ e.from.y ∷ e.from.z ∷ e.to.x ∷ e.to.y ∷ e.to.z ∷ []) (search quotes depth 30) refl)

either_zero : (a b t : ℤ) → ((a ≡ pos 0) × (b ≡ pos 0) → ⊥) → a *ℤ t ≡ pos 0 → b *ℤ t ≡ pos 0 → t ≡ pos 0
either_zero a b t n h k =
    elim (zero_factor a t h) [
      | inl x ↦ elim (zero_factor b t k) [ inl y ↦ absurd (n (x, y)) | inr y ↦ y ]
      | inr x ↦ x
    ]

scaled : (z w : ℤ) → pos 0 <ℤ w → int_lt (pos 0) z ≡ int_lt (pos 0) (z *ℤ w)
scaled z w h =
    by_lt_z (pos 0) z
    (λ l. lt_yes (pos 0) z l ∙ sym (lt_yes (pos 0) (z *ℤ w) (pos-mul z w l h)))
    (λ l. lt_no (pos 0) z l ∙ sym (lt_no (pos 0) (z *ℤ w) (low z w h l)))
  where
    low : (z w : ℤ) → pos 0 <ℤ w → z ≤ℤ pos 0 → (z *ℤ w) ≤ℤ pos 0
    low z w h l = let m = mul_le z (pos 0) w (nonneg_of-pos w h) l in let e : pos 0 *ℤ w ≡ pos 0 = ring (w ∷ []) (search quotes depth 30) refl in omega (arith, ints)

-- whether an edge of a vertical plane rises is told by the plane
slope : (a b x y : ℤ) → ((a ≡ pos 0) × (b ≡ pos 0) → ⊥) → (x ≡ pos 0 → ⊥) → a *ℤ x +ℤ b *ℤ y ≡ pos 0 → int_lt (pos 0) (x *ℤ y) ≡ int_lt (pos 0) (neg_ℤ (a *ℤ b))
slope a b x y n m h =
    elim (zero_or-not b) [
      | inl z ↦
          let g : a *ℤ x ≡ pos 0 = by_two (pos 1) (neg_ℤ y) h z (ring (a ∷ b ∷ x ∷ y ∷ []) (search quotes depth 30) refl) in
          elim (zero_factor a x g) [ inl k ↦ absurd (n (k, z)) | inr k ↦ absurd (m k) ]
      | inr k ↦
          let g : (x *ℤ y) *ℤ (b *ℤ b) ≡ neg_ℤ (a *ℤ b) *ℤ (x *ℤ x) = by_one (b *ℤ x) h (ring (a ∷ b ∷ x ∷ y ∷ []) (search quotes depth 30) refl) in
          scaled (x *ℤ y) (b *ℤ b) (pos-square b k) ∙ ap (int_lt (pos 0)) g ∙ sym (scaled (neg_ℤ (a *ℤ b)) (x *ℤ x) (pos-square x m))
    ]

on_line : (x y t : ℤ) → t ≡ pos 0 → (int_lt (pos 0) (x *ℤ t) || (int_eq t (pos 0) && not (int_lt (pos 0) (x *ℤ y)))) ≡ not (int_lt (pos 0) (x *ℤ y))
on_line x y t h =
    let g : x *ℤ t ≡ pos 0 = by_one x h (ring (x ∷ t ∷ []) (search quotes depth 30) refl) in
    ap (λ b. b || (int_eq t (pos 0) && not (int_lt (pos 0) (x *ℤ y)))) (ap (int_lt (pos 0)) g)
    ∙ ap (λ b. b && not (int_lt (pos 0) (x *ℤ y))) (eq_yes t (pos 0) h)

-- an edge that straddles is not over one column
wide : (e : Edge3) (p : P3) → straddles e p ≡ true → e.to.x -ℤ e.from.x ≡ pos 0 → ⊥
wide e p x d =
    let g : e.from.x ≡ e.to.x = omega (arith, ints) in
    clash (straddles e p) x (ap (λ z. xor (int_le (z *ℤ p.w) p.x) (int_le (e.to.x *ℤ p.w) p.x)) g ∙ xor_same (int_le (e.to.x *ℤ p.w) p.x))

-- p is on the plane: all edges seen from above lie on one line through p, and the rule for ties decides
vertical_on : (f : Facet) (p : P3) → All (IsOnPlane f.plane) f.corners → f.plane.c ≡ pos 0 → plane_value f.plane p ≡ pos 0 → IsEven p f.corners
vertical_on f p flat c z =
    constant f.corners p (not (int_lt (pos 0) (neg_ℤ (f.plane.a *ℤ f.plane.b))))
    (λ i d l. one f.plane (slice_index_or (edges f.corners) i d) c z (edges-each (IsOnPlane f.plane) f.corners flat i d l))
  where
    one : (h : Plane3) (e : Edge3) → h.c ≡ pos 0 → plane_value h p ≡ pos 0 → IsThrough h e → straddles e p ≡ true → is_past e p ≡ not (int_lt (pos 0) (neg_ℤ (h.a *ℤ h.b)))
    one h e c z t x =
        let u : turn_of e p ≡ pos 0 = either_zero h.a h.b (turn_of e p) (not_level h c) (times_a h e p t c z) (times_b h e p t c z) in
        on_line (e.to.x -ℤ e.from.x) (e.to.y -ℤ e.from.y) (turn_of e p) u
        ∙ ap not (slope h.a h.b (e.to.x -ℤ e.from.x) (e.to.y -ℤ e.from.y) (not_level h c) (wide e p x) (direction h e t c))

-- p is not above the plane, and above all corners
not_over : (f : Facet) (p : P3) → All (IsOnPlane f.plane) f.corners → All (λ v. pos 0 <ℤ (p.z -ℤ p.w *ℤ v.z)) f.corners → is_over f.plane p ≡ false → IsEven p f.corners
not_over f p flat k o =
    elim (zero_or-not f.plane.c) [
      | inl c ↦ elim (zero_or-not (plane_value f.plane p)) [ inl z ↦ vertical_on f p flat c z | inr n ↦ vertical_off f p flat c n ]
      | inr n ↦ under_high f p flat k n o
    ]

-- ---- the mesh

-- all edges of a closed mesh, counted whatever their face
every_edge : (fs : List Facet) (p : P3) → IsFlatAndEven fs → odd (λ e. is_edge_crossed e p) (all_edges (outlines fs)) ≡ false
every_edge fs p mesh =
    sym (odd-marked (λ e. is_edge_crossed e p) true (all_edges (outlines fs)))
    ∙ list_law (λ e. is_edge_crossed e p) (marked true (all_edges (outlines fs))) (λ e. crossed-flipped e p)
    (λ k h. odd-marked (joins k) true (all_edges (outlines fs)) ∙ mesh.even k)

-- no face counts
no_face : (fs : List Facet) (p : P3) → All (λ f. is_over f.plane p ≡ true → IsEven p f.corners) fs → is_odd3_at fs p ≡ false
no_face fs p h =
    odd-same (λ f. is_face_crossed f p) (λ f. false) fs
    (λ i d l. and_when (is_over (slice_index_or fs i d).plane p) (odd (λ e. is_edge_crossed e p) (edges (slice_index_or fs i d).corners)) false (h i d l)
    ∙ and_false (is_over (slice_index_or fs i d).plane p))
    ∙ odd-none fs

-- each face counts as if p were above it
each_face : (fs : List Facet) (p : P3) → IsFlatAndEven fs → All (λ f. is_over f.plane p ≡ false → IsEven p f.corners) fs → is_odd3_at fs p ≡ false
each_face fs p mesh h =
    odd-same (λ f. is_face_crossed f p) (λ f. odd (λ e. is_edge_crossed e p) (edges f.corners)) fs
    (λ i d l. one (is_over (slice_index_or fs i d).plane p) (odd (λ e. is_edge_crossed e p) (edges (slice_index_or fs i d).corners)) (h i d l))
    ∙ odd-all_edges (λ e. is_edge_crossed e p) fs
    ∙ every_edge fs p mesh
  where
    one : (a b : Bool) → (a ≡ false → b ≡ false) → (a && b) ≡ b
    one true b h = refl
    one false b h = sym (h refl)

-- a planar line through p has all corners on one side
planar : (fs : List Facet) (b : Box3) (p : P3) → All (λ f. All (IsIn3 b) f.corners) fs → IsOutside (base b) (shadow_point p) → is_odd3_at fs p ≡ false
planar fs b p h out =
    let t : IsAside (shadow_point p) (base b) = aside (base b) (shadow_point p) out in
    no_face fs p (λ i d l o.
    beside t.a t.k t.c (slice_index_or fs i d).corners p t.through
    (All-weaker (IsIn3 b) (λ v. pos 0 <ℤ at_place t.a t.k t.c (shadow v)) (λ v g. t.above (shadow v) (in_base b v g)) (slice_index_or fs i d).corners (h i d l)))

pub outside : (fs : List Facet) → IsFlatAndEven fs → (b : Box3) (p : P3) → All (λ f. All (IsIn3 b) f.corners) fs → IsOutside3 b p → is_odd3_at fs p ≡ false
outside fs mesh b p h (inl l) = planar fs b p h (inl l)
outside fs mesh b p h (inr (inl l)) = planar fs b p h (inr (inl l))
outside fs mesh b p h (inr (inr (inl l))) = planar fs b p h (inr (inr (inl l)))
outside fs mesh b p h (inr (inr (inr (inl l)))) = planar fs b p h (inr (inr (inr l)))
outside fs mesh b p h (inr (inr (inr (inr (inl l))))) =
    no_face fs p (λ i d k o.
    over_low (slice_index_or fs i d) p (mesh.flat i d k)
    (All-weaker (IsIn3 b) (λ v. pos 0 <ℤ (p.w *ℤ v.z -ℤ p.z)) (λ v g. past_low b.z0 v.z p.w p.z p.positive g.z_in.low_is l) (slice_index_or fs i d).corners (h i d k)) o)
outside fs mesh b p h (inr (inr (inr (inr (inr l))))) =
    each_face fs p mesh (λ i d k o.
    not_over (slice_index_or fs i d) p (mesh.flat i d k)
    (All-weaker (IsIn3 b) (λ v. pos 0 <ℤ (p.z -ℤ p.w *ℤ v.z)) (λ v g. past_high b.z1 v.z p.w p.z p.positive g.z_in.high_is l) (slice_index_or fs i d).corners (h i d k)) o)

pub outside_law : (fs : List Facet) → IsFlatAndEven fs → OutsideLaw3 fs
outside_law fs mesh b p box out = outside fs mesh b p (all_in b fs box) out
