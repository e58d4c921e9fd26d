-- The plane of a slab, and on which side of it the slab is.
use Rattle.std.proofs.Common.{◌≡◌, ◌≢◌, ◌↔◌, ◌⊎◌, ℕ, zero, suc, ◌+◌, Bool, true, false, not, ◌&&◌, List, [], ◌∷◌, if◌then◌else◌, Option, None, Some, is_some, refl, sym, ap, ◌∙◌, subst, inl, inr, arith}
use Rattle.std.specs.Prelude.{slice_get}
use Rattle.std.specs.List.{All, Any}
use Rattle.std.specs.Int.{bit_at}
use Rattle.std.specs.Ordering.{int_eq}
use mathlib.Core.Bool.{beq}
use Rattle.std.proofs.lemmas.Int.{ints}
use Rattle.std.proofs.lemmas.Bool.{and_parts, eqb-true, eq-eqb}
use Rattle.std.proofs.lemmas.Bool.Decides.{Decides-int_eq}
use Rattle.std.proofs.lemmas.List.Elements.{All-head, All-tail}
use lib.IntN.{ℤ, pos, negsuc, ◌+ℤ◌, ◌-ℤ◌, ◌*ℤ◌, neg_ℤ, nat_abs, *ℤ_comm}
use lib.Signed.{◌≤ℤ◌}
use Rattle.bc_algebra.proofs.Ring.{ring, quotes}
use Rattle.bc_num.specs.declared.v3.V3.{V3}
use Rattle.bc_num.specs.declared.p3.P3.{P3}
use Rattle.bc_num.specs.Directions3.{IsPrimitive3, IsZero3}
use Rattle.bc_num.specs.Divides.{Divides}
use Rattle.bc_space.specs.declared.side.Side.TheVariants.{On, Above}
use Rattle.bc_space.specs.declared.plane3.Plane3.{Plane3}
use Rattle.bc_space.specs.Sides.{side_of_value}
use Rattle.bc_space.specs.Planes.{plane_value, plane_side}
use Rattle.bc_tree.specs.declared.frame.Frame3.{Frame3}
use Rattle.bc_tree.specs.Near.{rise3}
use Rattle.bc_audit.specs.SlabPlanes.{IsSlabPlane}
use Rattle.bc_audit.specs.declared.literal.Literal.{Literal}
use Rattle.bc_audit.specs.Told.{offset, is_plane, is_facing, is_turned, has_bit, literal_from, told_by}
use Rattle.bc_audit.proofs.Trees.{turned}

-- ---- tests of numbers

record Numbers (h : Plane3) (a b c d : ℤ) : Type 0 where
  a_is : h.a ≡ a
  b_is : h.b ≡ b
  c_is : h.c ≡ c
  d_is : h.d ≡ d

numbers : (h : Plane3) (a b c d : ℤ) → is_plane h a b c d ≡ true → Numbers h a b c d
numbers h a b c d e =
    let p = and_parts (int_eq h.a a) (int_eq h.b b && (int_eq h.c c && int_eq h.d d)) e in
    let q = and_parts (int_eq h.b b) (int_eq h.c c && int_eq h.d d) p.1 in
    let r = and_parts (int_eq h.c c) (int_eq h.d d) q.1 in
    record {
      a_is = (Decides-int_eq h.a a).0 p.0;
      b_is = (Decides-int_eq h.b b).0 q.0;
      c_is = (Decides-int_eq h.c c).0 r.0;
      d_is = (Decides-int_eq h.d d).0 r.1;
    }

all_four : (x y z w : Bool) → x ≡ true → y ≡ true → z ≡ true → w ≡ true → (x && (y && (z && w))) ≡ true
all_four x y z w p q r s = rw (p, q, r, s) refl

of_numbers : (h : Plane3) (a b c d : ℤ) → Numbers h a b c d → is_plane h a b c d ≡ true
of_numbers h a b c d n =
    all_four (int_eq h.a a) (int_eq h.b b) (int_eq h.c c) (int_eq h.d d)
    ((Decides-int_eq h.a a).1 n.a_is) ((Decides-int_eq h.b b).1 n.b_is) ((Decides-int_eq h.c c).1 n.c_is) ((Decides-int_eq h.d d).1 n.d_is)

-- a primitive vector is not zero
pub not_zero : (n : V3) → IsPrimitive3 n → IsZero3 n → ⊥
not_zero n p z = no_two 2 refl (p.coprime 2 (all_of n.x z.along_x) (all_of n.y z.along_y) (all_of n.z z.along_z))
  where
    all_of : (z : ℤ) → z ≡ pos 0 → Divides (pos 2) z
    all_of z e = record { times = pos 0; is = e }

    no_two : (d : ℕ) → d ≡ 2 → d ≡ 1 → ⊥
    no_two d e f = absurd (omega arith)

pub some_or_not : {X : Type 0} (o : Option X) → (is_some o ≡ false → ⊥) → is_some o ≡ true
some_or_not None n = absurd (n refl)
some_or_not (Some x) n = refl

-- ---- the canonical plane of a slab is one of its two

one_or_less : (t : ℤ) → nat_abs t ≡ 1 → (t ≡ pos 1) ⊎ (t ≡ negsuc 0)
one_or_less (pos n) e = inl (ap pos e)
one_or_less (negsuc n) e = inr (let z : n ≡ 0 = omega arith in ap negsuc z)

-- the size of a factor divides
size_divides : (k u v : ℤ) → v ≡ k *ℤ u → Divides (pos (nat_abs k)) v
size_divides (pos n) u v e = record { times = u; is = e ∙ *ℤ_comm (pos n) u }
size_divides (negsuc n) u v e = record { times = neg_ℤ u; is = e ∙ sign_moved (pos (suc n)) u }
  where
    sign_moved : (m u : ℤ) → neg_ℤ m *ℤ u ≡ neg_ℤ u *ℤ m
    sign_moved m u = ring (m ∷ u ∷ []) (search quotes depth 30) refl

abbrev pub IsOneOf : Frame3 → Plane3 → Type 0
IsOneOf f h = (is_facing f h ≡ true) ⊎ (is_turned f h ≡ true)

same_way : (n u t : ℤ) → n ≡ t *ℤ u → t ≡ pos 1 → u ≡ n
same_way n u t e k = sym (e ∙ ap (λ z. z *ℤ u) k ∙ ring (u ∷ []) (search quotes depth 30) refl)

other_way : (n u t : ℤ) → n ≡ t *ℤ u → t ≡ negsuc 0 → u ≡ neg_ℤ n
other_way n u t e k =
    let m : neg_ℤ n ≡ neg_ℤ (negsuc 0 *ℤ u) = ap neg_ℤ (e ∙ ap (λ z. z *ℤ u) k) in
    let r : neg_ℤ (negsuc 0 *ℤ u) ≡ u = ring (u ∷ []) (search quotes depth 30) refl in
    sym (m ∙ r)

along : (a b c x y z p q r : ℤ) → a ≡ p → b ≡ q → c ≡ r → a *ℤ x +ℤ b *ℤ y +ℤ c *ℤ z ≡ p *ℤ x +ℤ q *ℤ y +ℤ r *ℤ z
along a b c x y z p q r e f g = rw (e, f, g) refl

along_turned : (x y z p q r : ℤ) → neg_ℤ p *ℤ x +ℤ neg_ℤ q *ℤ y +ℤ neg_ℤ r *ℤ z ≡ neg_ℤ (p *ℤ x +ℤ q *ℤ y +ℤ r *ℤ z)
along_turned x y z p q r = ring (x ∷ y ∷ z ∷ p ∷ q ∷ r ∷ []) (search quotes depth 30) refl

pub one_of : (f : Frame3) (h : Plane3) → IsPrimitive3 f.n → IsSlabPlane f h → IsOneOf f h
one_of f h n s =
    let k = s.primitive.times in
    let one : nat_abs k ≡ 1 =
    n.coprime (nat_abs k) (size_divides k s.direction.x f.n.x s.primitive.along_x) (size_divides k s.direction.y f.n.y s.primitive.along_y) (size_divides k s.direction.z f.n.z s.primitive.along_z) in
    elim (one_or_less s.primitive.times one) [
      | inl e ↦
          let a : h.a ≡ f.n.x = s.a_is ∙ same_way f.n.x s.direction.x s.primitive.times s.primitive.along_x e in
          let b : h.b ≡ f.n.y = s.b_is ∙ same_way f.n.y s.direction.y s.primitive.times s.primitive.along_y e in
          let c : h.c ≡ f.n.z = s.c_is ∙ same_way f.n.z s.direction.z s.primitive.times s.primitive.along_z e in
          inl (of_numbers h f.n.x f.n.y f.n.z (offset f)
          (record { a_is = a; b_is = b; c_is = c; d_is = s.on ∙ along h.a h.b h.c f.o.x f.o.y f.o.z f.n.x f.n.y f.n.z a b c }))
      | inr e ↦
          let a : h.a ≡ neg_ℤ f.n.x = s.a_is ∙ other_way f.n.x s.direction.x s.primitive.times s.primitive.along_x e in
          let b : h.b ≡ neg_ℤ f.n.y = s.b_is ∙ other_way f.n.y s.direction.y s.primitive.times s.primitive.along_y e in
          let c : h.c ≡ neg_ℤ f.n.z = s.c_is ∙ other_way f.n.z s.direction.z s.primitive.times s.primitive.along_z e in
          inr (of_numbers h (neg_ℤ f.n.x) (neg_ℤ f.n.y) (neg_ℤ f.n.z) (neg_ℤ (offset f))
          (record {
            a_is = a;
            b_is = b;
            c_is = c;
            d_is = s.on ∙ along h.a h.b h.c f.o.x f.o.y f.o.z (neg_ℤ f.n.x) (neg_ℤ f.n.y) (neg_ℤ f.n.z) a b c ∙ along_turned f.o.x f.o.y f.o.z f.n.x f.n.y f.n.z;
          }))
    ]

-- ---- values

module _ (f : Frame3) (h : Plane3) (p : P3) where
  facing_value : is_facing f h ≡ true → plane_value h p ≡ rise3 f p
  facing_value e =
      let n = numbers h f.n.x f.n.y f.n.z (offset f) e in
      rw (n.a_is, n.b_is, n.c_is, n.d_is) (same f.n.x f.n.y f.n.z f.o.x f.o.y f.o.z p.x p.y p.z p.w)
    where
      same : (a b c u v t x y z w : ℤ) → a *ℤ x +ℤ b *ℤ y +ℤ c *ℤ z -ℤ (a *ℤ u +ℤ b *ℤ v +ℤ c *ℤ t) *ℤ w ≡ a *ℤ (x -ℤ u *ℤ w) +ℤ b *ℤ (y -ℤ v *ℤ w) +ℤ c *ℤ (z -ℤ t *ℤ w)
      same a b c u v t x y z w = ring (a ∷ b ∷ c ∷ u ∷ v ∷ t ∷ x ∷ y ∷ z ∷ w ∷ []) (search quotes depth 30) refl

  turned_value : is_turned f h ≡ true → plane_value h p ≡ neg_ℤ (rise3 f p)
  turned_value e =
      let n = numbers h (neg_ℤ f.n.x) (neg_ℤ f.n.y) (neg_ℤ f.n.z) (neg_ℤ (offset f)) e in
      rw (n.a_is, n.b_is, n.c_is, n.d_is) (same f.n.x f.n.y f.n.z f.o.x f.o.y f.o.z p.x p.y p.z p.w)
    where
      same : (a b c u v t x y z w : ℤ) → neg_ℤ a *ℤ x +ℤ neg_ℤ b *ℤ y +ℤ neg_ℤ c *ℤ z -ℤ neg_ℤ (a *ℤ u +ℤ b *ℤ v +ℤ c *ℤ t) *ℤ w
          ≡ neg_ℤ (a *ℤ (x -ℤ u *ℤ w) +ℤ b *ℤ (y -ℤ v *ℤ w) +ℤ c *ℤ (z -ℤ t *ℤ w))
      same a b c u v t x y z w = ring (a ∷ b ∷ c ∷ u ∷ v ∷ t ∷ x ∷ y ∷ z ∷ w ∷ []) (search quotes depth 30) refl

on_only : (v : ℤ) → side_of_value v ≡ On → v ≡ pos 0
on_only (pos zero) e = refl
on_only (pos (suc n)) e = cc
on_only (negsuc n) e = cc

-- off the slab's plane by its origin and normal, and by its canonical plane
pub off_plane : (f : Frame3) (h : Plane3) (p : P3) → IsOneOf f h → rise3 f p ≢ pos 0 → plane_side h p ≢ On
off_plane f h p (inl t) n e = n (sym (facing_value f h p t) ∙ on_only (plane_value h p) e)
off_plane f h p (inr t) n e =
    let z : neg_ℤ (rise3 f p) ≡ pos 0 = sym (turned_value f h p t) ∙ on_only (plane_value h p) e in
    n (unturned (rise3 f p) z)
  where
    unturned : (z : ℤ) → neg_ℤ z ≡ pos 0 → z ≡ pos 0
    unturned z e = omega (arith, ints)

pub off_rise : (f : Frame3) (h : Plane3) (p : P3) → IsOneOf f h → plane_side h p ≢ On → rise3 f p ≢ pos 0
off_rise f h p (inl t) n e = n (ap side_of_value (facing_value f h p t ∙ e))
off_rise f h p (inr t) n e = n (ap side_of_value (turned_value f h p t ∙ ap neg_ℤ e))

-- off a plane, Above is a value of at least 0
above_is : (v z : ℤ) → side_of_value v ≢ On → v ≡ z → (side_of_value v ≡ Above) ↔ (pos 0 ≤ℤ z)
above_is (pos zero) z off e = absurd (off refl)
above_is (pos (suc n)) z off e = (λ a. omega (arith, ints), λ a. refl)
above_is (negsuc n) z off e = (λ a. absurd (cc), λ a. absurd (omega (arith, ints)))

-- and not Above one of at most 0, which is the other way round for the opposite value
below_is : (v z : ℤ) → side_of_value v ≢ On → v ≡ neg_ℤ z → (side_of_value v ≡ Above → ⊥) ↔ (pos 0 ≤ℤ z)
below_is (pos zero) z off e = absurd (off refl)
below_is (pos (suc n)) z off e = (λ a. absurd (a refl), λ a. absurd (omega (arith, ints)))
below_is (negsuc n) z off e = (λ a. omega (arith, ints), λ a b. cc)

chained : {A B C : Type 0} → A ↔ B → B ↔ C → A ↔ C
chained f g = (λ a. g.0 (f.0 a), λ c. f.1 (g.1 c))

refused : {A B : Type 0} → A ↔ B → (A → ⊥) ↔ (B → ⊥)
refused f = (λ n b. n (f.1 b), λ n a. n (f.0 a))

bit_is : (mask i : ℕ) → (has_bit mask i ≡ true) ↔ (bit_at mask i ≡ 1)
bit_is mask i = (λ t. eqb-true (bit_at mask i) 1 t, λ e. eq-eqb (bit_at mask i) 1 e)

by_test : (b : Bool) → (b ≡ true) ⊎ (b ≡ false)
by_test true = inl refl
by_test false = inr refl

first_not : {X : Type 0} (P : X → Type 0) (x : X) (xs : List X) → (P x → ⊥) → Any P (x ∷ xs) → Any P xs
first_not P x xs n (zero, y, l, e, q) = absurd (n (subst P (sym e) q))
first_not P x xs n (suc k, y, l, e, q) = (k, y, omega arith, e, q)

neither : (a b : Bool) → a ≡ false → b ≡ false → (a ≡ true) ⊎ (b ≡ true) → ⊥
neither a b e g (inl t) = let q : true ≡ false = sym t ∙ e in cc
neither a b e g (inr t) = let q : true ≡ false = sym t ∙ g in cc

bit_told : (mask i : ℕ) → told_by mask (Some (record { plane = i; above = true })) ≡ has_bit mask i
bit_told mask i = beq_true (has_bit mask i)
  where
    beq_true : (b : Bool) → beq b true ≡ b
    beq_true true = refl
    beq_true false = refl

no_bit_told : (mask i : ℕ) → told_by mask (Some (record { plane = i; above = false })) ≡ not (has_bit mask i)
no_bit_told mask i = beq_false (has_bit mask i)
  where
    beq_false : (b : Bool) → beq b false ≡ not b
    beq_false true = refl
    beq_false false = refl

-- the slab holds the points above it: the mask has the bits of the planes, of which the first has bit i
pub slab_side : (mask : ℕ) (f : Frame3) (p : P3) (i : ℕ) (hs : List Plane3)
    → ((k : ℕ) (h : Plane3) → slice_get hs k ≡ Some h → (bit_at mask (i + k) ≡ 1) ↔ (plane_side h p ≡ Above))
    → All (λ h. plane_side h p ≢ On) hs → Any (IsOneOf f) hs
    → (told_by mask (literal_from f i hs) ≡ true) ↔ (pos 0 ≤ℤ rise3 f p)
slab_side mask f p i [] bits off one = let l = one.2 in absurd (omega arith)
slab_side mask f p i (h ∷ hs) bits off one =
    let zero_bit : (bit_at mask i ≡ 1) ↔ (plane_side h p ≡ Above) = subst (λ (j : ℕ). (bit_at mask j ≡ 1) ↔ (plane_side h p ≡ Above)) (omega arith) (bits 0 h refl) in
    let here = chained (bit_is mask i) zero_bit in
    let away = All-head (λ h. plane_side h p ≢ On) h hs off in
    let above : Option Literal = Some (record { plane = i; above = true }) in
    let below : Option Literal = Some (record { plane = i; above = false }) in
    elim (by_test (is_facing f h)) [
      | inl t ↦
          let told : told_by mask (literal_from f i (h ∷ hs)) ≡ has_bit mask i = ap (λ b. told_by mask (if b then above else (if is_turned f h then below else literal_from f (i + 1) hs))) t ∙ bit_told mask i in
          subst (λ b. (b ≡ true) ↔ (pos 0 ≤ℤ rise3 f p)) (sym told) (chained here (above_is (plane_value h p) (rise3 f p) away (facing_value f h p t)))
      | inr n ↦
          let next : told_by mask (literal_from f i (h ∷ hs)) ≡ told_by mask (if is_turned f h then below else literal_from f (i + 1) hs) = ap (λ b. told_by mask (if b then above else (if is_turned f h then below else literal_from f (i + 1) hs))) n in
          elim (by_test (is_turned f h)) [
            | inl t ↦
                let told : told_by mask (literal_from f i (h ∷ hs)) ≡ not (has_bit mask i) = next ∙ ap (λ b. told_by mask (if b then below else literal_from f (i + 1) hs)) t ∙ no_bit_told mask i in
                subst (λ b. (b ≡ true) ↔ (pos 0 ≤ℤ rise3 f p)) (sym told)
                (chained (turned (plane_side h p ≡ Above) (has_bit mask i) here) (below_is (plane_value h p) (rise3 f p) away (turned_value f h p t)))
            | inr m ↦
                let told : told_by mask (literal_from f i (h ∷ hs)) ≡ told_by mask (literal_from f (i + 1) hs) = next ∙ ap (λ b. told_by mask (if b then below else literal_from f (i + 1) hs)) m in
                subst (λ b. (b ≡ true) ↔ (pos 0 ≤ℤ rise3 f p)) (sym told)
                (slab_side mask f p (i + 1) hs
                (λ k g e. subst (λ (j : ℕ). (bit_at mask j ≡ 1) ↔ (plane_side g p ≡ Above)) (omega arith) (bits (suc k) g e))
                (All-tail (λ h. plane_side h p ≢ On) h hs off)
                (first_not (IsOneOf f) h hs (neither (is_facing f h) (is_turned f h) n m) one))
          ]
    ]
