-- An axis slab or strip is the box of its short form.
use Rattle.std.proofs.Common.{◌≡◌, [], ◌∷◌, ◌↔◌, inl, inr, refl, arith, subst, sym}
use Rattle.std.proofs.lemmas.Int.{ints}
use lib.IntN.{ℤ, pos, negsuc, ◌+ℤ◌, ◌-ℤ◌, ◌*ℤ◌, neg_ℤ}
use Rattle.bc_algebra.proofs.Ring.{ring, quotes}
use Rattle.bc_num.specs.Directions.{IsPrimitive2}
use Rattle.bc_num.specs.Directions3.{IsPrimitive3}
use Rattle.bc_tree.specs.Leaves.{IsBetween, InSlab, InStrip}
use Rattle.bc_tree.specs.Axis.{IsAxis2, IsAxis3, IsAlongSide, InShort2, InShort3, corner_at, side_at}
use Rattle.bc_tree.specs.Solved.{slab_place, strip_at, place_at}
use Rattle.bc_num.specs.declared.v2.V2.{V2}
use Rattle.bc_num.specs.declared.v3.V3.{V3}
use Rattle.bc_num.specs.declared.p2.P2.{P2}
use Rattle.bc_num.specs.declared.p3.P3.{P3}
use Rattle.bc_tree.specs.declared.frame.Frame2.{Frame2}
use Rattle.bc_tree.specs.declared.frame.Frame3.{Frame3}
use Rattle.bc_tree.proofs.Frames.{place_is, place_same}
use Rattle.bc_tree.proofs.Decides.{Reached2, Reached3, in_solved, solved_in, normal_of-primitive, strip_solved, solved_strip}

-- ---- one axis: s or k over q against the range of x

-- x over w is in the box along an axis, for the origin o and the normal n
abbrev Ranges : ℤ → ℤ → ℤ → ℤ → Type 0
Ranges o n x w = IsAlongSide (corner_at o n) (side_at n) x w

abbrev Across : ℤ → ℤ → ℤ → ℤ → ℤ → Type 0
Across s q o x w = IsBetween (neg_ℤ (pos 8192) *ℤ q) s (pos 8192 *ℤ q) ↔ Ranges o (pos 0) x w

low_is : (o w : ℤ) → (o -ℤ pos 8192) *ℤ w ≡ o *ℤ w -ℤ pos 8192 *ℤ w
low_is o w = ring (o ∷ w ∷ []) (search quotes depth 30) refl

wide_is : (o w : ℤ) → (o -ℤ pos 8192 +ℤ pos 16384) *ℤ w ≡ o *ℤ w +ℤ pos 8192 *ℤ w
wide_is o w = ring (o ∷ w ∷ []) (search quotes depth 30) refl

high_is : (o w : ℤ) → (o +ℤ pos 8192) *ℤ w ≡ o *ℤ w +ℤ pos 8192 *ℤ w
high_is o w = ring (o ∷ w ∷ []) (search quotes depth 30) refl

back_is : (o w : ℤ) → (o -ℤ pos 8192 +ℤ pos 8192) *ℤ w ≡ o *ℤ w
back_is o w = ring (o ∷ w ∷ []) (search quotes depth 30) refl

across : (s q o x w : ℤ) → s ≡ x -ℤ o *ℤ w → q ≡ w → Across s q o x w
across s q o x w e f =
    let l = low_is o w in
    let h = wide_is o w in (
      λ b. let m = b.least in let n = b.most in record { least = omega (arith, ints); most = omega (arith, ints) },
      λ b. let m = b.least in let n = b.most in record { least = omega (arith, ints); most = omega (arith, ints) },
    )

against : (s q o x w : ℤ) → s ≡ neg_ℤ (x -ℤ o *ℤ w) → q ≡ w → Across s q o x w
against s q o x w e f =
    let l = low_is o w in
    let h = wide_is o w in (
      λ b. let m = b.least in let n = b.most in record { least = omega (arith, ints); most = omega (arith, ints) },
      λ b. let m = b.least in let n = b.most in record { least = omega (arith, ints); most = omega (arith, ints) },
    )

up : (k q o x w : ℤ) → k ≡ x -ℤ o *ℤ w → q ≡ w → IsBetween (pos 0) k (pos 8192 *ℤ q) ↔ Ranges o (pos 1) x w
up k q o x w e f =
    let h = high_is o w in (
      λ b. let m = b.least in let n = b.most in record { least = omega (arith, ints); most = omega (arith, ints) },
      λ b. let m = b.least in let n = b.most in record { least = omega (arith, ints); most = omega (arith, ints) },
    )

down : (k q o x w : ℤ) → k ≡ neg_ℤ (x -ℤ o *ℤ w) → q ≡ w → IsBetween (pos 0) k (pos 8192 *ℤ q) ↔ Ranges o (negsuc 0) x w
down k q o x w e f =
    let l = low_is o w in
    let h = back_is o w in (
      λ b. let m = b.least in let n = b.most in record { least = omega (arith, ints); most = omega (arith, ints) },
      λ b. let m = b.least in let n = b.most in record { least = omega (arith, ints); most = omega (arith, ints) },
    )

-- ---- slab
abbrev vector : ℤ → ℤ → ℤ → V3
vector a b c = record { x = a; y = b; z = c }

abbrev Short : V3 → P3 → ℤ → ℤ → ℤ → Type 0
Short o p a b c = Reached3 (place_at a b c (p.x -ℤ o.x *ℤ p.w) (p.y -ℤ o.y *ℤ p.w) (p.z -ℤ o.z *ℤ p.w) p.w) ↔ InShort3 (record { o = o; n = vector a b c }) p

x_up : (o : V3) (p : P3) → Short o p (pos 1) (pos 0) (pos 0)
x_up o p =
    let e = place_at (pos 1) (pos 0) (pos 0) (p.x -ℤ o.x *ℤ p.w) (p.y -ℤ o.y *ℤ p.w) (p.z -ℤ o.z *ℤ p.w) p.w in
    let es : e.s ≡ neg_ℤ (p.y -ℤ o.y *ℤ p.w) = ring (o.x ∷ o.y ∷ o.z ∷ p.x ∷ p.y ∷ p.z ∷ p.w ∷ []) (search quotes depth 40) refl in
    let et : e.t ≡ neg_ℤ (p.z -ℤ o.z *ℤ p.w) = ring (o.x ∷ o.y ∷ o.z ∷ p.x ∷ p.y ∷ p.z ∷ p.w ∷ []) (search quotes depth 40) refl in
    let ek : e.k ≡ p.x -ℤ o.x *ℤ p.w = ring (o.x ∷ o.y ∷ o.z ∷ p.x ∷ p.y ∷ p.z ∷ p.w ∷ []) (search quotes depth 40) refl in
    let eq : e.q ≡ p.w = ring (o.x ∷ o.y ∷ o.z ∷ p.x ∷ p.y ∷ p.z ∷ p.w ∷ []) (search quotes depth 40) refl in
    let is = against e.s e.q o.y p.y p.w es eq in
    let it = against e.t e.q o.z p.z p.w et eq in
    let ik = up e.k e.q o.x p.x p.w ek eq in (
      λ r. record { along_x = ik.0 (r.1.1); along_y = is.0 (r.0); along_z = it.0 (r.1.0) },
      λ r. (is.1 r.along_y, (it.1 r.along_z, ik.1 r.along_x)),
    )

x_down : (o : V3) (p : P3) → Short o p (negsuc 0) (pos 0) (pos 0)
x_down o p =
    let e = place_at (negsuc 0) (pos 0) (pos 0) (p.x -ℤ o.x *ℤ p.w) (p.y -ℤ o.y *ℤ p.w) (p.z -ℤ o.z *ℤ p.w) p.w in
    let es : e.s ≡ p.y -ℤ o.y *ℤ p.w = ring (o.x ∷ o.y ∷ o.z ∷ p.x ∷ p.y ∷ p.z ∷ p.w ∷ []) (search quotes depth 40) refl in
    let et : e.t ≡ p.z -ℤ o.z *ℤ p.w = ring (o.x ∷ o.y ∷ o.z ∷ p.x ∷ p.y ∷ p.z ∷ p.w ∷ []) (search quotes depth 40) refl in
    let ek : e.k ≡ neg_ℤ (p.x -ℤ o.x *ℤ p.w) = ring (o.x ∷ o.y ∷ o.z ∷ p.x ∷ p.y ∷ p.z ∷ p.w ∷ []) (search quotes depth 40) refl in
    let eq : e.q ≡ p.w = ring (o.x ∷ o.y ∷ o.z ∷ p.x ∷ p.y ∷ p.z ∷ p.w ∷ []) (search quotes depth 40) refl in
    let is = across e.s e.q o.y p.y p.w es eq in
    let it = across e.t e.q o.z p.z p.w et eq in
    let ik = down e.k e.q o.x p.x p.w ek eq in (
      λ r. record { along_x = ik.0 (r.1.1); along_y = is.0 (r.0); along_z = it.0 (r.1.0) },
      λ r. (is.1 r.along_y, (it.1 r.along_z, ik.1 r.along_x)),
    )

y_up : (o : V3) (p : P3) → Short o p (pos 0) (pos 1) (pos 0)
y_up o p =
    let e = place_at (pos 0) (pos 1) (pos 0) (p.x -ℤ o.x *ℤ p.w) (p.y -ℤ o.y *ℤ p.w) (p.z -ℤ o.z *ℤ p.w) p.w in
    let es : e.s ≡ p.x -ℤ o.x *ℤ p.w = ring (o.x ∷ o.y ∷ o.z ∷ p.x ∷ p.y ∷ p.z ∷ p.w ∷ []) (search quotes depth 40) refl in
    let et : e.t ≡ neg_ℤ (p.z -ℤ o.z *ℤ p.w) = ring (o.x ∷ o.y ∷ o.z ∷ p.x ∷ p.y ∷ p.z ∷ p.w ∷ []) (search quotes depth 40) refl in
    let ek : e.k ≡ p.y -ℤ o.y *ℤ p.w = ring (o.x ∷ o.y ∷ o.z ∷ p.x ∷ p.y ∷ p.z ∷ p.w ∷ []) (search quotes depth 40) refl in
    let eq : e.q ≡ p.w = ring (o.x ∷ o.y ∷ o.z ∷ p.x ∷ p.y ∷ p.z ∷ p.w ∷ []) (search quotes depth 40) refl in
    let is = across e.s e.q o.x p.x p.w es eq in
    let it = against e.t e.q o.z p.z p.w et eq in
    let ik = up e.k e.q o.y p.y p.w ek eq in (
      λ r. record { along_x = is.0 (r.0); along_y = ik.0 (r.1.1); along_z = it.0 (r.1.0) },
      λ r. (is.1 r.along_x, (it.1 r.along_z, ik.1 r.along_y)),
    )

y_down : (o : V3) (p : P3) → Short o p (pos 0) (negsuc 0) (pos 0)
y_down o p =
    let e = place_at (pos 0) (negsuc 0) (pos 0) (p.x -ℤ o.x *ℤ p.w) (p.y -ℤ o.y *ℤ p.w) (p.z -ℤ o.z *ℤ p.w) p.w in
    let es : e.s ≡ p.x -ℤ o.x *ℤ p.w = ring (o.x ∷ o.y ∷ o.z ∷ p.x ∷ p.y ∷ p.z ∷ p.w ∷ []) (search quotes depth 40) refl in
    let et : e.t ≡ p.z -ℤ o.z *ℤ p.w = ring (o.x ∷ o.y ∷ o.z ∷ p.x ∷ p.y ∷ p.z ∷ p.w ∷ []) (search quotes depth 40) refl in
    let ek : e.k ≡ neg_ℤ (p.y -ℤ o.y *ℤ p.w) = ring (o.x ∷ o.y ∷ o.z ∷ p.x ∷ p.y ∷ p.z ∷ p.w ∷ []) (search quotes depth 40) refl in
    let eq : e.q ≡ p.w = ring (o.x ∷ o.y ∷ o.z ∷ p.x ∷ p.y ∷ p.z ∷ p.w ∷ []) (search quotes depth 40) refl in
    let is = across e.s e.q o.x p.x p.w es eq in
    let it = across e.t e.q o.z p.z p.w et eq in
    let ik = down e.k e.q o.y p.y p.w ek eq in (
      λ r. record { along_x = is.0 (r.0); along_y = ik.0 (r.1.1); along_z = it.0 (r.1.0) },
      λ r. (is.1 r.along_x, (it.1 r.along_z, ik.1 r.along_y)),
    )

z_up : (o : V3) (p : P3) → Short o p (pos 0) (pos 0) (pos 1)
z_up o p =
    let e = place_at (pos 0) (pos 0) (pos 1) (p.x -ℤ o.x *ℤ p.w) (p.y -ℤ o.y *ℤ p.w) (p.z -ℤ o.z *ℤ p.w) p.w in
    let es : e.s ≡ p.x -ℤ o.x *ℤ p.w = ring (o.x ∷ o.y ∷ o.z ∷ p.x ∷ p.y ∷ p.z ∷ p.w ∷ []) (search quotes depth 40) refl in
    let et : e.t ≡ p.y -ℤ o.y *ℤ p.w = ring (o.x ∷ o.y ∷ o.z ∷ p.x ∷ p.y ∷ p.z ∷ p.w ∷ []) (search quotes depth 40) refl in
    let ek : e.k ≡ p.z -ℤ o.z *ℤ p.w = ring (o.x ∷ o.y ∷ o.z ∷ p.x ∷ p.y ∷ p.z ∷ p.w ∷ []) (search quotes depth 40) refl in
    let eq : e.q ≡ p.w = ring (o.x ∷ o.y ∷ o.z ∷ p.x ∷ p.y ∷ p.z ∷ p.w ∷ []) (search quotes depth 40) refl in
    let is = across e.s e.q o.x p.x p.w es eq in
    let it = across e.t e.q o.y p.y p.w et eq in
    let ik = up e.k e.q o.z p.z p.w ek eq in (
      λ r. record { along_x = is.0 (r.0); along_y = it.0 (r.1.0); along_z = ik.0 (r.1.1) },
      λ r. (is.1 r.along_x, (it.1 r.along_y, ik.1 r.along_z)),
    )

z_down : (o : V3) (p : P3) → Short o p (pos 0) (pos 0) (negsuc 0)
z_down o p =
    let e = place_at (pos 0) (pos 0) (negsuc 0) (p.x -ℤ o.x *ℤ p.w) (p.y -ℤ o.y *ℤ p.w) (p.z -ℤ o.z *ℤ p.w) p.w in
    let es : e.s ≡ p.x -ℤ o.x *ℤ p.w = ring (o.x ∷ o.y ∷ o.z ∷ p.x ∷ p.y ∷ p.z ∷ p.w ∷ []) (search quotes depth 40) refl in
    let et : e.t ≡ p.y -ℤ o.y *ℤ p.w = ring (o.x ∷ o.y ∷ o.z ∷ p.x ∷ p.y ∷ p.z ∷ p.w ∷ []) (search quotes depth 40) refl in
    let ek : e.k ≡ neg_ℤ (p.z -ℤ o.z *ℤ p.w) = ring (o.x ∷ o.y ∷ o.z ∷ p.x ∷ p.y ∷ p.z ∷ p.w ∷ []) (search quotes depth 40) refl in
    let eq : e.q ≡ p.w = ring (o.x ∷ o.y ∷ o.z ∷ p.x ∷ p.y ∷ p.z ∷ p.w ∷ []) (search quotes depth 40) refl in
    let is = across e.s e.q o.x p.x p.w es eq in
    let it = across e.t e.q o.y p.y p.w et eq in
    let ik = down e.k e.q o.z p.z p.w ek eq in (
      λ r. record { along_x = is.0 (r.0); along_y = it.0 (r.1.0); along_z = ik.0 (r.1.1) },
      λ r. (is.1 r.along_x, (it.1 r.along_y, ik.1 r.along_z)),
    )

moved3 : (P : ℤ → ℤ → ℤ → Type 0) (a b c a' b' c' : ℤ) → a ≡ a' → b ≡ b' → c ≡ c' → P a' b' c' → P a b c
moved3 P a b c a' b' c' e f g h = subst (λ i. P i b c) (sym e) (subst (λ i. P a' i c) (sym f) (subst (λ i. P a' b' i) (sym g) h))

short3 : (o : V3) (p : P3) (a b c : ℤ) → IsAxis3 (vector a b c) → Short o p a b c
short3 o p a b c (inl h) = elim h.0 [
  | inl e ↦ moved3 (Short o p) a b c (pos 1) (pos 0) (pos 0) e h.1 h.2 (x_up o p)
  | inr e ↦ moved3 (Short o p) a b c (negsuc 0) (pos 0) (pos 0) e h.1 h.2 (x_down o p)
]
short3 o p a b c (inr (inl h)) = elim h.0 [
  | inl e ↦ moved3 (Short o p) a b c (pos 0) (pos 1) (pos 0) h.1 e h.2 (y_up o p)
  | inr e ↦ moved3 (Short o p) a b c (pos 0) (negsuc 0) (pos 0) h.1 e h.2 (y_down o p)
]
short3 o p a b c (inr (inr h)) = elim h.0 [
  | inl e ↦ moved3 (Short o p) a b c (pos 0) (pos 0) (pos 1) h.1 h.2 e (z_up o p)
  | inr e ↦ moved3 (Short o p) a b c (pos 0) (pos 0) (negsuc 0) h.1 h.2 e (z_down o p)
]

pub slab_short : (f : Frame3) → IsPrimitive3 f.n → IsAxis3 f.n → (p : P3) → (InSlab f p ↔ InShort3 f p)
slab_short f n h p =
    let e = slab_place f p in
    let i = place_is f.n.x f.n.y f.n.z f.o p (normal_of-primitive f.n n) in
    let g = short3 f.o p f.n.x f.n.y f.n.z h in
    (λ r. g.0 (solved_in f p e i.positive (place_same f.n.x f.n.y f.n.z f.o p) r), λ r. in_solved f p e i (g.1 r))

-- ---- strip
abbrev pair : ℤ → ℤ → V2
pair a b = record { x = a; y = b }

abbrev Short2 : V2 → P2 → ℤ → ℤ → Type 0
Short2 o p a b = Reached2 (strip_at a b (p.x -ℤ o.x *ℤ p.w) (p.y -ℤ o.y *ℤ p.w) p.w) ↔ InShort2 (record { o = o; u = pair a b }) p

right : (o : V2) (p : P2) → Short2 o p (pos 1) (pos 0)
right o p =
    let e = strip_at (pos 1) (pos 0) (p.x -ℤ o.x *ℤ p.w) (p.y -ℤ o.y *ℤ p.w) p.w in
    let es : e.s ≡ p.x -ℤ o.x *ℤ p.w = ring (o.x ∷ o.y ∷ p.x ∷ p.y ∷ p.w ∷ []) (search quotes depth 40) refl in
    let ek : e.k ≡ p.y -ℤ o.y *ℤ p.w = ring (o.x ∷ o.y ∷ p.x ∷ p.y ∷ p.w ∷ []) (search quotes depth 40) refl in
    let eq : e.q ≡ p.w = ring (o.x ∷ o.y ∷ p.x ∷ p.y ∷ p.w ∷ []) (search quotes depth 40) refl in
    let is = across e.s e.q o.x p.x p.w es eq in
    let ik = up e.k e.q o.y p.y p.w ek eq in
    (λ r. record { along_x = is.0 r.0; along_y = ik.0 r.1 }, λ r. (is.1 r.along_x, ik.1 r.along_y))

left : (o : V2) (p : P2) → Short2 o p (negsuc 0) (pos 0)
left o p =
    let e = strip_at (negsuc 0) (pos 0) (p.x -ℤ o.x *ℤ p.w) (p.y -ℤ o.y *ℤ p.w) p.w in
    let es : e.s ≡ neg_ℤ (p.x -ℤ o.x *ℤ p.w) = ring (o.x ∷ o.y ∷ p.x ∷ p.y ∷ p.w ∷ []) (search quotes depth 40) refl in
    let ek : e.k ≡ neg_ℤ (p.y -ℤ o.y *ℤ p.w) = ring (o.x ∷ o.y ∷ p.x ∷ p.y ∷ p.w ∷ []) (search quotes depth 40) refl in
    let eq : e.q ≡ p.w = ring (o.x ∷ o.y ∷ p.x ∷ p.y ∷ p.w ∷ []) (search quotes depth 40) refl in
    let is = against e.s e.q o.x p.x p.w es eq in
    let ik = down e.k e.q o.y p.y p.w ek eq in
    (λ r. record { along_x = is.0 r.0; along_y = ik.0 r.1 }, λ r. (is.1 r.along_x, ik.1 r.along_y))

upward : (o : V2) (p : P2) → Short2 o p (pos 0) (pos 1)
upward o p =
    let e = strip_at (pos 0) (pos 1) (p.x -ℤ o.x *ℤ p.w) (p.y -ℤ o.y *ℤ p.w) p.w in
    let es : e.s ≡ p.y -ℤ o.y *ℤ p.w = ring (o.x ∷ o.y ∷ p.x ∷ p.y ∷ p.w ∷ []) (search quotes depth 40) refl in
    let ek : e.k ≡ neg_ℤ (p.x -ℤ o.x *ℤ p.w) = ring (o.x ∷ o.y ∷ p.x ∷ p.y ∷ p.w ∷ []) (search quotes depth 40) refl in
    let eq : e.q ≡ p.w = ring (o.x ∷ o.y ∷ p.x ∷ p.y ∷ p.w ∷ []) (search quotes depth 40) refl in
    let is = across e.s e.q o.y p.y p.w es eq in
    let ik = down e.k e.q o.x p.x p.w ek eq in
    (λ r. record { along_x = ik.0 r.1; along_y = is.0 r.0 }, λ r. (is.1 r.along_y, ik.1 r.along_x))

downward : (o : V2) (p : P2) → Short2 o p (pos 0) (negsuc 0)
downward o p =
    let e = strip_at (pos 0) (negsuc 0) (p.x -ℤ o.x *ℤ p.w) (p.y -ℤ o.y *ℤ p.w) p.w in
    let es : e.s ≡ neg_ℤ (p.y -ℤ o.y *ℤ p.w) = ring (o.x ∷ o.y ∷ p.x ∷ p.y ∷ p.w ∷ []) (search quotes depth 40) refl in
    let ek : e.k ≡ p.x -ℤ o.x *ℤ p.w = ring (o.x ∷ o.y ∷ p.x ∷ p.y ∷ p.w ∷ []) (search quotes depth 40) refl in
    let eq : e.q ≡ p.w = ring (o.x ∷ o.y ∷ p.x ∷ p.y ∷ p.w ∷ []) (search quotes depth 40) refl in
    let is = against e.s e.q o.y p.y p.w es eq in
    let ik = up e.k e.q o.x p.x p.w ek eq in
    (λ r. record { along_x = ik.0 r.1; along_y = is.0 r.0 }, λ r. (is.1 r.along_y, ik.1 r.along_x))

moved2 : (P : ℤ → ℤ → Type 0) (a b a' b' : ℤ) → a ≡ a' → b ≡ b' → P a' b' → P a b
moved2 P a b a' b' e f h = subst (λ i. P i b) (sym e) (subst (λ i. P a' i) (sym f) h)

short2 : (o : V2) (p : P2) (a b : ℤ) → IsAxis2 (pair a b) → Short2 o p a b
short2 o p a b (inl h) = elim h.0 [
  | inl e ↦ moved2 (Short2 o p) a b (pos 1) (pos 0) e h.1 (right o p)
  | inr e ↦ moved2 (Short2 o p) a b (negsuc 0) (pos 0) e h.1 (left o p)
]
short2 o p a b (inr h) = elim h.0 [
  | inl e ↦ moved2 (Short2 o p) a b (pos 0) (pos 1) h.1 e (upward o p)
  | inr e ↦ moved2 (Short2 o p) a b (pos 0) (negsuc 0) h.1 e (downward o p)
]

pub strip_short : (f : Frame2) → IsPrimitive2 f.u → IsAxis2 f.u → (p : P2) → (InStrip f p ↔ InShort2 f p)
strip_short f n h p =
    let g = short2 f.o p f.u.x f.u.y h in
    (λ r. g.0 (solved_strip f p n r), λ r. strip_solved f p n (g.1 r))
