-- The plane through three places that are not on one line: which places it has.
use Rattle.std.proofs.Common.{◌≡◌, ◌≢◌, inl, inr, ℕ, ◌+◌, ◌<◌, [], ◌∷◌, arith, refl, sym, ap, ◌∙◌}
use Rattle.std.specs.Prelude.{unsigned_abs}
use lib.IntN.{ℤ, pos, negsuc, ◌+ℤ◌, ◌-ℤ◌, ◌*ℤ◌, neg_ℤ}
use Rattle.bc_algebra.proofs.Ring.{ring, quotes, by_two, by_three}
use Rattle.bc_algebra.proofs.Order.{zero_factor}
use Rattle.bc_num.specs.declared.v3.V3.{V3}
use Rattle.bc_space.specs.declared.plane3.Plane3.{Plane3}
use Rattle.bc_space.specs.PlanesThrough.{AreCollinear, normal_to, IsPlaneThrough}
use Rattle.bc_solid.specs.Facets.{IsOnPlane}
use Rattle.bc_solid.proofs.Collinear.{zero_by, apart_along}

-- ---- the place of a plane, by the way from another of its places

-- from a to v, along the normal of g
along_from : (ga gb gc gd ax ay az vx vy vz : ℤ) → gd ≡ ga *ℤ ax +ℤ gb *ℤ ay +ℤ gc *ℤ az → gd ≡ ga *ℤ vx +ℤ gb *ℤ vy +ℤ gc *ℤ vz
    → ga *ℤ (vx -ℤ ax) +ℤ gb *ℤ (vy -ℤ ay) +ℤ gc *ℤ (vz -ℤ az) ≡ pos 0
along_from ga gb gc gd ax ay az vx vy vz h k =
    by_two (pos 1) (negsuc 0) h k (ring (ga ∷ gb ∷ gc ∷ gd ∷ ax ∷ ay ∷ az ∷ vx ∷ vy ∷ vz ∷ []) (search quotes depth 30) refl)

on_from : (ga gb gc gd ax ay az vx vy vz : ℤ) → gd ≡ ga *ℤ ax +ℤ gb *ℤ ay +ℤ gc *ℤ az → ga *ℤ (vx -ℤ ax) +ℤ gb *ℤ (vy -ℤ ay) +ℤ gc *ℤ (vz -ℤ az) ≡ pos 0
    → gd ≡ ga *ℤ vx +ℤ gb *ℤ vy +ℤ gc *ℤ vz
on_from ga gb gc gd ax ay az vx vy vz h k =
    by_two (pos 1) (negsuc 0) h k (ring (ga ∷ gb ∷ gc ∷ gd ∷ ax ∷ ay ∷ az ∷ vx ∷ vy ∷ vz ∷ []) (search quotes depth 30) refl)

-- ---- the line of two different places of a plane is on it

line_one : (h1 h2 h3 u1 u2 u3 t1 t2 t3 : ℤ) → h1 *ℤ u1 +ℤ h2 *ℤ u2 +ℤ h3 *ℤ u3 ≡ pos 0 → u3 *ℤ t1 -ℤ u1 *ℤ t3 ≡ pos 0 → u1 *ℤ t2 -ℤ u2 *ℤ t1 ≡ pos 0
    → u1 *ℤ (h1 *ℤ t1 +ℤ h2 *ℤ t2 +ℤ h3 *ℤ t3) ≡ pos 0
line_one h1 h2 h3 u1 u2 u3 t1 t2 t3 e a2 a3 =
    by_three t1 (neg_ℤ h3) h2 e a2 a3 (ring (h1 ∷ h2 ∷ h3 ∷ u1 ∷ u2 ∷ u3 ∷ t1 ∷ t2 ∷ t3 ∷ []) (search quotes depth 30) refl)

line_two : (h1 h2 h3 u1 u2 u3 t1 t2 t3 : ℤ) → h1 *ℤ u1 +ℤ h2 *ℤ u2 +ℤ h3 *ℤ u3 ≡ pos 0 → u2 *ℤ t3 -ℤ u3 *ℤ t2 ≡ pos 0 → u1 *ℤ t2 -ℤ u2 *ℤ t1 ≡ pos 0
    → u2 *ℤ (h1 *ℤ t1 +ℤ h2 *ℤ t2 +ℤ h3 *ℤ t3) ≡ pos 0
line_two h1 h2 h3 u1 u2 u3 t1 t2 t3 e a1 a3 =
    by_three t2 h3 (neg_ℤ h1) e a1 a3 (ring (h1 ∷ h2 ∷ h3 ∷ u1 ∷ u2 ∷ u3 ∷ t1 ∷ t2 ∷ t3 ∷ []) (search quotes depth 30) refl)

line_three : (h1 h2 h3 u1 u2 u3 t1 t2 t3 : ℤ) → h1 *ℤ u1 +ℤ h2 *ℤ u2 +ℤ h3 *ℤ u3 ≡ pos 0 → u2 *ℤ t3 -ℤ u3 *ℤ t2 ≡ pos 0 → u3 *ℤ t1 -ℤ u1 *ℤ t3 ≡ pos 0
    → u3 *ℤ (h1 *ℤ t1 +ℤ h2 *ℤ t2 +ℤ h3 *ℤ t3) ≡ pos 0
line_three h1 h2 h3 u1 u2 u3 t1 t2 t3 e a1 a2 =
    by_three t3 (neg_ℤ h2) h1 e a1 a2 (ring (h1 ∷ h2 ∷ h3 ∷ u1 ∷ u2 ∷ u3 ∷ t1 ∷ t2 ∷ t3 ∷ []) (search quotes depth 30) refl)

pub line_on_plane : (a b v : V3) (h : Plane3) → a ≢ b → IsOnPlane h a → IsOnPlane h b → AreCollinear a b v → IsOnPlane h v
line_on_plane a b v h n ha hb l =
    let e = along_from h.a h.b h.c h.d a.x a.y a.z b.x b.y b.z ha hb in
    on_from h.a h.b h.c h.d a.x a.y a.z v.x v.y v.z ha
    (zero_by (b.x -ℤ a.x) (b.y -ℤ a.y) (b.z -ℤ a.z) (h.a *ℤ (v.x -ℤ a.x) +ℤ h.b *ℤ (v.y -ℤ a.y) +ℤ h.c *ℤ (v.z -ℤ a.z)) (apart_along a b n)
    (line_one h.a h.b h.c (b.x -ℤ a.x) (b.y -ℤ a.y) (b.z -ℤ a.z) (v.x -ℤ a.x) (v.y -ℤ a.y) (v.z -ℤ a.z) e l.along_y l.along_z)
    (line_two h.a h.b h.c (b.x -ℤ a.x) (b.y -ℤ a.y) (b.z -ℤ a.z) (v.x -ℤ a.x) (v.y -ℤ a.y) (v.z -ℤ a.z) e l.along_x l.along_z)
    (line_three h.a h.b h.c (b.x -ℤ a.x) (b.y -ℤ a.y) (b.z -ℤ a.z) (v.x -ℤ a.x) (v.y -ℤ a.y) (v.z -ℤ a.z) e l.along_x l.along_y))

-- ---- a plane that has three places of h that are not on one line has no others than h

-- u, w and t are along a plane with normal g, so t is along u and w
module _ (g1 g2 g3 u1 u2 u3 w1 w2 w3 t1 t2 t3 : ℤ)
    (gu : g1 *ℤ u1 +ℤ g2 *ℤ u2 +ℤ g3 *ℤ u3 ≡ pos 0) (gw : g1 *ℤ w1 +ℤ g2 *ℤ w2 +ℤ g3 *ℤ w3 ≡ pos 0) (gt : g1 *ℤ t1 +ℤ g2 *ℤ t2 +ℤ g3 *ℤ t3 ≡ pos 0) where
  abbrev volume : ℤ
  volume = (u2 *ℤ w3 -ℤ u3 *ℤ w2) *ℤ t1 +ℤ (u3 *ℤ w1 -ℤ u1 *ℤ w3) *ℤ t2 +ℤ (u1 *ℤ w2 -ℤ u2 *ℤ w1) *ℤ t3

  volume_one : g1 *ℤ volume ≡ pos 0
  volume_one =
      by_three (u2 *ℤ w3 -ℤ u3 *ℤ w2) (t2 *ℤ u3 -ℤ t3 *ℤ u2) (t3 *ℤ w2 -ℤ t2 *ℤ w3) gt gw gu
      (ring (g1 ∷ g2 ∷ g3 ∷ u1 ∷ u2 ∷ u3 ∷ w1 ∷ w2 ∷ w3 ∷ t1 ∷ t2 ∷ t3 ∷ []) (search quotes depth 30) refl)

  volume_two : g2 *ℤ volume ≡ pos 0
  volume_two =
      by_three (u3 *ℤ w1 -ℤ u1 *ℤ w3) (t3 *ℤ u1 -ℤ t1 *ℤ u3) (t1 *ℤ w3 -ℤ t3 *ℤ w1) gt gw gu
      (ring (g1 ∷ g2 ∷ g3 ∷ u1 ∷ u2 ∷ u3 ∷ w1 ∷ w2 ∷ w3 ∷ t1 ∷ t2 ∷ t3 ∷ []) (search quotes depth 30) refl)

  volume_three : g3 *ℤ volume ≡ pos 0
  volume_three =
      by_three (u1 *ℤ w2 -ℤ u2 *ℤ w1) (t1 *ℤ u2 -ℤ t2 *ℤ u1) (t2 *ℤ w1 -ℤ t1 *ℤ w2) gt gw gu
      (ring (g1 ∷ g2 ∷ g3 ∷ u1 ∷ u2 ∷ u3 ∷ w1 ∷ w2 ∷ w3 ∷ t1 ∷ t2 ∷ t3 ∷ []) (search quotes depth 30) refl)

  no_volume : (g1 ≡ pos 0 → g2 ≡ pos 0 → g3 ≡ pos 0 → ⊥) → volume ≡ pos 0
  no_volume some = zero_by g1 g2 g3 volume some volume_one volume_two volume_three

-- the normal n is k times h
shorter : (n1 n2 n3 h1 h2 h3 k t1 t2 t3 : ℤ) → n1 ≡ k *ℤ h1 → n2 ≡ k *ℤ h2 → n3 ≡ k *ℤ h3 → n1 *ℤ t1 +ℤ n2 *ℤ t2 +ℤ n3 *ℤ t3 ≡ k *ℤ (h1 *ℤ t1 +ℤ h2 *ℤ t2 +ℤ h3 *ℤ t3)
shorter n1 n2 n3 h1 h2 h3 k t1 t2 t3 e1 e2 e3 =
    by_three t1 t2 t3 e1 e2 e3 (ring (n1 ∷ n2 ∷ n3 ∷ h1 ∷ h2 ∷ h3 ∷ k ∷ t1 ∷ t2 ∷ t3 ∷ []) (search quotes depth 30) refl)

cancelled : (k z : ℤ) → k ≢ pos 0 → k *ℤ z ≡ pos 0 → z ≡ pos 0
cancelled k z n h = elim (zero_factor k z h) [ inl e ↦ absurd (n e) | inr e ↦ e ]

-- a normal is not zero
some_normal : (g : Plane3) → g.a ≡ pos 0 → g.b ≡ pos 0 → g.c ≡ pos 0 → ⊥
some_normal g ea eb ec = none (unsigned_abs g.a) (unsigned_abs g.b) (unsigned_abs g.c) g.normal (ap unsigned_abs ea) (ap unsigned_abs eb) (ap unsigned_abs ec)
  where
    none : (x y z : ℕ) → 0 < x + y + z → x ≡ 0 → y ≡ 0 → z ≡ 0 → ⊥
    none x y z h ex ey ez = omega arith

pub on_one_plane : (a b c v : V3) (h g : Plane3) → IsPlaneThrough a b c h → IsOnPlane g a → IsOnPlane g b → IsOnPlane g c → IsOnPlane g v → IsOnPlane h v
on_one_plane a b c v h g t ga gb gc gv =
    let gu = along_from g.a g.b g.c g.d a.x a.y a.z b.x b.y b.z ga gb in
    let gw = along_from g.a g.b g.c g.d a.x a.y a.z c.x c.y c.z ga gc in
    let gt = along_from g.a g.b g.c g.d a.x a.y a.z v.x v.y v.z ga gv in
    let z = no_volume g.a g.b g.c (b.x -ℤ a.x) (b.y -ℤ a.y) (b.z -ℤ a.z) (c.x -ℤ a.x) (c.y -ℤ a.y) (c.z -ℤ a.z) (v.x -ℤ a.x) (v.y -ℤ a.y) (v.z -ℤ a.z) gu gw gt (some_normal g) in
    let p = t.primitive in
    let n = normal_to a b c in
    let e = shorter n.x n.y n.z h.a h.b h.c p.times (v.x -ℤ a.x) (v.y -ℤ a.y) (v.z -ℤ a.z)
    (p.along_x ∙ ap (λ (x : ℤ). p.times *ℤ x) (sym t.a_is)) (p.along_y ∙ ap (λ (x : ℤ). p.times *ℤ x) (sym t.b_is)) (p.along_z ∙ ap (λ (x : ℤ). p.times *ℤ x) (sym t.c_is)) in
    on_from h.a h.b h.c h.d a.x a.y a.z v.x v.y v.z t.on_a
    (cancelled p.times (h.a *ℤ (v.x -ℤ a.x) +ℤ h.b *ℤ (v.y -ℤ a.y) +ℤ h.c *ℤ (v.z -ℤ a.z)) p.some (sym e ∙ z))
