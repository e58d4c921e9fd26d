-- Two points that are not strictly on one side of an edge seen from above: some point between them is over its line.
use Rattle.std.proofs.Common.{◌≡◌, inl, inr, [], ◌∷◌, arith, refl}
use Rattle.std.proofs.lemmas.Int.{ints}
use lib.IntN.{ℤ, pos, ◌+ℤ◌, ◌*ℤ◌, neg_ℤ}
use lib.Signed.{◌≤ℤ◌, ◌<ℤ◌}
use Rattle.bc_algebra.proofs.Ring.{ring, quotes}
use Rattle.bc_algebra.proofs.Order.{lt_by, pos-mul, pos-square, pos_of-mul, pos-add_left, nonneg-mul, nonneg_of-pos}
use Rattle.bc_num.specs.declared.p3.P3.{P3}
use Rattle.bc_space.specs.declared.plane3.Plane3.{Plane3}
use Rattle.bc_space.specs.Planes.{plane_value}
use Rattle.bc_solid.specs.Meshes.{Edge3}
use Rattle.bc_parity.specs.FaceLaws.{IsThrough}
use Rattle.bc_parity.proofs.Signs.{zero_or-not, not_zero-left}
use Rattle.bc_parity.proofs.Planes.{turn_of, IsOverEdge, IsUpright, Level, level}

-- p and q are on one side of the plane, and not on it
abbrev pub IsOneSideOf : Plane3 → P3 → P3 → Type 0
IsOneSideOf h p q = pos 0 <ℤ (plane_value h p *ℤ plane_value h q)

-- the point s p + t q
abbrev blend : (s t : ℤ) (p q : P3) → pos 0 <ℤ (s *ℤ p.w +ℤ t *ℤ q.w) → P3
blend s t p q h = record { x = s *ℤ p.x +ℤ t *ℤ q.x; y = s *ℤ p.y +ℤ t *ℤ q.y; z = s *ℤ p.z +ℤ t *ℤ q.z; w = s *ℤ p.w +ℤ t *ℤ q.w; positive = h }

-- a point over the line that is on each plane's side of p, where q is
record Middle (e : Edge3) (p q : P3) : Type 0 where
  point : P3
  over : IsOverEdge e point
  side : (h : Plane3) → IsOneSideOf h p q → IsOneSideOf h p point

blend-positive : (v w s t : ℤ) → pos 0 <ℤ v → pos 0 <ℤ w → pos 0 <ℤ s → pos 0 ≤ℤ t → pos 0 <ℤ (s *ℤ v +ℤ t *ℤ w)
blend-positive v w s t h k l m = pos-add_left (s *ℤ v) (t *ℤ w) (pos-mul s v l h) (nonneg-mul t w m (nonneg_of-pos w k))

blend-side : (u v s t : ℤ) → pos 0 <ℤ (u *ℤ v) → pos 0 <ℤ s → pos 0 ≤ℤ t → pos 0 <ℤ (u *ℤ (s *ℤ u +ℤ t *ℤ v))
blend-side u v s t h k l =
    lt_by (s *ℤ (u *ℤ u) +ℤ t *ℤ (u *ℤ v)) (ring (u ∷ v ∷ s ∷ t ∷ []) (search quotes depth 30) refl)
    (pos-add_left (s *ℤ (u *ℤ u)) (t *ℤ (u *ℤ v)) (pos-mul s (u *ℤ u) k (pos-square u (not_zero-left u v h)))
    (nonneg-mul t (u *ℤ v) l (nonneg_of-pos (u *ℤ v) h)))

nonneg : (a : ℤ) → a ≤ℤ pos 0 → pos 0 ≤ℤ neg_ℤ a
nonneg a h = omega (arith, ints)

blended : (e : Edge3) (p q : P3) → (turn_of e p *ℤ turn_of e q) ≤ℤ pos 0 → (turn_of e q ≡ pos 0 → ⊥) → Middle e p q
blended e p q h n =
    let square : pos 0 <ℤ (turn_of e q *ℤ turn_of e q) = pos-square (turn_of e q) n in
    let rest : pos 0 ≤ℤ neg_ℤ (turn_of e p *ℤ turn_of e q) = nonneg (turn_of e p *ℤ turn_of e q) h in
    let w : pos 0 <ℤ ((turn_of e q *ℤ turn_of e q) *ℤ p.w +ℤ neg_ℤ (turn_of e p *ℤ turn_of e q) *ℤ q.w) =
    blend-positive p.w q.w (turn_of e q *ℤ turn_of e q) (neg_ℤ (turn_of e p *ℤ turn_of e q)) p.positive q.positive square rest in
    record {
      point = blend (turn_of e q *ℤ turn_of e q) (neg_ℤ (turn_of e p *ℤ turn_of e q)) p q w;
      over = over e p q w;
      side = λ k s.
          rw (linear k (turn_of e q *ℤ turn_of e q) (neg_ℤ (turn_of e p *ℤ turn_of e q)) p q w)
          (blend-side (plane_value k p) (plane_value k q) (turn_of e q *ℤ turn_of e q) (neg_ℤ (turn_of e p *ℤ turn_of e q)) s square rest);
    }
  where
    over : (e : Edge3) (p q : P3) (w : pos 0 <ℤ ((turn_of e q *ℤ turn_of e q) *ℤ p.w +ℤ neg_ℤ (turn_of e p *ℤ turn_of e q) *ℤ q.w))
        → IsOverEdge e (blend (turn_of e q *ℤ turn_of e q) (neg_ℤ (turn_of e p *ℤ turn_of e q)) p q w)
    over e p q w = ring (e.from.x ∷ e.from.y ∷ e.to.x ∷ e.to.y ∷ p.x ∷ p.y ∷ p.w ∷ q.x ∷ q.y ∷ q.w ∷ []) (search quotes depth 30 fits 20000) refl

    linear : (h : Plane3) (s t : ℤ) (p q : P3) (w : pos 0 <ℤ (s *ℤ p.w +ℤ t *ℤ q.w)) → plane_value h (blend s t p q w) ≡ s *ℤ plane_value h p +ℤ t *ℤ plane_value h q
    linear h s t p q w = ring (h.a ∷ h.b ∷ h.c ∷ h.d ∷ s ∷ t ∷ p.x ∷ p.y ∷ p.z ∷ p.w ∷ q.x ∷ q.y ∷ q.z ∷ q.w ∷ []) (search quotes depth 30) refl

middle : (e : Edge3) (p q : P3) → (turn_of e p *ℤ turn_of e q) ≤ℤ pos 0 → Middle e p q
middle e p q h =
    elim (zero_or-not (turn_of e q)) [
      | inl z ↦ record { point = q; over = z; side = λ k s. s }
      | inr n ↦ blended e p q h n
    ]

pub exchanged : (u v : ℤ) → pos 0 <ℤ (u *ℤ v) → pos 0 <ℤ (v *ℤ u)
exchanged u v k = let e : v *ℤ u ≡ u *ℤ v = ring (u ∷ v ∷ []) (search quotes depth 30) refl in omega (arith, ints)

-- a sign at r is a sign at p
moved : (c u v h : ℤ) → pos 0 <ℤ (u *ℤ v) → pos 0 <ℤ ((c *ℤ v) *ℤ h) → pos 0 <ℤ ((c *ℤ u) *ℤ h)
moved c u v h k l =
    pos_of-mul ((c *ℤ u) *ℤ h) (v *ℤ v) (pos-square v (not_zero-left v u (exchanged u v k)))
    (lt_by (((c *ℤ v) *ℤ h) *ℤ (u *ℤ v)) (ring (c ∷ u ∷ v ∷ h ∷ []) (search quotes depth 30) refl) (pos-mul ((c *ℤ v) *ℤ h) (u *ℤ v) l k))

-- of the planes through the edge that have p and q on one side, p is above all or below all
pub record IsLevel (p q : P3) (e : Edge3) : Type 0 where
  pub height : ℤ
  pub is : (h : Plane3) → IsThrough h e → IsOneSideOf h p q → pos 0 <ℤ ((h.c *ℤ plane_value h p) *ℤ height)

pub level_between : (e : Edge3) (p q : P3) → (IsUpright e → ⊥) → (turn_of e p *ℤ turn_of e q) ≤ℤ pos 0 → IsLevel p q e
level_between e p q n h =
    let m : Middle e p q = middle e p q h in
    let l : Level e m.point = level e m.point n m.over in
    record {
      height = l.height;
      is = λ k t s.
          let b : pos 0 <ℤ (plane_value k p *ℤ plane_value k m.point) = m.side k s in
          moved k.c (plane_value k p) (plane_value k m.point) l.height b
          (l.is k t (not_zero-left (plane_value k m.point) (plane_value k p) (exchanged (plane_value k p) (plane_value k m.point) b)));
    }
