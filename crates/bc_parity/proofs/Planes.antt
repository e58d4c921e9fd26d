-- Over the line of an edge seen from above, all planes through the edge have one height.
use Rattle.std.proofs.Common.{◌≡◌, inl, inr, List, [], ◌∷◌, arith, refl}
use Rattle.std.proofs.lemmas.Int.{ints, by_lt_z}
use Rattle.std.specs.Prelude.{slice_index_or}
use lib.IntN.{ℤ, pos, ◌-ℤ◌, ◌*ℤ◌, neg_ℤ}
use lib.Signed.{◌<ℤ◌}
use Rattle.bc_algebra.proofs.Ring.{ring, quotes, by_one, by_three}
use Rattle.bc_algebra.proofs.Order.{pos-square, pos_of-mul, zero_factor}
use Rattle.bc_num.specs.declared.v2.V2.{V2}
use Rattle.bc_num.specs.declared.p3.P3.{P3}
use Rattle.bc_num.specs.Measures.{turn}
use Rattle.bc_space.specs.declared.plane3.Plane3.{Plane3}
use Rattle.bc_space.specs.Planes.{plane_value}
use Rattle.bc_solid.specs.Meshes.{Edge3}
use Rattle.bc_solid.specs.Facets.{Facet}
use Rattle.bc_parity.specs.Faces.{shadow, shadow_point}
use Rattle.bc_parity.specs.FaceLaws.{IsThrough, IsVertical, PlaneLaw}
use Rattle.bc_parity.proofs.Signs.{zero_or-not, not_zero-left, neg_of-same}

-- how far p is left of the edge, seen from above
abbrev pub turn_of : Edge3 → P3 → ℤ
turn_of e p = turn (shadow e.from) (shadow e.to) (shadow_point p)

-- p is over the line through the edge
abbrev pub IsOverEdge : Edge3 → P3 → Type 0
IsOverEdge e p = turn_of e p ≡ pos 0

-- the edge is over one place
abbrev pub IsUpright : Edge3 → Type 0
IsUpright e = shadow e.from ≡ shadow e.to

-- what decides the side of p, the same for all planes through e; by x or by y
abbrev pub height_x : Edge3 → P3 → ℤ
height_x e p = (e.to.x -ℤ e.from.x) *ℤ (p.z -ℤ e.from.z *ℤ p.w) -ℤ (e.to.z -ℤ e.from.z) *ℤ (p.x -ℤ e.from.x *ℤ p.w)

abbrev pub height_y : Edge3 → P3 → ℤ
height_y e p = (e.to.y -ℤ e.from.y) *ℤ (p.z -ℤ e.from.z *ℤ p.w) -ℤ (e.to.z -ℤ e.from.z) *ℤ (p.y -ℤ e.from.y *ℤ p.w)

by_x : (h : Plane3) (e : Edge3) (p : P3) → IsThrough h e → IsOverEdge e p → (e.to.x -ℤ e.from.x) *ℤ plane_value h p ≡ h.c *ℤ height_x e p
by_x h e p t k =
    by_three (neg_ℤ ((e.to.x -ℤ e.from.x) *ℤ p.w -ℤ (p.x -ℤ e.from.x *ℤ p.w))) (neg_ℤ (p.x -ℤ e.from.x *ℤ p.w)) h.b t.0 t.1 k
    (ring (h.a ∷ h.b ∷ h.c ∷ h.d ∷ e.from.x ∷ e.from.y ∷ e.from.z ∷ e.to.x ∷ e.to.y ∷ e.to.z ∷ p.x ∷ p.y ∷ p.z ∷ p.w ∷ []) (search quotes depth 30) refl)

by_y : (h : Plane3) (e : Edge3) (p : P3) → IsThrough h e → IsOverEdge e p → (e.to.y -ℤ e.from.y) *ℤ plane_value h p ≡ h.c *ℤ height_y e p
by_y h e p t k =
    by_three (neg_ℤ ((e.to.y -ℤ e.from.y) *ℤ p.w -ℤ (p.y -ℤ e.from.y *ℤ p.w))) (neg_ℤ (p.y -ℤ e.from.y *ℤ p.w)) (neg_ℤ h.a) t.0 t.1 k
    (ring (h.a ∷ h.b ∷ h.c ∷ h.d ∷ e.from.x ∷ e.from.y ∷ e.from.z ∷ e.to.x ∷ e.to.y ∷ e.to.z ∷ p.x ∷ p.y ∷ p.z ∷ p.w ∷ []) (search quotes depth 30) refl)

product : (v c h d : ℤ) → (d ≡ pos 0 → ⊥) → (v ≡ pos 0 → ⊥) → d *ℤ v ≡ c *ℤ h → pos 0 <ℤ ((c *ℤ v) *ℤ (d *ℤ h))
product v c h d n m e =
    let is : (c *ℤ v) *ℤ (d *ℤ h) ≡ (d *ℤ v) *ℤ (d *ℤ v) = by_one (neg_ℤ (d *ℤ v)) e (ring (v ∷ c ∷ h ∷ d ∷ []) (search quotes depth 30) refl) in
    let sq : pos 0 <ℤ ((d *ℤ v) *ℤ (d *ℤ v)) = pos-square (d *ℤ v) (λ z. elim (zero_factor d v z) [ inl x ↦ n x | inr x ↦ m x ]) in
    rw is sq

-- one number has the sign of `c * value` for each plane through the edge that p is not on
pub record Level (e : Edge3) (p : P3) : Type 0 where
  pub height : ℤ
  pub is : (h : Plane3) → IsThrough h e → (plane_value h p ≡ pos 0 → ⊥) → pos 0 <ℤ ((h.c *ℤ plane_value h p) *ℤ height)

pub level : (e : Edge3) (p : P3) → (IsUpright e → ⊥) → IsOverEdge e p → Level e p
level e p n k =
    elim (zero_or-not (e.to.x -ℤ e.from.x)) [
      | inr d ↦ record { height = (e.to.x -ℤ e.from.x) *ℤ height_x e p; is = λ h t m. product (plane_value h p) h.c (height_x e p) (e.to.x -ℤ e.from.x) d m (by_x h e p t k) }
      | inl x ↦
          elim (zero_or-not (e.to.y -ℤ e.from.y)) [
            | inr d ↦ record { height = (e.to.y -ℤ e.from.y) *ℤ height_y e p; is = λ h t m. product (plane_value h p) h.c (height_y e p) (e.to.y -ℤ e.from.y) d m (by_y h e p t k) }
            | inl y ↦ absurd (n (whole (shadow e.from) (shadow e.to) (same e.from.x e.to.x x) (same e.from.y e.to.y y)))
          ]
    ]
  where
    whole : (u v : V2) → u.x ≡ v.x → u.y ≡ v.y → u ≡ v
    whole u v e f = λ i. record { x = e i; y = f i }

    same : (a b : ℤ) → b -ℤ a ≡ pos 0 → a ≡ b
    same a b h = omega (arith, ints)

not_vertical : (h : Plane3) (p : P3) (k : ℤ) → pos 0 <ℤ ((h.c *ℤ plane_value h p) *ℤ k) → IsVertical h → ⊥
not_vertical h p k l e = not_zero-left (h.c *ℤ plane_value h p) k l (by_one (plane_value h p) e (one h.c (plane_value h p)))
  where
    one : (c v : ℤ) → c *ℤ v -ℤ pos 0 ≡ v *ℤ (c -ℤ pos 0)
    one c v = ring (c ∷ v ∷ []) (search quotes depth 30) refl

pub plane_law : (fs : List Facet) → PlaneLaw fs
plane_law fs e p n k off =
    let l : Level e p = level e p n k in
    by_lt_z (pos 0) l.height
    (λ m. inl (λ i d b t.
    let f = slice_index_or fs i d in
    let g = l.is f.plane t (off i d b) in
    (not_vertical f.plane p l.height g, pos_of-mul (f.plane.c *ℤ plane_value f.plane p) l.height m g)))
    (λ m. inr (λ i d b t.
    let f = slice_index_or fs i d in
    let g = l.is f.plane t (off i d b) in
    (not_vertical f.plane p l.height g, neg_of-same (f.plane.c *ℤ plane_value f.plane p) l.height m g)))
