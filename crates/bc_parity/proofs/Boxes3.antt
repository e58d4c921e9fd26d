-- The corners of faces are in the box of the mesh.
use Rattle.std.proofs.Common.{◌≡◌, List, [], ◌∷◌, refl}
use Rattle.std.specs.Prelude.{All, Any}
use Rattle.std.proofs.lemmas.List.Elements.{All-cons, All-nil}
use lib.IntN.{ℤ}
use Rattle.bc_num.specs.declared.v3.V3.{V3}
use Rattle.bc_num.specs.declared.box2.Box2.{Box2}
use Rattle.bc_num.specs.declared.box3.Box3.{Box3}
use Rattle.bc_solid.specs.Facets.{Facet}
use Rattle.bc_solid.specs.Boxes3.{along_x, along_y, along_z, IsCoordinate, IsBoxRound3, IsBoxOf3}
use Rattle.bc_parity.specs.Faces.{shadow}
use Rattle.bc_parity.proofs.Boxes.{any_head, any_tail, IsFrom, IsIn, below_next, above_last}

pub record IsIn3 (b : Box3) (v : V3) : Type 0 where
  pub x_in : IsFrom b.x0 b.x1 v.x
  pub y_in : IsFrom b.y0 b.y1 v.y
  pub z_in : IsFrom b.z0 b.z1 v.z

-- the box seen from above
abbrev pub base : Box3 → Box2
base b = record { x0 = b.x0; y0 = b.y0; x1 = b.x1; y1 = b.y1; wide = b.wide; high = b.deep }

pub in_base : (b : Box3) (v : V3) → IsIn3 b v → IsIn (base b) (shadow v)
in_base b v h = record { x_in = h.x_in; y_in = h.y_in }

-- the box holds each coordinate of a corner
record Holds (b : Box3) (fs : List Facet) : Type 0 where
  x_of : (z : ℤ) → IsCoordinate along_x fs z → IsFrom b.x0 b.x1 z
  y_of : (z : ℤ) → IsCoordinate along_y fs z → IsFrom b.y0 b.y1 z
  z_of : (z : ℤ) → IsCoordinate along_z fs z → IsFrom b.z0 b.z1 z

round_holds : (b : Box3) (fs : List Facet) → IsBoxRound3 fs b → Holds b fs
round_holds b fs h = record {
  x_of = λ z k. record { low_is = below_next b.x0 z (h.x_least.least z k); high_is = above_last b.x1 z (h.x_greatest.greatest z k) };
  y_of = λ z k. record { low_is = below_next b.y0 z (h.y_least.least z k); high_is = above_last b.y1 z (h.y_greatest.greatest z k) };
  z_of = λ z k. record { low_is = below_next b.z0 z (h.z_least.least z k); high_is = above_last b.z1 z (h.z_greatest.greatest z k) };
}

-- z is this coordinate of a corner
abbrev IsOf : (V3 → ℤ) → List V3 → ℤ → Type 0
IsOf along cs z = Any (λ v. z ≡ along v) cs

face_in : (b : Box3) (cs : List V3) → ((z : ℤ) → IsOf along_x cs z → IsFrom b.x0 b.x1 z) → ((z : ℤ) → IsOf along_y cs z → IsFrom b.y0 b.y1 z) → ((z : ℤ) → IsOf along_z cs z → IsFrom b.z0 b.z1 z)
    → All (IsIn3 b) cs
face_in b [] f g h = All-nil (IsIn3 b)
face_in b (v ∷ cs) f g h =
    All-cons (IsIn3 b) v cs
    (record {
      x_in = f v.x (any_head (λ u. v.x ≡ along_x u) v cs refl);
      y_in = g v.y (any_head (λ u. v.y ≡ along_y u) v cs refl);
      z_in = h v.z (any_head (λ u. v.z ≡ along_z u) v cs refl);
    })
    (face_in b cs (λ z k. f z (any_tail (λ u. z ≡ along_x u) v cs k)) (λ z k. g z (any_tail (λ u. z ≡ along_y u) v cs k)) (λ z k. h z (any_tail (λ u. z ≡ along_z u) v cs k)))

faces_in : (b : Box3) (fs : List Facet) → Holds b fs → All (λ f. All (IsIn3 b) f.corners) fs
faces_in b [] h = All-nil (λ (f : Facet). All (IsIn3 b) f.corners)
faces_in b (f ∷ fs) h =
    All-cons (λ (g : Facet). All (IsIn3 b) g.corners) f fs
    (face_in b f.corners
    (λ z k. h.x_of z (any_head (λ (g : Facet). IsOf along_x g.corners z) f fs k))
    (λ z k. h.y_of z (any_head (λ (g : Facet). IsOf along_y g.corners z) f fs k))
    (λ z k. h.z_of z (any_head (λ (g : Facet). IsOf along_z g.corners z) f fs k)))
    (faces_in b fs
    (record {
      x_of = λ z k. h.x_of z (any_tail (λ (g : Facet). IsOf along_x g.corners z) f fs k);
      y_of = λ z k. h.y_of z (any_tail (λ (g : Facet). IsOf along_y g.corners z) f fs k);
      z_of = λ z k. h.z_of z (any_tail (λ (g : Facet). IsOf along_z g.corners z) f fs k);
    }))

pub all_in : (b : Box3) (fs : List Facet) → IsBoxOf3 fs b → All (λ f. All (IsIn3 b) f.corners) fs
all_in b [] h = All-nil (λ (f : Facet). All (IsIn3 b) f.corners)
all_in b (f ∷ fs) h = faces_in b (f ∷ fs) (round_holds b (f ∷ fs) h)
