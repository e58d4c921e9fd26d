-- The box of a mesh, and the points inside and outside it.
use Rattle.std.specs.Prelude.{◌≡◌, ◌⊎◌, ℤ, pos, negsuc, ◌+ℤ◌, ◌-ℤ◌, ◌*ℤ◌, ◌<ℤ◌, List, [], ◌∷◌, Any}
use Rattle.bc_num.specs.declared.v3.V3.{V3}
use Rattle.bc_num.specs.declared.p3.P3.{P3}
use Rattle.bc_num.specs.declared.box3.Box3.{Box3}
use Rattle.bc_solid.specs.Boxes.{IsLeast, IsGreatest}
use Rattle.bc_solid.specs.Facets.{Facet}

abbrev pub along_x : V3 → ℤ
along_x v = v.x

abbrev pub along_y : V3 → ℤ
along_y v = v.y

abbrev pub along_z : V3 → ℤ
along_z v = v.z

-- z is this coordinate of a corner of a face
abbrev pub IsCoordinate : (V3 → ℤ) → List Facet → ℤ → Type 0
IsCoordinate along fs z = Any (λ f. Any (λ v. z ≡ along v) f.corners) fs

-- along each axis from the least coordinate minus 1 to the greatest plus 1
pub record IsBoxRound3 (fs : List Facet) (b : Box3) : Type 0 where
  pub x_least : IsLeast (IsCoordinate along_x fs) (b.x0 +ℤ pos 1)
  pub x_greatest : IsGreatest (IsCoordinate along_x fs) (b.x1 -ℤ pos 1)
  pub y_least : IsLeast (IsCoordinate along_y fs) (b.y0 +ℤ pos 1)
  pub y_greatest : IsGreatest (IsCoordinate along_y fs) (b.y1 -ℤ pos 1)
  pub z_least : IsLeast (IsCoordinate along_z fs) (b.z0 +ℤ pos 1)
  pub z_greatest : IsGreatest (IsCoordinate along_z fs) (b.z1 -ℤ pos 1)

-- from -1 to 1 along each axis
pub record IsUnitBox3 (b : Box3) : Type 0 where
  pub x_least : b.x0 ≡ negsuc 0
  pub x_greatest : b.x1 ≡ pos 1
  pub y_least : b.y0 ≡ negsuc 0
  pub y_greatest : b.y1 ≡ pos 1
  pub z_least : b.z0 ≡ negsuc 0
  pub z_greatest : b.z1 ≡ pos 1

-- b is the box of the faces; without faces it goes from -1 to 1
abbrev pub IsBoxOf3 : List Facet → Box3 → Type 0
IsBoxOf3 [] b = IsUnitBox3 b
IsBoxOf3 (f ∷ fs) b = IsBoxRound3 (f ∷ fs) b

-- p is strictly inside b
pub record IsInside3 (b : Box3) (p : P3) : Type 0 where
  pub x_above : (b.x0 *ℤ p.w) <ℤ p.x
  pub x_below : p.x <ℤ (b.x1 *ℤ p.w)
  pub y_above : (b.y0 *ℤ p.w) <ℤ p.y
  pub y_below : p.y <ℤ (b.y1 *ℤ p.w)
  pub z_above : (b.z0 *ℤ p.w) <ℤ p.z
  pub z_below : p.z <ℤ (b.z1 *ℤ p.w)

-- p is outside the closed box: past one of its sides
abbrev pub IsOutside3 : Box3 → P3 → Type 0
IsOutside3 b p = (p.x <ℤ (b.x0 *ℤ p.w)) ⊎ (((b.x1 *ℤ p.w) <ℤ p.x)
    ⊎ ((p.y <ℤ (b.y0 *ℤ p.w)) ⊎ (((b.y1 *ℤ p.w) <ℤ p.y)
    ⊎ ((p.z <ℤ (b.z0 *ℤ p.w)) ⊎ ((b.z1 *ℤ p.w) <ℤ p.z)))))
