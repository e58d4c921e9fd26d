-- What is found of the plane of a face: the canonical plane of two places and the first corner that is not on their line,
-- and the first corner that is not on a plane.
use Rattle.std.specs.Prelude.{◌≡◌, ℕ, List, take, Some, slice_get}
use Rattle.std.specs.List.{All}
use Rattle.bc_num.specs.declared.v3.V3.{V3}
use Rattle.bc_space.specs.declared.plane3.Plane3.{Plane3}
use Rattle.bc_space.specs.Planes.{IsSizedPlane}
use Rattle.bc_space.specs.PlanesThrough.{AreCollinear, IsPlaneThrough}
use Rattle.bc_solid.specs.Facets.{IsOnPlane, IsSpanned}

-- h goes through a, b and the first of the corners that is not on their line
pub record IsFirstPlane (a b : V3) (cs : List V3) (h : Plane3) : Type 0 where
  pub at : ℕ
  pub third : V3
  pub is : slice_get cs at ≡ Some third
  pub narrow : All (AreCollinear a b) (take at cs)
  pub wide : AreCollinear a b third → ⊥
  pub through : IsPlaneThrough a b third h

-- the corner at place k is the first that is not on h
pub record IsFirstOff (h : Plane3) (cs : List V3) (k : ℕ) : Type 0 where
  pub corner : V3
  pub is : slice_get cs k ≡ Some corner
  pub off : IsOnPlane h corner → ⊥
  pub before : All (IsOnPlane h) (take k cs)

-- the plane that is kept with a face
pub record IsPlaneOfCorners (cs : List V3) (h : Plane3) : Type 0 where
  pub spanned : IsSpanned h cs
  pub flat : All (IsOnPlane h) cs
  pub sized : IsSizedPlane h
