-- Coordinates, and points whose numbers are of a stated size.
use Rattle.std.specs.Prelude.{ℤ, ◌-◌, ◌^◌}
use Rattle.bc_algebra.specs.Within.{IsWithin}
use Rattle.bc_num.specs.declared.v2.V2.{V2}
use Rattle.bc_num.specs.declared.v3.V3.{V3}
use Rattle.bc_num.specs.declared.p2.P2.{P2}
use Rattle.bc_num.specs.declared.p3.P3.{P3}
use Rattle.bc_num.specs.declared.coord.TheConstants.{MOST_COORD}

-- a coordinate of an input: from -1023 to 1023
abbrev pub IsCoord : ℤ → Type 0
IsCoord z = IsWithin MOST_COORD z

-- both are coordinates
pub record AreCoords (v : V2) : Type 0 where
  pub x_near : IsCoord v.x
  pub y_near : IsCoord v.y

-- coordinates at most 2^60 in size, w at most 2^40
pub record IsSmallPoint (p : P2) : Type 0 where
  pub x_near : IsWithin (2 ^ 60) p.x
  pub y_near : IsWithin (2 ^ 60) p.y
  pub w_near : IsWithin (2 ^ 40) p.w

-- coordinates below 2^98 in size, w below 2^86
pub record IsLargePoint (p : P2) : Type 0 where
  pub x_near : IsWithin (2 ^ 98 - 1) p.x
  pub y_near : IsWithin (2 ^ 98 - 1) p.y
  pub w_near : IsWithin (2 ^ 86 - 1) p.w

-- ---- the same in space

pub record AreCoords3 (v : V3) : Type 0 where
  pub x_near : IsCoord v.x
  pub y_near : IsCoord v.y
  pub z_near : IsCoord v.z

pub record IsSmallPoint3 (p : P3) : Type 0 where
  pub x_near : IsWithin (2 ^ 60) p.x
  pub y_near : IsWithin (2 ^ 60) p.y
  pub z_near : IsWithin (2 ^ 60) p.z
  pub w_near : IsWithin (2 ^ 40) p.w

pub record IsLargePoint3 (p : P3) : Type 0 where
  pub x_near : IsWithin (2 ^ 98 - 1) p.x
  pub y_near : IsWithin (2 ^ 98 - 1) p.y
  pub z_near : IsWithin (2 ^ 98 - 1) p.z
  pub w_near : IsWithin (2 ^ 86 - 1) p.w
