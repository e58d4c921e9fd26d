-- The least and the greatest of the numbers along an axis, and along the three axes of space.
use Rattle.std.specs.Prelude.{◌≡◌, ℤ, List, Any}
use Rattle.std.specs.Int.{int_min, int_max}
use Rattle.bc_num.specs.declared.v3.V3.{V3}
use Rattle.bc_solid.specs.Boxes.{IsLeast, IsGreatest}
use Rattle.bc_solid.specs.Boxes3.{along_x, along_y, along_z}
use Rattle.bc_natural.specs.declared.span.Span.{Span}
use Rattle.bc_natural.specs.declared.span.Extent3.{Extent3}

-- the least and the greatest of the numbers that P has
pub record IsSpan (P : ℤ → Type 0) (s : Span) : Type 0 where
  pub least : IsLeast P s.low
  pub greatest : IsGreatest P s.high

-- from the lesser low number to the greater high one
pub record IsHull (s t u : Span) : Type 0 where
  pub low : u.low ≡ int_min s.low t.low
  pub high : u.high ≡ int_max s.high t.high

-- ---- along the three axes

-- z is this coordinate of v
abbrev pub IsAt : V3 → (V3 → ℤ) → ℤ → Type 0
IsAt v along z = z ≡ along v

-- z is this coordinate of one of the places
abbrev pub IsAlong : List V3 → (V3 → ℤ) → ℤ → Type 0
IsAlong vs along z = Any (λ v. IsAt v along z) vs

-- the spans of what P has along each axis
pub record AreSpans (P : (V3 → ℤ) → ℤ → Type 0) (e : Extent3) : Type 0 where
  pub x : IsSpan (P along_x) e.x
  pub y : IsSpan (P along_y) e.y
  pub z : IsSpan (P along_z) e.z

pub record AreHulls (s t u : Extent3) : Type 0 where
  pub x : IsHull s.x t.x u.x
  pub y : IsHull s.y t.y u.y
  pub z : IsHull s.z t.z u.z
