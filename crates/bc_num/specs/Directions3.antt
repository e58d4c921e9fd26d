-- Primitive vectors of space: the one that stands for each direction and its opposite.
use Rattle.std.specs.Prelude.{◌≡◌, ◌≢◌, ◌⊎◌, ℕ, ℤ, pos, ◌*ℤ◌, neg_ℤ, ◌<ℤ◌}
use Rattle.bc_num.specs.declared.v3.V3.{V3}
use Rattle.bc_num.specs.Divides.{Divides, IsGcdOf3}

-- all components are 0
pub record IsZero3 (v : V3) : Type 0 where
  pub along_x : v.x ≡ pos 0
  pub along_y : v.y ≡ pos 0
  pub along_z : v.z ≡ pos 0

-- every natural number that divides all components is 1
pub record IsPrimitive3 (v : V3) : Type 0 where
  pub coprime : (d : ℕ) → Divides (pos d) v.x → Divides (pos d) v.y → Divides (pos d) v.z → d ≡ 1

-- the first component that is not 0 is above 0
abbrev pub IsLeading3 : V3 → Type 0
IsLeading3 v = (pos 0 <ℤ v.x) ⊎ ((v.x ≡ pos 0) × ((pos 0 <ℤ v.y) ⊎ ((v.y ≡ pos 0) × (pos 0 <ℤ v.z))))

-- the vector that points the other way
abbrev pub opposite3 : V3 → V3
opposite3 v = record { x = neg_ℤ v.x; y = neg_ℤ v.y; z = neg_ℤ v.z }

-- u is v over the greatest common divisor of its components
pub record IsOverGcd3 (v u : V3) : Type 0 where
  pub divisor : ℤ
  pub greatest : IsGcdOf3 v.x v.y v.z divisor
  pub positive : pos 0 <ℤ divisor
  pub along_x : v.x ≡ divisor *ℤ u.x
  pub along_y : v.y ≡ divisor *ℤ u.y
  pub along_z : v.z ≡ divisor *ℤ u.z

-- u is the primitive vector of v: it is primitive, its first component that is not 0 is above 0, and v is a multiple of it
-- by a whole number that is not 0
pub record IsPrimitiveOf3 (v u : V3) : Type 0 where
  pub primitive : IsPrimitive3 u
  pub leading : IsLeading3 u
  pub times : ℤ
  pub some : times ≢ pos 0
  pub along_x : v.x ≡ times *ℤ u.x
  pub along_y : v.y ≡ times *ℤ u.y
  pub along_z : v.z ≡ times *ℤ u.z
