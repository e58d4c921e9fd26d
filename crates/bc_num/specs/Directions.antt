-- Primitive vectors of the plane: the one that stands for each direction and its opposite.
use Rattle.std.specs.Prelude.{◌≡◌, ◌≢◌, ◌⊎◌, ℕ, ℤ, pos, ◌*ℤ◌, neg_ℤ, ◌<ℤ◌}
use Rattle.bc_num.specs.declared.v2.V2.{V2}
use Rattle.bc_num.specs.Divides.{Divides, IsGcdOf}

-- both components are 0
pub record IsZero2 (v : V2) : Type 0 where
  pub along_x : v.x ≡ pos 0
  pub along_y : v.y ≡ pos 0

-- every natural number that divides both components is 1
pub record IsPrimitive2 (v : V2) : Type 0 where
  pub coprime : (d : ℕ) → Divides (pos d) v.x → Divides (pos d) v.y → d ≡ 1

-- the first component that is not 0 is above 0
abbrev pub IsLeading2 : V2 → Type 0
IsLeading2 v = (pos 0 <ℤ v.x) ⊎ ((v.x ≡ pos 0) × (pos 0 <ℤ v.y))

-- the vector that points the other way
abbrev pub opposite2 : V2 → V2
opposite2 v = record { x = neg_ℤ v.x; y = neg_ℤ v.y }

-- u is v over the greatest common divisor of its components
pub record IsOverGcd2 (v u : V2) : Type 0 where
  pub divisor : ℤ
  pub greatest : IsGcdOf v.x v.y divisor
  pub positive : pos 0 <ℤ divisor
  pub along_x : v.x ≡ divisor *ℤ u.x
  pub along_y : v.y ≡ divisor *ℤ u.y

-- u is the primitive vector of v: it is primitive, its first component that is not 0 is above 0, and v is a multiple of it
-- by a whole number that is not 0
pub record IsPrimitiveOf2 (v u : V2) : Type 0 where
  pub primitive : IsPrimitive2 u
  pub leading : IsLeading2 u
  pub times : ℤ
  pub some : times ≢ pos 0
  pub along_x : v.x ≡ times *ℤ u.x
  pub along_y : v.y ≡ times *ℤ u.y
