-- Rational points as numbers over a denominator: when two are the same point, and when one is in lowest terms.
use Rattle.std.specs.Prelude.{◌≡◌, ◌≤◌, ℕ, ℤ, pos, ◌*ℤ◌, ◌<ℤ◌, unsigned_abs}
use Rattle.bc_num.specs.declared.p2.P2.{P2}
use Rattle.bc_num.specs.declared.p3.P3.{P3}
use Rattle.bc_num.specs.Divides.{Divides}

-- p and q are the same point: each coordinate over its denominator is the same fraction
pub record IsSamePoint2 (p q : P2) : Type 0 where
  pub along_x : p.x *ℤ q.w ≡ q.x *ℤ p.w
  pub along_y : p.y *ℤ q.w ≡ q.y *ℤ p.w

-- each number of p is that of q times the same number above 0
pub record IsMultiple2 (p q : P2) : Type 0 where
  pub times : ℤ
  pub positive : pos 0 <ℤ times
  pub along_x : p.x ≡ times *ℤ q.x
  pub along_y : p.y ≡ times *ℤ q.y
  pub along_w : p.w ≡ times *ℤ q.w

-- the three numbers have the greatest common divisor 1: every natural number that divides them all is 1
pub record IsReduced2 (p : P2) : Type 0 where
  pub coprime : (d : ℕ) → Divides (pos d) p.x → Divides (pos d) p.y → Divides (pos d) p.w → d ≡ 1

-- no number of q is larger in size than that of p
pub record IsNoLarger2 (p q : P2) : Type 0 where
  pub near_x : unsigned_abs q.x ≤ unsigned_abs p.x
  pub near_y : unsigned_abs q.y ≤ unsigned_abs p.y
  pub near_w : unsigned_abs q.w ≤ unsigned_abs p.w

-- ---- the same in space

pub record IsSamePoint3 (p q : P3) : Type 0 where
  pub along_x : p.x *ℤ q.w ≡ q.x *ℤ p.w
  pub along_y : p.y *ℤ q.w ≡ q.y *ℤ p.w
  pub along_z : p.z *ℤ q.w ≡ q.z *ℤ p.w

pub record IsMultiple3 (p q : P3) : Type 0 where
  pub times : ℤ
  pub positive : pos 0 <ℤ times
  pub along_x : p.x ≡ times *ℤ q.x
  pub along_y : p.y ≡ times *ℤ q.y
  pub along_z : p.z ≡ times *ℤ q.z
  pub along_w : p.w ≡ times *ℤ q.w

pub record IsReduced3 (p : P3) : Type 0 where
  pub coprime : (d : ℕ) → Divides (pos d) p.x → Divides (pos d) p.y → Divides (pos d) p.z → Divides (pos d) p.w → d ≡ 1

pub record IsNoLarger3 (p q : P3) : Type 0 where
  pub near_x : unsigned_abs q.x ≤ unsigned_abs p.x
  pub near_y : unsigned_abs q.y ≤ unsigned_abs p.y
  pub near_z : unsigned_abs q.z ≤ unsigned_abs p.z
  pub near_w : unsigned_abs q.w ≤ unsigned_abs p.w
