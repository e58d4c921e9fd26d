-- Points in lowest terms: what is left of a point over the greatest common divisor of its numbers.
use Rattle.std.proofs.Common.{◌≡◌}
use lib.IntN.{ℤ, pos, ◌*ℤ◌}
use lib.Signed.{◌<ℤ◌}
use Rattle.bc_num.specs.declared.p2.P2.{P2}
use Rattle.bc_num.specs.declared.p3.P3.{P3}
use Rattle.bc_num.specs.Divides.{IsGcdOf3, IsGcdOf4}
use Rattle.bc_num.specs.Points.{IsSamePoint2, IsReduced2, IsNoLarger2, IsSamePoint3, IsReduced3, IsNoLarger3}
use Rattle.bc_num.proofs.Dividing.{coprime3, coprime4, crossed, quotient_no_larger}

-- each number of q is that of p over g, the greatest common divisor of the numbers of p
pub record IsOver2 (p q : P2) (g : ℤ) : Type 0 where
  pub positive : pos 0 <ℤ g
  pub greatest : IsGcdOf3 p.x p.y p.w g
  pub along_x : q.x *ℤ g ≡ p.x
  pub along_y : q.y *ℤ g ≡ p.y
  pub along_w : q.w *ℤ g ≡ p.w

-- then q is the same point,
pub IsSamePoint2_of-over : (p q : P2) (g : ℤ) → IsOver2 p q g → IsSamePoint2 p q
IsSamePoint2_of-over p q g h = record {
  along_x = crossed p.x p.w g q.x q.w h.along_x h.along_w;
  along_y = crossed p.y p.w g q.y q.w h.along_y h.along_w;
}

-- in lowest terms,
pub IsReduced2_of-over : (p q : P2) (g : ℤ) → IsOver2 p q g → IsReduced2 q
IsReduced2_of-over p q g h = record {
  coprime = coprime3 p.x p.y p.w g q.x q.y q.w h.positive h.greatest h.along_x h.along_y h.along_w;
}

-- with no larger numbers
pub IsNoLarger2_of-over : (p q : P2) (g : ℤ) → IsOver2 p q g → IsNoLarger2 p q
IsNoLarger2_of-over p q g h = record {
  near_x = quotient_no_larger q.x g p.x h.positive h.along_x;
  near_y = quotient_no_larger q.y g p.y h.positive h.along_y;
  near_w = quotient_no_larger q.w g p.w h.positive h.along_w;
}

-- ---- the same in space

pub record IsOver3 (p q : P3) (g : ℤ) : Type 0 where
  pub positive : pos 0 <ℤ g
  pub greatest : IsGcdOf4 p.x p.y p.z p.w g
  pub along_x : q.x *ℤ g ≡ p.x
  pub along_y : q.y *ℤ g ≡ p.y
  pub along_z : q.z *ℤ g ≡ p.z
  pub along_w : q.w *ℤ g ≡ p.w

pub IsSamePoint3_of-over : (p q : P3) (g : ℤ) → IsOver3 p q g → IsSamePoint3 p q
IsSamePoint3_of-over p q g h = record {
  along_x = crossed p.x p.w g q.x q.w h.along_x h.along_w;
  along_y = crossed p.y p.w g q.y q.w h.along_y h.along_w;
  along_z = crossed p.z p.w g q.z q.w h.along_z h.along_w;
}

pub IsReduced3_of-over : (p q : P3) (g : ℤ) → IsOver3 p q g → IsReduced3 q
IsReduced3_of-over p q g h = record {
  coprime = coprime4 p.x p.y p.z p.w g q.x q.y q.z q.w h.positive h.greatest h.along_x h.along_y h.along_z h.along_w;
}

pub IsNoLarger3_of-over : (p q : P3) (g : ℤ) → IsOver3 p q g → IsNoLarger3 p q
IsNoLarger3_of-over p q g h = record {
  near_x = quotient_no_larger q.x g p.x h.positive h.along_x;
  near_y = quotient_no_larger q.y g p.y h.positive h.along_y;
  near_z = quotient_no_larger q.z g p.z h.positive h.along_z;
  near_w = quotient_no_larger q.w g p.w h.positive h.along_w;
}
