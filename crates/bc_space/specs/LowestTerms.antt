-- Points in lowest terms.
use Rattle.bc_num.specs.declared.p2.P2.{P2}
use Rattle.bc_num.specs.declared.p3.P3.{P3}
use Rattle.bc_num.specs.Points.{IsSamePoint2, IsReduced2, IsSamePoint3, IsReduced3}

-- the same point as p, whose numbers have no common divisor but 1: there is one alone
pub record LowestTerms2 (p : P2) : Type 0 where
  pub point : P2
  pub same : IsSamePoint2 p point
  pub reduced : IsReduced2 point

pub record LowestTerms3 (p : P3) : Type 0 where
  pub point : P3
  pub same : IsSamePoint3 p point
  pub reduced : IsReduced3 point
