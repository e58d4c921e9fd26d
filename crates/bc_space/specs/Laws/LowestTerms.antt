-- Each point has lowest terms.
-- A proof, which the definition of a meet rests on: so it stands in specs/.
use Rattle.bc_num.specs.declared.p2.P2.{P2}
use Rattle.bc_num.specs.declared.p3.P3.{P3}
use Rattle.bc_num.proofs.Reducing.{lowest2, lowest3}
use Rattle.bc_num.proofs.Lowest.{IsSamePoint2_of-over, IsReduced2_of-over, IsSamePoint3_of-over, IsReduced3_of-over}
use Rattle.bc_space.specs.LowestTerms.{LowestTerms2, LowestTerms3}

abbrev pub lowest_terms2 : (p : P2) → LowestTerms2 p
lowest_terms2 p = record {
  point = (lowest2 p).point;
  same = IsSamePoint2_of-over p ((lowest2 p).point) ((lowest2 p).divisor) ((lowest2 p).over);
  reduced = IsReduced2_of-over p ((lowest2 p).point) ((lowest2 p).divisor) ((lowest2 p).over);
}

abbrev pub lowest_terms3 : (p : P3) → LowestTerms3 p
lowest_terms3 p = record {
  point = (lowest3 p).point;
  same = IsSamePoint3_of-over p ((lowest3 p).point) ((lowest3 p).divisor) ((lowest3 p).over);
  reduced = IsReduced3_of-over p ((lowest3 p).point) ((lowest3 p).divisor) ((lowest3 p).over);
}
