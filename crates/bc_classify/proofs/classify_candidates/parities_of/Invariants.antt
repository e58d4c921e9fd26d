use Rattle.std.proofs.Common.{take}
use Rattle.std.specs.List.{AllZip}
use Rattle.bc_classify.specs.RegionParities.{IsParityAt}
use Rattle.bc_classify.proofs.classify_candidates.parities_of.Given as goal

abbrev pub invariant-loop-region : goal.invariant-loop-region
invariant-loop-region l = AllZip (λ region. IsParityAt l.s l.c region.inner) (take l.region-index l.regions) l.parities
