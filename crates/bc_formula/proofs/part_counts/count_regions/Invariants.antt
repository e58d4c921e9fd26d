use Rattle.std.proofs.Common.{◌≤◌, ◌*◌, ◌^◌}
use Rattle.bc_formula.proofs.RegionCounts.{AreCounted}
use Rattle.bc_formula.proofs.part_counts.count_regions.Given as goal

-- and each list has fewer than 2^64
abbrev pub invariant-loop-r : goal.invariant-loop-r
invariant-loop-r l = AreCounted l.tile l.lines l.discs l.regions l.profile l.table l.r l.parts l.inside × (l.parts ≤ l.r * 2 ^ 64) × (l.inside ≤ l.r * 2 ^ 64)
