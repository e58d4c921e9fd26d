use Rattle.std.proofs.Common.{◌≤◌, ◌-◌, length}
use Rattle.bc_cover.specs.Groups.{AreGroupsTo}
use Rattle.bc_cover.proofs.groups.groups_of.Given as goal

abbrev pub invariant-loop-start : goal.invariant-loop-start
invariant-loop-start l = record {
  within : l.start ≤ length l.masks;
  groups : AreGroupsTo l.masks 0 l.groups.items l.start;
}

abbrev pub decreases-loop-start : goal.decreases-loop-start
decreases-loop-start l = length l.masks - l.start
