use Rattle.std.proofs.Common.{◌≡◌, drop, length}
use Rattle.bc_cover.specs.Groups.{AreGroupsTo, held_below}
use Rattle.bc_cover.proofs.groups.Grouped.places.Given as goal

abbrev pub invariant-loop-group : goal.invariant-loop-group
invariant-loop-group l = record {
  groups : AreGroupsTo l.self.masks.now l.start (drop l.group-index l.self.groups.items) (length l.self.masks.now);
  places : l.places.items ≡ held_below l.self.masks.now l.pos l.neg l.start;
}
