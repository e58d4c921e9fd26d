use Rattle.std.proofs.Common.{drop, length}
use Rattle.std.specs.Prelude.{All}
use Rattle.bc_cover.specs.Groups.{AreGroupsTo}
use Rattle.bc_cover.specs.Rows.{IsRow}
use Rattle.bc_cover.proofs.rows.neighbour_rows.Given as goal

abbrev pub invariant-loop-group : goal.invariant-loop-group
invariant-loop-group l = record {
  groups : AreGroupsTo l.outside.masks.now l.start (drop l.group-index l.outside.groups.items) (length l.outside.masks.now);
  each : All (IsRow l.outside.masks.now l.mask) l.rows.items;
}
