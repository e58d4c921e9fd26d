use Rattle.std.proofs.Common.{◌≡◌}
use Rattle.bc_cover.specs.Groups.{held_below}
use Rattle.bc_cover.proofs.groups.add_places.Given as goal

abbrev pub invariant-loop-i : goal.invariant-loop-i
invariant-loop-i l = l.places.items ≡ held_below l.masks l.pos l.neg l.i
