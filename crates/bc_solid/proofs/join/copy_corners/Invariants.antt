use Rattle.std.proofs.Common.{◌≡◌, take}
use Rattle.bc_solid.proofs.join.copy_corners.Given as goal

abbrev pub invariant-loop-corner : goal.invariant-loop-corner
invariant-loop-corner l = l.copy ≡ take l.corner-index l.corners
