use Rattle.std.proofs.Common.{◌≡◌, take}
use Rattle.bc_solid.specs.Meshes.{corners_of}
use Rattle.bc_solid.proofs.outline.outline.Given as goal

abbrev pub invariant-loop-i : goal.invariant-loop-i
invariant-loop-i l = l.corners ≡ corners_of l.points (take l.i-index l.face)
