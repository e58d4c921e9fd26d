use Rattle.std.proofs.Common.{take, All}
use Rattle.bc_solid.specs.Facets.{IsOnPlane}
use Rattle.bc_solid.proofs.face_plane.first_off.Given as goal

abbrev pub invariant-loop-place : goal.invariant-loop-place
invariant-loop-place l = All (IsOnPlane l.plane) (take l.place l.corners)
