use Rattle.std.proofs.Common.{take, All}
use Rattle.bc_space.specs.PlanesThrough.{AreCollinear}
use Rattle.bc_solid.proofs.face_plane.first_plane.Given as goal

abbrev pub invariant-loop-corner : goal.invariant-loop-corner
invariant-loop-corner l = All (AreCollinear l.a l.b) (take l.corner-index l.corners)
