use Rattle.std.proofs.Common.{◌≡◌, take, map}
use Rattle.bc_natural.specs.Distinct.{distinct}
use Rattle.bc_natural.specs.Planes.{is_same_plane}
use Rattle.bc_audit.proofs.planes.face_planes.Given as goal

abbrev pub invariant-loop-f : goal.invariant-loop-f
invariant-loop-f l = l.planes ≡ distinct is_same_plane (map (λ f. f.plane) (take l.f l.s))
