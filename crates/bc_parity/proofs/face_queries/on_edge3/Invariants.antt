use Rattle.std.proofs.Common.{◌≡◌, drop}
use Rattle.std.specs.List.{list_any}
use Rattle.bc_parity.proofs.FaceLoops.{is_on_face}
use Rattle.bc_parity.proofs.face_queries.on_edge3.Given as goal

abbrev pub invariant-loop-f : goal.invariant-loop-f
invariant-loop-f l = list_any (is_on_face l.p) (drop l.f l.s) ≡ list_any (is_on_face l.p) l.s
