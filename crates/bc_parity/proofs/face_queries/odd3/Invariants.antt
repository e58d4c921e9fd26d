use Rattle.std.proofs.Common.{◌≡◌, drop}
use Rattle.bc_parity.specs.Parity.{xor}
use Rattle.bc_parity.specs.Sums.{odd}
use Rattle.bc_parity.specs.Faces.{is_face_crossed}
use Rattle.bc_parity.proofs.face_queries.odd3.Given as goal

abbrev pub invariant-loop-f : goal.invariant-loop-f
invariant-loop-f l = xor l.odd (odd (λ f. is_face_crossed f l.p) (drop l.f l.s)) ≡ odd (λ f. is_face_crossed f l.p) l.s
