-- The sink has the front of the piece, and its count stays.
use Rattle.std.proofs.Common.{◌≡◌, List, ℕ, length, ◌++◌}
use Rattle.std.specs.Io.KnownBytes.{Appends}
use Rattle.bc_io.proofs.whole.put_all.Given as goal

abbrev pub invariant-loop-rest : goal.invariant-loop-rest
invariant-loop-rest g l = record {
  bytes : (front : List ℕ) × (l.piece ≡ front ++ l.rest) × Appends (g.K.Sink.held l.initial.out) (g.K.Sink.held l.out) front;
  good : g.K.Sink.faults l.out ≡ g.K.Sink.faults l.initial.out;
}

abbrev pub decreases-loop-rest : goal.decreases-loop-rest
decreases-loop-rest g l = length l.rest
