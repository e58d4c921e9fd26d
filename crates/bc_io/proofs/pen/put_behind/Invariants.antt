use Rattle.std.proofs.Common.{◌≤◌, ◌<◌, ◌++◌, length, take}
use Rattle.bc_io.specs.Taking.{Takes}
use Rattle.bc_io.proofs.pen.put_behind.Given as goal

-- what is left of the piece still goes behind the bytes that wait
abbrev pub invariant-loop-rest : goal.invariant-loop-rest
invariant-loop-rest g l = record {
  bytes : Takes (g.K.Sink.held l.initial.out) (g.K.Sink.held l.out) (take l.initial.len l.initial.buf ++ l.piece) (take l.len l.buf ++ l.rest);
  within : l.len ≤ length l.buf;
  room : 0 < length l.buf;
  later : g.K.Sink.faults l.initial.out ≤ g.K.Sink.faults l.out;
}

abbrev pub decreases-loop-rest : goal.decreases-loop-rest
decreases-loop-rest g l = length l.rest
