use Rattle.std.proofs.Common.{◌≡◌, ◌<◌, length}
use Rattle.bc_notes.specs.Bests.{AreSteps}
use Rattle.bc_notes.proofs.bests.improve_each.Given as goal

abbrev pub invariant-loop-i : goal.invariant-loop-i
invariant-loop-i l = record {
  len : length l.bests.items ≡ length l.initial.bests.items;
  each : AreSteps (λ j. j < l.i) l.spot l.initial.bests.items l.bests.items;
}
