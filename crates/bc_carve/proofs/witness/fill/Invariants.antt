use Rattle.std.proofs.Common.{take}
use Rattle.bc_carve.specs.Steps.{IsFilled}
use Rattle.bc_carve.proofs.witness.fill.Given as goal

abbrev pub invariant-loop-place : goal.invariant-loop-place
invariant-loop-place l = IsFilled (take l.place-index l.places) l.witness l.initial.shown.items l.shown.items
