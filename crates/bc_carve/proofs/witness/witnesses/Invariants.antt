use Rattle.std.proofs.Common.{length}
use Rattle.bc_carve.specs.Shape.{shapes}
use Rattle.bc_carve.proofs.WitnessFacts.{AreSoFar}
use Rattle.bc_carve.proofs.witness.witnesses.Given as goal

abbrev pub invariant-loop-place : goal.invariant-loop-place
invariant-loop-place l = AreSoFar l.inside l.outside l.place 0 (shapes l.pieces) l.shown.items

abbrev pub invariant-loop-place-2 : goal.invariant-loop-place-2
invariant-loop-place-2 l = AreSoFar l.inside l.outside (length l.inside) l.place (shapes l.pieces) l.shown.items
