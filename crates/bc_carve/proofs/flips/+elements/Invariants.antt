use Rattle.std.proofs.Common.{◌≡◌, ◌≤◌, ◌+◌, ◌-◌, ◌^◌, min, drop}
use Rattle.bc_carve.specs.Shape.{shapes}
use Rattle.bc_carve.specs.Flips.{elements_in}
use Rattle.bc_carve.proofs.flips.+elements.Given as goal

-- with the elements of the pieces that are left it is the count of all
abbrev pub invariant-elements_in-loop-piece : goal.invariant-elements_in-loop-piece
invariant-elements_in-loop-piece l = record {
  small : l.count ≤ 2 ^ 64 - 1;
  all : min (l.count + elements_in (shapes (drop l.piece-index l.pieces))) (2 ^ 64 - 1) ≡ min (elements_in (shapes l.pieces)) (2 ^ 64 - 1);
}
