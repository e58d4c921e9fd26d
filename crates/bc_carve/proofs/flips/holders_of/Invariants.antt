use Rattle.std.proofs.Common.{◌≡◌, ◌≤◌, ◌+◌, min, drop}
use Rattle.bc_carve.specs.Shape.{shapes}
use Rattle.bc_carve.specs.Flips.{holders}
use Rattle.bc_carve.proofs.flips.holders_of.Given as goal

-- with those of the pieces that are left it is the count of all
abbrev pub invariant-loop-piece : goal.invariant-loop-piece
invariant-loop-piece l = record {
  small : l.count ≤ 2;
  all : min (l.count + holders l.mask (shapes (drop l.piece-index l.pieces))) 2 ≡ min (holders l.mask (shapes l.pieces)) 2;
}
