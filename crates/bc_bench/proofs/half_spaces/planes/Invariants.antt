use Rattle.std.proofs.Common.{◌≡◌, length}
use Rattle.std.specs.List.{All}
use Rattle.bc_space.specs.Planes.{IsSizedPlane}
use Rattle.bc_bench.proofs.half_spaces.planes.Given as goal

abbrev pub invariant-loop-i : goal.invariant-loop-i
invariant-loop-i l = (length l.all ≡ l.i) × All IsSizedPlane l.all
