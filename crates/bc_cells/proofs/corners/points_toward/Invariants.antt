use Rattle.std.proofs.Common.{take}
use Rattle.bc_cells.specs.Constraints.{Toward}
use Rattle.bc_cells.specs.Gathers.{Selects}
use Rattle.bc_cells.proofs.corners.points_toward.Given as goal

abbrev pub invariant-loop-c : goal.invariant-loop-c
invariant-loop-c g l = Selects (take l.c-index l.points) l.kept (λ c. Toward l.fn.side (g.S.Half.HalfSpace.side_of l.h c))
