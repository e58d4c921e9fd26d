use Rattle.std.proofs.Common.{take}
use Rattle.bc_classify.specs.CellSplits.{IsSplit3}
use Rattle.bc_classify.proofs.classify_cells.classify3.Given as goal

abbrev pub invariant-loop-cell : goal.invariant-loop-cell
invariant-loop-cell l = IsSplit3 l.s (take l.cell-index l.cells) (record { inside = l.inside; outside = l.outside })
