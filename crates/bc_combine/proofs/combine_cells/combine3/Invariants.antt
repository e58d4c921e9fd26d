use Rattle.std.proofs.Common.{take}
use Rattle.bc_classify.specs.CellSplits.{marked3}
use Rattle.bc_combine.specs.Combined.{is_chosen3}
use Rattle.bc_combine.proofs.Lists.{AreTwo}
use Rattle.bc_combine.proofs.combine_cells.combine3.Given as goal

abbrev pub invariant-loop-cell : goal.invariant-loop-cell
invariant-loop-cell l = AreTwo marked3 (is_chosen3 l.op l.a l.b) (take l.cell-index l.cells) l.inside l.outside
