use Rattle.std.proofs.Common.{◌≡◌, take}
use Rattle.bc_natural.specs.Curves.{lines_of}
use Rattle.bc_natural.proofs.curve_table.CurveTable.line_list.Given as goal

abbrev pub invariant-loop-i : goal.invariant-loop-i
invariant-loop-i l = l.list ≡ take l.i (lines_of l.self)
