use Rattle.std.proofs.Common.{take}
use Rattle.bc_natural.specs.Curves.{AreCurves}
use Rattle.bc_natural.specs.Limits.{AreSized}
use Rattle.bc_natural.proofs.gather_curves.gather_curves.Given as goal

abbrev pub invariant-loop-i : goal.invariant-loop-i
invariant-loop-i l = record { table : AreCurves (take l.i l.s) l.table; sized : AreSized l.table }
