use Rattle.std.proofs.Common.{take}
use Rattle.bc_natural.specs.Planes.{ArePlanes, ArePlanesSized}
use Rattle.bc_natural.proofs.gather_planes.gather_planes.Given as goal

abbrev pub invariant-loop-f : goal.invariant-loop-f
invariant-loop-f l = record { table : ArePlanes (take l.f l.s) l.table; sized : ArePlanesSized l.table }
