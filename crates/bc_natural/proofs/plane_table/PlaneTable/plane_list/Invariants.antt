use Rattle.std.proofs.Common.{◌≡◌, take}
use Rattle.bc_natural.specs.Planes.{planes_of}
use Rattle.bc_natural.proofs.plane_table.PlaneTable.plane_list.Given as goal

abbrev pub invariant-loop-i : goal.invariant-loop-i
invariant-loop-i l = l.list ≡ take l.i (planes_of l.self)
