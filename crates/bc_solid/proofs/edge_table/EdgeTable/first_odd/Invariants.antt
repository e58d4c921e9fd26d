use Rattle.std.proofs.Common.{◌≡◌, ◌%◌, take, All}
use Rattle.std.specs.Map.{keys_of}
use Rattle.bc_solid.specs.EdgeTables.{count_of}
use Rattle.bc_solid.proofs.edge_table.EdgeTable.first_odd.Given as goal

abbrev pub invariant-loop-i : goal.invariant-loop-i
invariant-loop-i l = All (λ k. count_of k l.self % 2 ≡ 0) (take l.i (keys_of l.self))
