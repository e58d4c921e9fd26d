use Rattle.std.proofs.Common.{map, take}
use Rattle.bc_solid.specs.EdgeTables.{edge_of, IsEdgeTable}
use Rattle.bc_solid.proofs.edge_table.EdgeTable.of_edges.Given as goal

abbrev pub invariant-loop-edge : goal.invariant-loop-edge
invariant-loop-edge l = IsEdgeTable (map edge_of (take l.edge-index l.edges)) l.table
