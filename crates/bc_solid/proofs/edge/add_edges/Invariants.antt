use Rattle.std.proofs.Common.{◌≡◌, ◌++◌, map, take}
use Rattle.bc_solid.specs.Meshes.{edges}
use Rattle.bc_solid.specs.EdgeTables.{edge_of}
use Rattle.bc_solid.proofs.edge.add_edges.Given as goal

abbrev pub invariant-loop-place : goal.invariant-loop-place
invariant-loop-place l = map edge_of l.list ≡ map edge_of l.initial.list ++ take l.place (edges l.corners)
