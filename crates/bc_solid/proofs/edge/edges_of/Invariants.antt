use Rattle.std.proofs.Common.{◌≡◌, ◌++◌, map, drop}
use Rattle.bc_solid.specs.Meshes.{all_edges}
use Rattle.bc_solid.specs.Facets.{facet_of, outlines}
use Rattle.bc_solid.specs.EdgeTables.{edge_of}
use Rattle.bc_solid.proofs.edge.edges_of.Given as goal

abbrev pub invariant-loop-facet : goal.invariant-loop-facet
invariant-loop-facet l =
    map edge_of l.list ++ all_edges (outlines (map facet_of (drop l.facet-index l.facets))) ≡ all_edges (outlines (map facet_of l.facets))
