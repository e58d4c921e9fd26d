use Rattle.std.proofs.Common.{arith, sym, subst, map, take, get_or, List}
use Rattle.bc_solid.specs.Meshes.{Edge3}
use Rattle.bc_solid.specs.EdgeTables.{edge_of, IsEdgeTable}
use Rattle.bc_solid.proofs.EdgeLists.{no_edge, seen_more, length-seen}
use Rattle.bc_solid.proofs.EdgeTables.{table_more, count_small}
use Rattle.bc_solid.proofs.edge_table.EdgeTable.of_edges.Goals as goal

pub add-requires : goal.add-requires
add-requires c =
    let s = count_small (map edge_of (take c.loop-edge.edge-index c.args.edges.now)) c.sorted.result c.loop-edge.table c.loop-edge.invariant c.sorted.ensures.sorted in
    let n = length-seen c.args.edges.now c.loop-edge.edge-index (omega (arith, c.loop-edge-test.true)) in
    omega (arith, s, n, c.loop-edge-test.true, c.requires.few)

pub loop-edge-preserved : goal.loop-edge-preserved
loop-edge-preserved c =
    subst (λ (es : List Edge3). IsEdgeTable es c.add.new.self) (sym (seen_more c.args.edges.now c.loop-edge.edge-index c.loop-edge-test.true))
    (table_more (map edge_of (take c.loop-edge.edge-index c.args.edges.now)) (edge_of (get_or c.args.edges.now c.loop-edge.edge-index no_edge)) c.sorted.result c.loop-edge.table c.add.new.self
    c.loop-edge.invariant c.sorted.ensures.sorted c.sorted.ensures.ends c.in_ok-add.ensures)
