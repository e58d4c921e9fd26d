use Rattle.std.proofs.Common.{map}
use Rattle.bc_solid.specs.EdgeTables.{edge_of}
use Rattle.bc_solid.proofs.EdgeLists.{edges_more, edges_all}
use Rattle.bc_solid.proofs.edge.add_edges.Goals as goal

pub loop-place-preserved : goal.loop-place-preserved
loop-place-preserved c =
    edges_more c.args.corners.now (map edge_of c.args.list.now) c.loop-place.list c.push.new.self c.loop-place.place c.edge_at.result c.edge_at.ensures c.loop-place.invariant c.in_ok-push.ensures.ok

pub returns : goal.returns
returns c = edges_all c.args.corners.now (map edge_of c.args.list.now) c.loop-place.list c.loop-place.place c.loop-place-test.false c.loop-place.invariant
