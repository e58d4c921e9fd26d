use Rattle.std.proofs.Common.{sym, subst}
use Rattle.bc_io.specs.Growing.{GrewBy}
use Rattle.bc_solid.specs.declared.mesh_fault.MeshFault.{MeshFault}
use Rattle.bc_status.specs.Reports.{of_mesh}
use Rattle.bc_status.proofs.lines.put_mesh.Goals as goal

pub returns-in-TwinCorner : goal.returns-in-TwinCorner
returns-in-TwinCorner g c = subst (λ (f : MeshFault). GrewBy g.K.Sink.held g.K.Sink.faults c.args.pen.now c.put_at_place.new.pen (of_mesh f)) (sym c.in-TwinCorner.is) c.put_at_place.ensures

pub returns-in-FlatFace : goal.returns-in-FlatFace
returns-in-FlatFace g c = subst (λ (f : MeshFault). GrewBy g.K.Sink.held g.K.Sink.faults c.args.pen.now c.put_at_face.new.pen (of_mesh f)) (sym c.in-FlatFace.is) c.put_at_face.ensures

pub returns-in-BentFace : goal.returns-in-BentFace
returns-in-BentFace g c = subst (λ (f : MeshFault). GrewBy g.K.Sink.held g.K.Sink.faults c.args.pen.now c.put_at_place-in-BentFace.new.pen (of_mesh f)) (sym c.in-BentFace.is) c.put_at_place-in-BentFace.ensures

pub returns-in-OddEdge : goal.returns-in-OddEdge
returns-in-OddEdge g c = subst (λ (f : MeshFault). GrewBy g.K.Sink.held g.K.Sink.faults c.args.pen.now c.put_edge.new.pen (of_mesh f)) (sym c.in-OddEdge.is) c.put_edge.ensures

pub returns-in-Memory : goal.returns-in-Memory
returns-in-Memory g c = subst (λ (f : MeshFault). GrewBy g.K.Sink.held g.K.Sink.faults c.args.pen.now c.put.new.self (of_mesh f)) (sym c.in-Memory.is) c.put.ensures
