use Rattle.bc_tree.specs.Shape.{shape}
use Rattle.bc_audit.proofs.PlaneLists.{made, made_sized}
use Rattle.bc_audit.proofs.planes.all_planes.Goals as goal

pub returns-clause-planes : goal.returns-clause-planes
returns-clause-planes c = made c.args.s.now (shape c.args.t.now) c.in_ok-planes.planes c.add_slab_planes.new.planes c.in_ok-planes.ensures c.in_ok-add_slab_planes.ensures

pub returns-clause-sized : goal.returns-clause-sized
returns-clause-sized c =
    made_sized c.args.s.now (shape c.args.t.now) c.in_ok-planes.planes c.add_slab_planes.new.planes c.law.ensures c.in_ok-planes.ensures c.in_ok-add_slab_planes.ensures
