use Rattle.bc_natural.specs.Planes.{planes_of}
use Rattle.bc_natural.proofs.Lists.{copied_more}
use Rattle.bc_natural.proofs.plane_table.PlaneTable.plane_list.Goals as goal

pub loop-i-preserved : goal.loop-i-preserved
loop-i-preserved c = copied_more (planes_of c.args.self.now) c.loop-i.list c.push.new.self c.loop-i.i c.plane.result c.plane.ensures c.loop-i.invariant c.in_ok-push.ensures.ok
