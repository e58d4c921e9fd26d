use Rattle.std.proofs.Common.{arith}
use Rattle.bc_natural.proofs.PlaneTables.{planes_nil, planes_more, planes_sized_nil, planes_sized_more}
use Rattle.bc_natural.proofs.gather_planes.gather_planes.Goals as goal

pub loop-f-init : goal.loop-f-init
loop-f-init c = record {
  table = planes_nil c.new-table.result c.new-table.ensures;
  sized = planes_sized_nil c.new-table.result c.new-table.ensures;
}

pub loop-f-preserved : goal.loop-f-preserved
loop-f-preserved c = record {
  table = planes_more c.args.s.now c.loop-f.f c.plane.result c.first_corner.result c.loop-f.table c.add_plane.new.self (omega arith)
      c.plane.ensures.at c.first_corner.ensures.corner c.loop-f.invariant.table c.in_ok-add_plane.ensures;
  sized = planes_sized_more c.args.s.now c.loop-f.f c.plane.result c.first_corner.result c.loop-f.table c.add_plane.new.self c.law.ensures (omega arith)
      c.plane.ensures.at c.first_corner.ensures.near c.loop-f.invariant.sized c.in_ok-add_plane.ensures;
}
