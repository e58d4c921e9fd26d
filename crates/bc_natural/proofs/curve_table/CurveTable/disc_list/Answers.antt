use Rattle.bc_natural.proofs.Lists.{copied_more}
use Rattle.bc_natural.proofs.curve_table.CurveTable.disc_list.Goals as goal

pub loop-i-preserved : goal.loop-i-preserved
loop-i-preserved c = copied_more c.args.self.now.discs c.loop-i.list c.push.new.self c.loop-i.i c.disc.result c.disc.ensures c.loop-i.invariant c.in_ok-push.ensures.ok
