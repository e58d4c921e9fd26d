use Rattle.bc_natural.specs.Curves.{lines_of}
use Rattle.bc_natural.proofs.Lists.{copied_more}
use Rattle.bc_natural.proofs.curve_table.CurveTable.line_list.Goals as goal

pub loop-i-preserved : goal.loop-i-preserved
loop-i-preserved c = copied_more (lines_of c.args.self.now) c.loop-i.list c.push.new.self c.loop-i.i c.line.result c.line.ensures c.loop-i.invariant c.in_ok-push.ensures.ok
