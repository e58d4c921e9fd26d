use Rattle.bc_io.proofs.Grown.{no_piece}
use Rattle.bc_text.proofs.Written.{one_more}
use Rattle.bc_text.proofs.indent.put_indent.Goals as goal

pub loop-init : goal.loop-init
loop-init g c = no_piece _ _ _

pub loop-preserved : goal.loop-preserved
loop-preserved g c = one_more _ c.loop.invariant c.put.ensures
