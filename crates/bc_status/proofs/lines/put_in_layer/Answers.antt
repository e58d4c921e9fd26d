use Rattle.bc_io.proofs.Grown.{behind}
use Rattle.bc_status.proofs.lines.put_in_layer.Goals as goal

pub returns : goal.returns
returns g c = behind c.put_next.ensures (behind c.put.ensures c.put_inner.ensures)
