use Rattle.bc_io.proofs.Grown.{behind}
use Rattle.bc_status.proofs.lines.put_overlap.Goals as goal

pub returns : goal.returns
returns g c = behind c.put.ensures (behind c.put_next.ensures c.put_next-2.ensures)
