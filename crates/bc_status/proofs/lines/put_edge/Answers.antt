use Rattle.bc_io.proofs.Grown.{behind}
use Rattle.bc_status.proofs.lines.put_edge.Goals as goal

pub returns : goal.returns
returns g c = behind c.put.ensures (behind c.put_corner.ensures (behind c.put_corner-2.ensures c.put_next.ensures))
