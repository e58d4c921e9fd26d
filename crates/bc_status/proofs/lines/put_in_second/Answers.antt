use Rattle.bc_io.proofs.Grown.{behind}
use Rattle.bc_status.proofs.lines.put_in_second.Goals as goal

pub returns : goal.returns
returns g c = behind c.put.ensures c.put_part.ensures
