use Rattle.bc_io.proofs.Grown.{behind}
use Rattle.bc_status.proofs.reporting.put_refused.Goals as goal

pub returns : goal.returns
returns g c = behind c.put.ensures (behind c.put_said.ensures c.put-2.ensures)
