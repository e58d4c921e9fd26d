use Rattle.bc_io.proofs.Grown.{behind}
use Rattle.bc_status.proofs.lines.put_at_token.Goals as goal

pub returns : goal.returns
returns g c = behind c.put_at_line.ensures c.put_next.ensures
