use Rattle.bc_io.proofs.Grown.{behind}
use Rattle.bc_text.proofs.indent.put_line.Goals as goal

pub returns : goal.returns
returns g c = behind c.put_indent.ensures c.put.ensures
