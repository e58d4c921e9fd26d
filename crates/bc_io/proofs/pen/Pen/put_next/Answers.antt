use Rattle.bc_io.proofs.Grown.{behind}
use Rattle.bc_io.proofs.pen.Pen.put_next.Goals as goal

pub returns : goal.returns
returns g c = behind c.put.ensures c.put_number.ensures
