use Rattle.bc_io.proofs.Grown.{behind}
use Rattle.bc_text.proofs.leaf.put_long_strip.Goals as goal

pub returns : goal.returns
returns g c =
    let m = rw c.normal.ensures at c.put_plane_columns.ensures in
    behind m (behind c.put_translate.ensures c.put_square.ensures)
