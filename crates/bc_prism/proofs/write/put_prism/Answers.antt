use Rattle.bc_io.proofs.Grown.{behind}
use Rattle.bc_prism.proofs.write.put_prism.Goals as goal

pub returns : goal.returns
returns g c =
    behind c.put.ensures (behind (behind c.put_solid_box.ensures c.put-2.ensures) (behind c.put-3.ensures (behind c.put_layers.ensures c.put-4.ensures)))
