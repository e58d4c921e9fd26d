use Rattle.std.proofs.Common.{[], arith, refl}
use Rattle.bc_io.proofs.Grown.{no_piece, same_piece}
use Rattle.bc_prism.proofs.Layers.{layer_more, layers_done}
use Rattle.bc_prism.proofs.write.put_layers.Goals as goal

pub loop-layer-init : goal.loop-layer-init
loop-layer-init g c = ([], no_piece _ _ _, refl)

pub loop-layer-preserved : goal.loop-layer-preserved
loop-layer-preserved g c =
    let so_far = c.loop-layer.invariant in
    layer_more _ so_far.0 c.args.layers.now c.loop-layer.layer-index c.layer-item.result (omega arith) c.layer-item.is so_far.1 c.put_layer.ensures so_far.2

pub returns : goal.returns
returns g c =
    let so_far = c.loop-layer.invariant in
    same_piece (layers_done _ so_far.0 c.args.layers.now c.loop-layer.layer-index (omega arith) so_far.2) so_far.1
