use Rattle.std.proofs.Common.{◌≡◌, ◌++◌, List, ℕ, drop}
use Rattle.bc_io.specs.Growing.{GrewBy}
use Rattle.bc_prism.specs.Layers.{layers_of}
use Rattle.bc_prism.specs.Prisms.{layers_text}
use Rattle.bc_prism.proofs.write.put_layers.Given as goal

-- what is written, and then the layers that are left, is all
abbrev pub invariant-loop-layer : goal.invariant-loop-layer
invariant-loop-layer g l =
    (done : List ℕ) × GrewBy g.K.Sink.held g.K.Sink.faults l.initial.pen l.pen done × (done ++ layers_text (layers_of (drop l.layer-index l.layers)) ≡ layers_text (layers_of l.layers))
