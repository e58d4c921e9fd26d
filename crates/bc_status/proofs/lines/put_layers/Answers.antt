use Rattle.std.proofs.Common.{sym, subst}
use Rattle.bc_io.specs.Growing.{GrewBy}
use Rattle.bc_prism.specs.declared.fault.LayerFault.{LayerFault}
use Rattle.bc_status.specs.Reports.{of_layers}
use Rattle.bc_status.proofs.lines.put_layers.Goals as goal

pub returns-in-BadLayer : goal.returns-in-BadLayer
returns-in-BadLayer g c = subst (λ (f : LayerFault). GrewBy g.K.Sink.held g.K.Sink.faults c.args.pen.now c.put_at_line.new.pen (of_layers f)) (sym c.in-BadLayer.is) c.put_at_line.ensures

pub returns-in-TooManyLayers : goal.returns-in-TooManyLayers
returns-in-TooManyLayers g c = subst (λ (f : LayerFault). GrewBy g.K.Sink.held g.K.Sink.faults c.args.pen.now c.put_at_line-in-TooManyLayers.new.pen (of_layers f)) (sym c.in-TooManyLayers.is) c.put_at_line-in-TooManyLayers.ensures

pub returns-in-Overlap : goal.returns-in-Overlap
returns-in-Overlap g c = subst (λ (f : LayerFault). GrewBy g.K.Sink.held g.K.Sink.faults c.args.pen.now c.put_overlap.new.pen (of_layers f)) (sym c.in-Overlap.is) c.put_overlap.ensures

pub returns-in-Memory : goal.returns-in-Memory
returns-in-Memory g c = subst (λ (f : LayerFault). GrewBy g.K.Sink.held g.K.Sink.faults c.args.pen.now c.put.new.self (of_layers f)) (sym c.in-Memory.is) c.put.ensures
