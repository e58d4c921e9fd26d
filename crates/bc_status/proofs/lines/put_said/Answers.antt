use Rattle.std.proofs.Common.{sym, subst}
use Rattle.bc_io.specs.Growing.{GrewBy}
use Rattle.bc_status.specs.declared.status.Refusal.{Refusal}
use Rattle.bc_status.specs.Reports.{said}
use Rattle.bc_status.proofs.lines.put_said.Goals as goal

pub returns-in-PointTooFine : goal.returns-in-PointTooFine
returns-in-PointTooFine g c = subst (λ (f : Refusal). GrewBy g.K.Sink.held g.K.Sink.faults c.args.pen.now c.put.new.self (said f)) (sym c.in-PointTooFine.is) c.put.ensures

pub returns-in-PointOffPlane : goal.returns-in-PointOffPlane
returns-in-PointOffPlane g c = subst (λ (f : Refusal). GrewBy g.K.Sink.held g.K.Sink.faults c.args.pen.now c.put-in-PointOffPlane.new.self (said f)) (sym c.in-PointOffPlane.is) c.put-in-PointOffPlane.ensures

pub returns-in-TooLong : goal.returns-in-TooLong
returns-in-TooLong g c = subst (λ (f : Refusal). GrewBy g.K.Sink.held g.K.Sink.faults c.args.pen.now c.put-in-TooLong.new.self (said f)) (sym c.in-TooLong.is) c.put-in-TooLong.ensures

pub returns-in-Off : goal.returns-in-Off
returns-in-Off g c = subst (λ (f : Refusal). GrewBy g.K.Sink.held g.K.Sink.faults c.args.pen.now c.put_text.new.pen (said f)) (sym c.in-Off.is) c.put_text.ensures

pub returns-in-G : goal.returns-in-G
returns-in-G g c = subst (λ (f : Refusal). GrewBy g.K.Sink.held g.K.Sink.faults c.args.pen.now c.put_grammar.new.pen (said f)) (sym c.in-G.is) c.put_grammar.ensures

pub returns-in-Mesh : goal.returns-in-Mesh
returns-in-Mesh g c = subst (λ (f : Refusal). GrewBy g.K.Sink.held g.K.Sink.faults c.args.pen.now c.put_mesh.new.pen (said f)) (sym c.in-Mesh.is) c.put_mesh.ensures

pub returns-in-Contour : goal.returns-in-Contour
returns-in-Contour g c = subst (λ (f : Refusal). GrewBy g.K.Sink.held g.K.Sink.faults c.args.pen.now c.put_contours.new.pen (said f)) (sym c.in-Contour.is) c.put_contours.ensures

pub returns-in-Limit : goal.returns-in-Limit
returns-in-Limit g c = subst (λ (f : Refusal). GrewBy g.K.Sink.held g.K.Sink.faults c.args.pen.now c.put_limit.new.pen (said f)) (sym c.in-Limit.is) c.put_limit.ensures

pub returns-in-Csg : goal.returns-in-Csg
returns-in-Csg g c = subst (λ (f : Refusal). GrewBy g.K.Sink.held g.K.Sink.faults c.args.pen.now c.put_csg.new.pen (said f)) (sym c.in-Csg.is) c.put_csg.ensures

pub returns-in-NoPart : goal.returns-in-NoPart
returns-in-NoPart g c = subst (λ (f : Refusal). GrewBy g.K.Sink.held g.K.Sink.faults c.args.pen.now c.put-in-NoPart.new.self (said f)) (sym c.in-NoPart.is) c.put-in-NoPart.ensures

pub returns-in-PartTooLong : goal.returns-in-PartTooLong
returns-in-PartTooLong g c = subst (λ (f : Refusal). GrewBy g.K.Sink.held g.K.Sink.faults c.args.pen.now c.put_counted.new.pen (said f)) (sym c.in-PartTooLong.is) c.put_counted.ensures

pub returns-in-Second : goal.returns-in-Second
returns-in-Second g c = subst (λ (f : Refusal). GrewBy g.K.Sink.held g.K.Sink.faults c.args.pen.now c.put_in_second.new.pen (said f)) (sym c.in-Second.is) c.put_in_second.ensures

pub returns-in-NotSolid : goal.returns-in-NotSolid
returns-in-NotSolid g c = subst (λ (f : Refusal). GrewBy g.K.Sink.held g.K.Sink.faults c.args.pen.now c.put-in-NotSolid.new.self (said f)) (sym c.in-NotSolid.is) c.put-in-NotSolid.ensures

pub returns-in-OtherBox : goal.returns-in-OtherBox
returns-in-OtherBox g c = subst (λ (f : Refusal). GrewBy g.K.Sink.held g.K.Sink.faults c.args.pen.now c.put-in-OtherBox.new.self (said f)) (sym c.in-OtherBox.is) c.put-in-OtherBox.ensures

pub returns-in-Layer : goal.returns-in-Layer
returns-in-Layer g c = subst (λ (f : Refusal). GrewBy g.K.Sink.held g.K.Sink.faults c.args.pen.now c.put_layers.new.pen (said f)) (sym c.in-Layer.is) c.put_layers.ensures

pub returns-in-InLayer : goal.returns-in-InLayer
returns-in-InLayer g c = subst (λ (f : Refusal). GrewBy g.K.Sink.held g.K.Sink.faults c.args.pen.now c.put_in_layer.new.pen (said f)) (sym c.in-InLayer.is) c.put_in_layer.ensures
