use Rattle.std.proofs.Common.{sym, subst}
use Rattle.bc_io.specs.Growing.{GrewBy}
use Rattle.bc_read.specs.declared.fault.CsgFault.{CsgFault}
use Rattle.bc_status.specs.Reports.{of_csg}
use Rattle.bc_status.proofs.lines.put_csg.Goals as goal

pub returns-in-BadToken : goal.returns-in-BadToken
returns-in-BadToken g c = subst (λ (f : CsgFault). GrewBy g.K.Sink.held g.K.Sink.faults c.args.pen.now c.put_at_token.new.pen (of_csg f)) (sym c.in-BadToken.is) c.put_at_token.ensures

pub returns-in-BadShape : goal.returns-in-BadShape
returns-in-BadShape g c = subst (λ (f : CsgFault). GrewBy g.K.Sink.held g.K.Sink.faults c.args.pen.now c.put_at_token-in-BadShape.new.pen (of_csg f)) (sym c.in-BadShape.is) c.put_at_token-in-BadShape.ensures

pub returns-in-BadNumber : goal.returns-in-BadNumber
returns-in-BadNumber g c = subst (λ (f : CsgFault). GrewBy g.K.Sink.held g.K.Sink.faults c.args.pen.now c.put_at_token-in-BadNumber.new.pen (of_csg f)) (sym c.in-BadNumber.is) c.put_at_token-in-BadNumber.ensures

pub returns-in-BadFrame : goal.returns-in-BadFrame
returns-in-BadFrame g c = subst (λ (f : CsgFault). GrewBy g.K.Sink.held g.K.Sink.faults c.args.pen.now c.put_at_token-in-BadFrame.new.pen (of_csg f)) (sym c.in-BadFrame.is) c.put_at_token-in-BadFrame.ensures

pub returns-in-Mixed : goal.returns-in-Mixed
returns-in-Mixed g c = subst (λ (f : CsgFault). GrewBy g.K.Sink.held g.K.Sink.faults c.args.pen.now c.put_at_token-in-Mixed.new.pen (of_csg f)) (sym c.in-Mixed.is) c.put_at_token-in-Mixed.ensures

pub returns-in-TooDeep : goal.returns-in-TooDeep
returns-in-TooDeep g c = subst (λ (f : CsgFault). GrewBy g.K.Sink.held g.K.Sink.faults c.args.pen.now c.put_at_token-in-TooDeep.new.pen (of_csg f)) (sym c.in-TooDeep.is) c.put_at_token-in-TooDeep.ensures

pub returns-in-Extra : goal.returns-in-Extra
returns-in-Extra g c = subst (λ (f : CsgFault). GrewBy g.K.Sink.held g.K.Sink.faults c.args.pen.now c.put_at_token-in-Extra.new.pen (of_csg f)) (sym c.in-Extra.is) c.put_at_token-in-Extra.ensures

pub returns-in-Memory : goal.returns-in-Memory
returns-in-Memory g c = subst (λ (f : CsgFault). GrewBy g.K.Sink.held g.K.Sink.faults c.args.pen.now c.put.new.self (of_csg f)) (sym c.in-Memory.is) c.put.ensures
