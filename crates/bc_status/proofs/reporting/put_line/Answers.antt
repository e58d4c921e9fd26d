use Rattle.std.proofs.Common.{sym, subst}
use Rattle.bc_io.specs.Growing.{GrewBy}
use Rattle.bc_status.specs.declared.status.Status.{Status}
use Rattle.bc_status.specs.Reports.{line}
use Rattle.bc_status.proofs.reporting.put_line.Goals as goal

pub returns-in-Refused : goal.returns-in-Refused
returns-in-Refused g c = subst (λ (f : Status). GrewBy g.K.Sink.held g.K.Sink.faults c.args.pen.now c.put_refused.new.pen (line f)) (sym c.in-Refused.is) c.put_refused.ensures

pub returns-in-Usage : goal.returns-in-Usage
returns-in-Usage g c = subst (λ (f : Status). GrewBy g.K.Sink.held g.K.Sink.faults c.args.pen.now c.put.new.self (line f)) (sym c.in-Usage.is) c.put.ensures

pub returns-in-ReadFault : goal.returns-in-ReadFault
returns-in-ReadFault g c = subst (λ (f : Status). GrewBy g.K.Sink.held g.K.Sink.faults c.args.pen.now c.put-in-ReadFault.new.self (line f)) (sym c.in-ReadFault.is) c.put-in-ReadFault.ensures

pub returns-in-WriteFault : goal.returns-in-WriteFault
returns-in-WriteFault g c = subst (λ (f : Status). GrewBy g.K.Sink.held g.K.Sink.faults c.args.pen.now c.put-in-WriteFault.new.self (line f)) (sym c.in-WriteFault.is) c.put-in-WriteFault.ensures

pub returns-in-Memory : goal.returns-in-Memory
returns-in-Memory g c = subst (λ (f : Status). GrewBy g.K.Sink.held g.K.Sink.faults c.args.pen.now c.put-in-Memory.new.self (line f)) (sym c.in-Memory.is) c.put-in-Memory.ensures
