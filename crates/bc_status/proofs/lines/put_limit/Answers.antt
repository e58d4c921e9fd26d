use Rattle.std.proofs.Common.{sym, subst}
use Rattle.bc_io.specs.Growing.{GrewBy}
use Rattle.bc_natural.specs.declared.nat_fault.NatFault.{NatFault}
use Rattle.bc_status.specs.Reports.{of_limit}
use Rattle.bc_status.proofs.lines.put_limit.Goals as goal

pub returns-in-TooManyPlanes : goal.returns-in-TooManyPlanes
returns-in-TooManyPlanes g c = subst (λ (f : NatFault). GrewBy g.K.Sink.held g.K.Sink.faults c.args.pen.now c.put_counted.new.pen (of_limit f)) (sym c.in-TooManyPlanes.is) c.put_counted.ensures

pub returns-in-TooManyLines : goal.returns-in-TooManyLines
returns-in-TooManyLines g c = subst (λ (f : NatFault). GrewBy g.K.Sink.held g.K.Sink.faults c.args.pen.now c.put_counted-in-TooManyLines.new.pen (of_limit f)) (sym c.in-TooManyLines.is) c.put_counted-in-TooManyLines.ensures

pub returns-in-TooManyDiscs : goal.returns-in-TooManyDiscs
returns-in-TooManyDiscs g c = subst (λ (f : NatFault). GrewBy g.K.Sink.held g.K.Sink.faults c.args.pen.now c.put_counted-in-TooManyDiscs.new.pen (of_limit f)) (sym c.in-TooManyDiscs.is) c.put_counted-in-TooManyDiscs.ensures

pub returns-in-Memory : goal.returns-in-Memory
returns-in-Memory g c = subst (λ (f : NatFault). GrewBy g.K.Sink.held g.K.Sink.faults c.args.pen.now c.put.new.self (of_limit f)) (sym c.in-Memory.is) c.put.ensures
