use Rattle.std.proofs.Common.{sym, subst}
use Rattle.bc_io.specs.Growing.{GrewBy}
use Rattle.bc_gcode.specs.declared.fault.GFault.{GFault}
use Rattle.bc_status.specs.Reports.{of_grammar}
use Rattle.bc_status.proofs.lines.put_grammar.Goals as goal

pub returns-in-BadWord : goal.returns-in-BadWord
returns-in-BadWord g c = subst (λ (f : GFault). GrewBy g.K.Sink.held g.K.Sink.faults c.args.pen.now c.put_at_word.new.pen (of_grammar f)) (sym c.in-BadWord.is) c.put_at_word.ensures

pub returns-in-UnknownWord : goal.returns-in-UnknownWord
returns-in-UnknownWord g c = subst (λ (f : GFault). GrewBy g.K.Sink.held g.K.Sink.faults c.args.pen.now c.put_at_word-in-UnknownWord.new.pen (of_grammar f)) (sym c.in-UnknownWord.is) c.put_at_word-in-UnknownWord.ensures

pub returns-in-Incremental : goal.returns-in-Incremental
returns-in-Incremental g c = subst (λ (f : GFault). GrewBy g.K.Sink.held g.K.Sink.faults c.args.pen.now c.put_at_word-in-Incremental.new.pen (of_grammar f)) (sym c.in-Incremental.is) c.put_at_word-in-Incremental.ensures

pub returns-in-TwinWord : goal.returns-in-TwinWord
returns-in-TwinWord g c = subst (λ (f : GFault). GrewBy g.K.Sink.held g.K.Sink.faults c.args.pen.now c.put_at_word-in-TwinWord.new.pen (of_grammar f)) (sym c.in-TwinWord.is) c.put_at_word-in-TwinWord.ensures

pub returns-in-NotWhole : goal.returns-in-NotWhole
returns-in-NotWhole g c = subst (λ (f : GFault). GrewBy g.K.Sink.held g.K.Sink.faults c.args.pen.now c.put_at_word-in-NotWhole.new.pen (of_grammar f)) (sym c.in-NotWhole.is) c.put_at_word-in-NotWhole.ensures

pub returns-in-TooFar : goal.returns-in-TooFar
returns-in-TooFar g c = subst (λ (f : GFault). GrewBy g.K.Sink.held g.K.Sink.faults c.args.pen.now c.put_at_word-in-TooFar.new.pen (of_grammar f)) (sym c.in-TooFar.is) c.put_at_word-in-TooFar.ensures

pub returns-in-ThreeAxis : goal.returns-in-ThreeAxis
returns-in-ThreeAxis g c = subst (λ (f : GFault). GrewBy g.K.Sink.held g.K.Sink.faults c.args.pen.now c.put_at_line.new.pen (of_grammar f)) (sym c.in-ThreeAxis.is) c.put_at_line.ensures

pub returns-in-MissingMotion : goal.returns-in-MissingMotion
returns-in-MissingMotion g c = subst (λ (f : GFault). GrewBy g.K.Sink.held g.K.Sink.faults c.args.pen.now c.put_at_line-in-MissingMotion.new.pen (of_grammar f)) (sym c.in-MissingMotion.is) c.put_at_line-in-MissingMotion.ensures

pub returns-in-MissingCentre : goal.returns-in-MissingCentre
returns-in-MissingCentre g c = subst (λ (f : GFault). GrewBy g.K.Sink.held g.K.Sink.faults c.args.pen.now c.put_at_line-in-MissingCentre.new.pen (of_grammar f)) (sym c.in-MissingCentre.is) c.put_at_line-in-MissingCentre.ensures

pub returns-in-OpenContour : goal.returns-in-OpenContour
returns-in-OpenContour g c = subst (λ (f : GFault). GrewBy g.K.Sink.held g.K.Sink.faults c.args.pen.now c.put_open.new.pen (of_grammar f)) (sym c.in-OpenContour.is) c.put_open.ensures

pub returns-in-TooMany : goal.returns-in-TooMany
returns-in-TooMany g c = subst (λ (f : GFault). GrewBy g.K.Sink.held g.K.Sink.faults c.args.pen.now c.put_at_line-in-TooMany.new.pen (of_grammar f)) (sym c.in-TooMany.is) c.put_at_line-in-TooMany.ensures

pub returns-in-Memory : goal.returns-in-Memory
returns-in-Memory g c = subst (λ (f : GFault). GrewBy g.K.Sink.held g.K.Sink.faults c.args.pen.now c.put.new.self (of_grammar f)) (sym c.in-Memory.is) c.put.ensures
