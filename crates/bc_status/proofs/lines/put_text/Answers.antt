use Rattle.std.proofs.Common.{sym, subst}
use Rattle.bc_io.specs.Growing.{GrewBy}
use Rattle.bc_off.specs.declared.fault.OffFault.{OffFault}
use Rattle.bc_status.specs.Reports.{of_text}
use Rattle.bc_status.proofs.lines.put_text.Goals as goal

pub returns-in-NotOff : goal.returns-in-NotOff
returns-in-NotOff g c = subst (λ (f : OffFault). GrewBy g.K.Sink.held g.K.Sink.faults c.args.pen.now c.put_at_word.new.pen (of_text f)) (sym c.in-NotOff.is) c.put_at_word.ensures

pub returns-in-BadCount : goal.returns-in-BadCount
returns-in-BadCount g c = subst (λ (f : OffFault). GrewBy g.K.Sink.held g.K.Sink.faults c.args.pen.now c.put_at_word-in-BadCount.new.pen (of_text f)) (sym c.in-BadCount.is) c.put_at_word-in-BadCount.ensures

pub returns-in-Short : goal.returns-in-Short
returns-in-Short g c = subst (λ (f : OffFault). GrewBy g.K.Sink.held g.K.Sink.faults c.args.pen.now c.put_at_word-in-Short.new.pen (of_text f)) (sym c.in-Short.is) c.put_at_word-in-Short.ensures

pub returns-in-BadWord : goal.returns-in-BadWord
returns-in-BadWord g c = subst (λ (f : OffFault). GrewBy g.K.Sink.held g.K.Sink.faults c.args.pen.now c.put_at_word-in-BadWord.new.pen (of_text f)) (sym c.in-BadWord.is) c.put_at_word-in-BadWord.ensures

pub returns-in-NotWhole : goal.returns-in-NotWhole
returns-in-NotWhole g c = subst (λ (f : OffFault). GrewBy g.K.Sink.held g.K.Sink.faults c.args.pen.now c.put_at_word-in-NotWhole.new.pen (of_text f)) (sym c.in-NotWhole.is) c.put_at_word-in-NotWhole.ensures

pub returns-in-TooFar : goal.returns-in-TooFar
returns-in-TooFar g c = subst (λ (f : OffFault). GrewBy g.K.Sink.held g.K.Sink.faults c.args.pen.now c.put_at_word-in-TooFar.new.pen (of_text f)) (sym c.in-TooFar.is) c.put_at_word-in-TooFar.ensures

pub returns-in-BadIndex : goal.returns-in-BadIndex
returns-in-BadIndex g c = subst (λ (f : OffFault). GrewBy g.K.Sink.held g.K.Sink.faults c.args.pen.now c.put_at_word-in-BadIndex.new.pen (of_text f)) (sym c.in-BadIndex.is) c.put_at_word-in-BadIndex.ensures

pub returns-in-ShortFace : goal.returns-in-ShortFace
returns-in-ShortFace g c = subst (λ (f : OffFault). GrewBy g.K.Sink.held g.K.Sink.faults c.args.pen.now c.put_at_word-in-ShortFace.new.pen (of_text f)) (sym c.in-ShortFace.is) c.put_at_word-in-ShortFace.ensures

pub returns-in-TooMany : goal.returns-in-TooMany
returns-in-TooMany g c = subst (λ (f : OffFault). GrewBy g.K.Sink.held g.K.Sink.faults c.args.pen.now c.put_at_word-in-TooMany.new.pen (of_text f)) (sym c.in-TooMany.is) c.put_at_word-in-TooMany.ensures

pub returns-in-Extra : goal.returns-in-Extra
returns-in-Extra g c = subst (λ (f : OffFault). GrewBy g.K.Sink.held g.K.Sink.faults c.args.pen.now c.put_at_word-in-Extra.new.pen (of_text f)) (sym c.in-Extra.is) c.put_at_word-in-Extra.ensures

pub returns-in-Memory : goal.returns-in-Memory
returns-in-Memory g c = subst (λ (f : OffFault). GrewBy g.K.Sink.held g.K.Sink.faults c.args.pen.now c.put.new.self (of_text f)) (sym c.in-Memory.is) c.put.ensures
