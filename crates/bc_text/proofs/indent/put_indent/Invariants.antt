-- An indent for each turn is written.
use Rattle.bc_io.specs.Growing.{GrewBy}
use Rattle.bc_text.specs.Layout.{indent}
use Rattle.bc_text.proofs.indent.put_indent.Given as goal

abbrev pub invariant-loop : goal.invariant-loop
invariant-loop g l = GrewBy g.K.Sink.held g.K.Sink.faults l.initial.pen l.pen (indent l.counter)
