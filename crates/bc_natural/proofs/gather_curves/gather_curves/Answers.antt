use Rattle.bc_natural.proofs.Gathering.{curves_nil, sized_nil, curves_more, proper_at}
use Rattle.bc_natural.proofs.gather_curves.gather_curves.Goals as goal

pub loop-i-init : goal.loop-i-init
loop-i-init c = record {
  table = curves_nil c.new-table.result c.new-table.ensures.lines c.new-table.ensures.discs;
  sized = sized_nil c.new-table.result c.new-table.ensures.lines c.new-table.ensures.discs;
}

pub note-requires-clause-proper : goal.note-requires-clause-proper
note-requires-clause-proper c = proper_at c.args.s.now c.loop-i.i c.element.result c.law.ensures c.element.ensures.element

pub loop-i-preserved : goal.loop-i-preserved
loop-i-preserved c = record {
  table = curves_more c.args.s.now c.loop-i.i c.element.result c.loop-i.table c.note.new.table c.element.ensures.element c.loop-i.invariant.table c.in_ok-note.ensures.noted;
  sized = c.in_ok-note.ensures.sized;
}
