use Rattle.std.proofs.Common.{◌∙◌, sym, ap}
use Rattle.bc_natural.specs.Curves.{Curves, is_same_line}
use Rattle.bc_natural.proofs.Added.{kept, added}
use Rattle.bc_natural.proofs.curve_table.CurveTable.add_line.Goals as goal

pub returns-in_ok-insert-clause-lines : goal.returns-in_ok-insert-clause-lines
returns-in_ok-insert-clause-lines c =
    c.in_ok-insert.ensures.entries
    ∙ added is_same_line c.self.inside.lines c.args.self.now.lines c.args.line c.args.origin (ap (λ (t : Curves). t.lines) c.self.view_is) (sym c.has_line.ensures ∙ c.if-not-has_line.true)

pub returns-else-not-has_line-clause-lines : goal.returns-else-not-has_line-clause-lines
returns-else-not-has_line-clause-lines c = kept is_same_line c.args.self.now.lines c.args.line c.args.origin (sym c.has_line.ensures ∙ c.if-not-has_line.false)
