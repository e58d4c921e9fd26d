use Rattle.std.proofs.Common.{◌∙◌}
use Rattle.bc_natural.specs.Curves.{is_same_line}
use Rattle.bc_natural.proofs.Added.{has}
use Rattle.bc_natural.proofs.curve_table.CurveTable.has_line.Goals as goal

pub returns : goal.returns
returns c = rw (← c.self.view_is) (c.contains_key.ensures ∙ has is_same_line c.self.inside.lines c.args.line)
