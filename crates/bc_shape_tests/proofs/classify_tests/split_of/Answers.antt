use Rattle.std.proofs.Common.{◌∙◌}
use Rattle.std.proofs.lemmas.List.Elements.{All-map, All-same}
use Rattle.bc_num.specs.declared.v2.V2.{V2}
use Rattle.bc_space.specs.declared.line2.Line2.{Line2}
use Rattle.bc_space.specs.Lines.{IsSizedLine}
use Rattle.bc_natural.specs.Curves.{lines_of}
use Rattle.bc_shape_tests.proofs.classify_tests.split_of.Goals as goal

pub cells-requires-clause-sized : goal.cells-requires-clause-sized
cells-requires-clause-sized c =
    All-same IsSizedLine c.as_slice.result.now (lines_of c.in_ok-table.table) (c.as_slice.ensures ∙ c.in_ok-lines.ensures)
    (All-map IsSizedLine (λ (e : Line2 × V2). e.0) c.in_ok-table.table.lines c.in_ok-table.ensures.sized.lines)
