use Rattle.std.proofs.Common.{◌≡◌, Some, false, get_or, sym, ap, ◌∙◌}
use Rattle.std.specs.Prelude.{slice_get}
use Rattle.std.proofs.lemmas.Option.{get_or_from_slice_get}
use borrow.Author.Count.{below_more}
use Rattle.bc_parity.specs.Faces.{is_odd3_at}
use Rattle.bc_cells.specs.Cells.{Cell3}
use Rattle.bc_audit.proofs.Columns.{item_at}
use Rattle.bc_audit.proofs.Verdicts.{tests_apart, tests_same}
use Rattle.bc_audit.proofs.verdict.compare.Goals as goal

pub returns-then-odd3-holds : goal.returns-then-odd3-holds
returns-then-odd3-holds c = record {
  i = c.loop-i.i;
  cell = c.index-cells-i.result;
  at = item_at c.args.cells.now c.loop-i.i c.index-cells-i.result c.loop-i-test.true c.index-cells-i.is;
  apart = λ e. tests_apart c.odd3.result (get_or c.args.holds.now c.loop-i.i false) c.if-odd3-holds.true (c.odd3.ensures ∙ e);
  same = c.reduce3.ensures.same;
  reduced = c.reduce3.ensures.reduced;
}

pub loop-i-preserved : goal.loop-i-preserved
loop-i-preserved c k cell l at =
    below_more (λ k. (cell : Cell3) → slice_get c.args.cells.now k ≡ Some cell → is_odd3_at c.args.s.now cell.inner ≡ get_or c.args.holds.now k false) c.loop-i.i
    (λ k l cell at. c.loop-i.invariant k cell l at)
    (λ cell at.
    let same : c.index-cells-i.result ≡ cell = c.index-cells-i.is ∙ get_or_from_slice_get c.args.cells.now c.loop-i.i cell c.index-cells-i.result at in
    ap (λ (d : Cell3). is_odd3_at c.args.s.now d.inner) (sym same) ∙ sym c.odd3.ensures ∙ tests_same c.odd3.result (get_or c.args.holds.now c.loop-i.i false) c.if-odd3-holds.false)
    k l cell at
