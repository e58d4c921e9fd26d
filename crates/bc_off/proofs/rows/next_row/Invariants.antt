-- The lines that came since the start had no words.
use Rattle.std.proofs.Common.{◌≡◌, ◌-◌, length}
use Rattle.bc_off.specs.Left.{rows_left, end_left}
use Rattle.bc_off.proofs.rows.next_row.Given as goal

abbrev pub invariant-loop-line : goal.invariant-loop-line
invariant-loop-line l = record {
  rows : rows_left l.fn.lines ≡ rows_left l.lines;
  end : end_left l.lines ≡ end_left l.fn.lines;
  text_is : l.lines.text ≡ l.fn.lines.text;
}

abbrev pub decreases-loop-line : goal.decreases-loop-line
decreases-loop-line l = length l.lines.text - l.lines.at
