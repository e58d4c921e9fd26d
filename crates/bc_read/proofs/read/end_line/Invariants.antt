-- The lines that came and those that are left are all.
use Rattle.std.proofs.Common.{◌≡◌, ◌+◌, ◌-◌, length}
use Rattle.bc_num.specs.Lines.{lines}
use Rattle.bc_lex.specs.Left.{lines_left}
use Rattle.bc_read.proofs.read.end_line.Given as goal

abbrev pub invariant-loop : goal.invariant-loop
invariant-loop l = record { count : l.lines.number + length (lines_left l.lines) ≡ length (lines l.text); text_is : l.lines.text ≡ l.text }

abbrev pub decreases-loop : goal.decreases-loop
decreases-loop l = length l.lines.text - l.lines.at
