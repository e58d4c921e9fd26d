-- The lines that are left give what the whole text gives.
use Rattle.std.proofs.Common.{◌≡◌, ◌+◌, ◌-◌, length}
use Rattle.bc_lex.specs.Left.{lines_left}
use Rattle.bc_gcode.specs.Gcode.{run, contours_of}
use Rattle.bc_gcode.proofs.read.read_contours.Given as goal

abbrev pub invariant-loop-line : goal.invariant-loop-line
invariant-loop-line l = record {
  rest : run (l.lines.number + 1) l.program (lines_left l.lines) ≡ contours_of l.text;
  text_is : l.lines.text ≡ l.text;
}

abbrev pub decreases-loop-line : goal.decreases-loop-line
decreases-loop-line l = length l.lines.text - l.lines.at
