use Rattle.std.proofs.Common.{◌≡◌, ◌-◌, length}
use Rattle.bc_pair.proofs.Cutting.{Came}
use Rattle.bc_pair.proofs.split.split_parts.Given as goal

-- The lines that came do not separate parts, and the next one starts where they end.
abbrev pub invariant-loop-line : goal.invariant-loop-line
invariant-loop-line l = record {
  came : Came l.lines.text l.lines.at l.lines.number;
  start_is : l.start ≡ l.lines.at;
  text_is : l.lines.text ≡ l.text;
}

abbrev pub decreases-loop-line : goal.decreases-loop-line
decreases-loop-line l = length l.lines.text - l.lines.at
