-- What is left to read gives what the whole text gives.
use Rattle.std.proofs.Common.{◌≡◌, ◌-◌, length}
use Rattle.bc_lex.specs.Stream.{tokens_left}
use Rattle.bc_read.specs.Machine.{state, run, reading_of, end_line}
use Rattle.bc_read.proofs.read.read_csg.Given as goal

abbrev pub invariant-loop-line : goal.invariant-loop-line
invariant-loop-line l = record {
  rest : run (end_line l.text) (state l.reading) (tokens_left l.tokens) ≡ reading_of l.text;
  text_is : l.tokens.text ≡ l.text;
}

abbrev pub decreases-loop-line : goal.decreases-loop-line
decreases-loop-line l = length l.tokens.text - l.tokens.at
