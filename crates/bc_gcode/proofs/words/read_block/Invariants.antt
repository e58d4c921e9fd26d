-- The words that are left give what the whole line gives.
use Rattle.std.proofs.Common.{◌≡◌, ◌-◌, length}
use Rattle.bc_lex.specs.Left.{words_left}
use Rattle.bc_gcode.specs.Blocks.{with_words, block_of}
use Rattle.bc_gcode.proofs.words.read_block.Given as goal

abbrev pub invariant-loop-line : goal.invariant-loop-line
invariant-loop-line l = with_words l.words.line l.words.nth l.block (words_left l.words) ≡ block_of l.of.number l.of.text.now

abbrev pub decreases-loop-line : goal.decreases-loop-line
decreases-loop-line l = length l.words.text - l.words.at
