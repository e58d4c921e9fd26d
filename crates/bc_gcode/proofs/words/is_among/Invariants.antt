use Rattle.std.proofs.Common.{◌≡◌, drop}
use Rattle.bc_gcode.specs.Blocks.{among}
use Rattle.bc_gcode.proofs.words.is_among.Given as goal

abbrev pub invariant-loop-code : goal.invariant-loop-code
invariant-loop-code l = among l.value (drop l.code-index l.codes) ≡ among l.value l.codes
