use Rattle.std.proofs.Common.{◌≡◌, ◌+◌, drop}
use Rattle.bc_lex.specs.GWords.{gap}
use Rattle.bc_lex.proofs.Gaps.{gap_with}
use Rattle.bc_lex.proofs.gwords.count_gap.Given as goal

abbrev pub invariant-loop-b : goal.invariant-loop-b
invariant-loop-b l = record { at_is : l.count + l.comment ≡ l.b-index; rest : gap_with l.count l.comment (drop l.b-index l.bytes) ≡ gap l.bytes }
