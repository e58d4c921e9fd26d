use Rattle.std.proofs.Common.{length}
use Rattle.bc_num.specs.Measures.{square_between}
use Rattle.bc_classify.proofs.Discs.{IsNotBefore}
use Rattle.bc_classify.proofs.flips.bit_of_disc.Given as goal

abbrev pub invariant-loop-i : goal.invariant-loop-i
invariant-loop-i l = IsNotBefore (length l.table.lines) l.table.discs l.c (square_between l.c l.a) l.i
