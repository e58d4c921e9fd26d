use Rattle.std.proofs.Common.{◌≤◌}
use Rattle.bc_text_tests.proofs.SplitFacts.{AreSplit}
use Rattle.bc_text_tests.proofs.cover_tests.hidden.split_masks.Given as goal

abbrev pub invariant-loop : goal.invariant-loop
invariant-loop l = record {
  low : l.next ≤ l.end;
  split : AreSplit l.next l.inside.items l.outside.items;
}
