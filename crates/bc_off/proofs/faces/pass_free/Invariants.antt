use Rattle.std.proofs.Common.{◌≡◌}
use Rattle.bc_off.specs.Left.{after_words}
use Rattle.bc_off.proofs.faces.pass_free.Given as goal

abbrev pub invariant-loop : goal.invariant-loop
invariant-loop l = l.words ≡ after_words l.counter l.fn.words
