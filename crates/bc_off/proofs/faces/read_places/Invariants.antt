-- The places that came and those that are left are those of the whole.
use Rattle.std.proofs.Common.{◌≡◌, ◌+◌, ◌-◌}
use Rattle.bc_lex.specs.Left.{plain_left}
use Rattle.bc_off.specs.Left.{IsBehind}
use Rattle.bc_off.specs.Faces.{places}
use Rattle.bc_off.proofs.Runs.{joined}
use Rattle.bc_off.proofs.faces.read_places.Given as goal

abbrev pub invariant-loop : goal.invariant-loop
invariant-loop l = record {
  all : joined l.face (places l.words.line (l.words.nth + 1) l.vertices (l.count - l.counter) (plain_left l.words))
      ≡ places l.fn.words.line (l.fn.words.nth + 1) l.vertices l.count (plain_left l.fn.words);
  behind : IsBehind l.counter l.fn.words l.words;
}
