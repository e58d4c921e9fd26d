use Rattle.std.proofs.Common.{◌≡◌, ◌<◌, ℕ, Option, length, get_or}
use Rattle.bc_notes.specs.declared.shown.Shown.{Shown}
use Rattle.bc_notes.specs.Bests.{IsOwnerShown}
use Rattle.bc_notes.proofs.owns.owners_of.Given as goal

abbrev pub invariant-loop-m : goal.invariant-loop-m
invariant-loop-m l = record {
  len : length l.owners.items ≡ l.m-index;
  each : (k : ℕ) (x : Shown) (y : Option ℕ) → k < l.m-index → IsOwnerShown l.products (get_or l.inside k x) (get_or l.owners.items k y);
}
