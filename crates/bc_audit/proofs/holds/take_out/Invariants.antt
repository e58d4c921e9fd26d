use Rattle.std.proofs.Common.{◌≡◌, ℕ, ◌<◌, ◌≤◌, false, get_or, length, ◌&&◌, not}
use Rattle.bc_audit.proofs.holds.take_out.Given as goal

abbrev pub invariant-loop-i : goal.invariant-loop-i
invariant-loop-i l = record {
  long : length l.found.items ≡ length l.initial.found.items;
  done : (k : ℕ) → k < l.i → get_or l.found.items k false ≡ (get_or l.initial.found.items k false && not (get_or l.more k false));
  left : (k : ℕ) → l.i ≤ k → get_or l.found.items k false ≡ get_or l.initial.found.items k false;
}
