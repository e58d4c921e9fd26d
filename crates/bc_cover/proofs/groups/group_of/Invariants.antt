use Rattle.std.proofs.Common.{ℕ, ◌≡◌, ◌<◌, ◌≤◌, true, get_or}
use Rattle.bc_cover.specs.Masks.{agrees}
use Rattle.bc_cover.proofs.groups.group_of.Given as goal

abbrev pub invariant-loop-i : goal.invariant-loop-i
invariant-loop-i l = (k : ℕ) → l.start ≤ k → k < l.i → agrees l.alike l.mask (get_or l.masks k 0) ≡ true
