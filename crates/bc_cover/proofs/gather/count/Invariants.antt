use Rattle.std.proofs.Common.{ℕ, ◌≡◌, ◌+◌, eqb, get_or, length, take}
use Rattle.std.specs.Prelude.{count_by}
use Rattle.bc_cover.proofs.gather.count.Given as goal

abbrev pub invariant-loop-place : goal.invariant-loop-place
invariant-loop-place l = record {
  size : length l.counts.items ≡ length l.initial.counts.items;
  more : (i : ℕ) → get_or l.counts.items i 0 ≡ get_or l.initial.counts.items i 0 + count_by (λ p. eqb p i) (take l.place-index l.places);
}
