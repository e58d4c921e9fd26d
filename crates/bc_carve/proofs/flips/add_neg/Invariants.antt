use Rattle.std.proofs.Common.{◌≡◌, ◌+◌, ◌++◌, map, length}
use Rattle.bc_cover.specs.Masks.{admits, without_bit, places_below}
use Rattle.bc_carve.specs.Flips.{trues_from}
use Rattle.bc_carve.proofs.flips.add_neg.Given as goal

abbrev pub invariant-loop-i : goal.invariant-loop-i
invariant-loop-i l = record {
  next : l.at ≡ l.start + length (places_below l.i l.neg);
  so_far : l.places.items ≡ l.initial.places.items ++ trues_from l.start (map (λ i. admits l.pos (without_bit l.neg i) l.mask) (places_below l.i l.neg));
}
