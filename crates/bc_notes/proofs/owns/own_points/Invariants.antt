use Rattle.std.proofs.Common.{◌≡◌, length, take}
use Rattle.bc_notes.specs.Products.{products_of}
use Rattle.bc_notes.specs.Chosen.{IsAlone}
use Rattle.bc_notes.specs.Bests.{AllAt}
use Rattle.bc_notes.proofs.Choosing.{IsBest}
use Rattle.bc_notes.proofs.owns.own_points.Given as goal

abbrev pub invariant-loop-k : goal.invariant-loop-k
invariant-loop-k l = record {
  len : length l.bests.items ≡ length l.terms;
  each : AllAt (λ i spot. IsBest (IsAlone (products_of l.terms) i) l.inside (take l.k l.inside) spot) l.bests.items;
}
