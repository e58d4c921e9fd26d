use Rattle.std.proofs.Common.{◌≡◌, List, length}
use Rattle.bc_tree.specs.declared.product.Product.{Product}
use Rattle.bc_notes.specs.Chosen.{IsAlone}
use Rattle.bc_notes.specs.Bests.{IsSpotOf, AllAt, AreOwners}
use Rattle.bc_notes.proofs.owns.named_owns.Given as goal

abbrev pub invariant-loop-i : goal.invariant-loop-i
invariant-loop-i l = record {
  len : length l.bests.items ≡ l.i;
  each : (products : List Product) → AreOwners products l.inside l.owners → AllAt (λ i spot. IsSpotOf (IsAlone products i) l.inside spot) l.bests.items;
}
