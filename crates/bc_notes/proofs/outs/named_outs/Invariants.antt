use Rattle.std.proofs.Common.{◌≡◌, length}
use Rattle.bc_tree.specs.Cuts.{product_of}
use Rattle.bc_notes.specs.Bests.{IsSpotOf, AllAt, LetsIn}
use Rattle.bc_notes.proofs.outs.named_outs.Given as goal

abbrev pub invariant-loop-i : goal.invariant-loop-i
invariant-loop-i l = record {
  len : length l.bests.items ≡ l.i;
  each : AllAt (λ i spot. IsSpotOf (LetsIn (product_of l.t) l.sign i) l.outside spot) l.bests.items;
}
