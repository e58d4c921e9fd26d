use Rattle.std.proofs.Common.{◌≡◌, length, take}
use Rattle.bc_notes.specs.declared.sign.Sign.TheVariants.{Positive, Negative}
use Rattle.bc_notes.specs.Bests.{AllAt, LetsIn}
use Rattle.bc_notes.proofs.Choosing.{IsBest}
use Rattle.bc_notes.proofs.outs.improve_all.Given as goal

abbrev pub invariant-loop-m : goal.invariant-loop-m
invariant-loop-m l = record {
  positive_len : length l.positive.items ≡ length l.initial.positive.items;
  negative_len : length l.negative.items ≡ length l.initial.negative.items;
  positive : AllAt (λ i spot. IsBest (LetsIn l.p Positive i) l.outside.all.now (take l.m-index l.outside.seen.now) spot) l.positive.items;
  negative : AllAt (λ i spot. IsBest (LetsIn l.p Negative i) l.outside.all.now (take l.m-index l.outside.seen.now) spot) l.negative.items;
}
