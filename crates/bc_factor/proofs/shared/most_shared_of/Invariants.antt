use Rattle.std.proofs.Common.{◌≡◌}
use Rattle.bc_factor.specs.Literals.{the_choice}
use Rattle.bc_factor.specs.Shared.{most_shared_below, best_count}
use Rattle.bc_factor.proofs.shared.most_shared_of.Given as goal

-- the best of the literals so far, and in how many products it stands
abbrev pub invariant-loop-i : goal.invariant-loop-i
invariant-loop-i l = record {
  best : the_choice l.best ≡ most_shared_below l.i l.products;
  most : l.most ≡ best_count (the_choice l.best) l.products;
}
