use Rattle.std.proofs.Common.{◌≡◌, map, take}
use Rattle.bc_tree.specs.Cuts.{product_of}
use Rattle.bc_factor.proofs.split.products_of.Given as goal

abbrev pub invariant-loop-term : goal.invariant-loop-term
invariant-loop-term l = l.products.items ≡ map product_of (take l.term-index l.terms)
