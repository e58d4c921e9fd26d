use Rattle.std.proofs.Common.{◌≡◌, map, take}
use Rattle.bc_factor.specs.Shared.{stripped}
use Rattle.bc_factor.proofs.split.stripped_of.Given as goal

abbrev pub invariant-loop-product : goal.invariant-loop-product
invariant-loop-product l = l.left.items ≡ map (stripped l.common) (take l.product-index l.products)
