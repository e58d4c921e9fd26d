use Rattle.std.proofs.Common.{◌≡◌, ◌++◌, map, take}
use Rattle.bc_tree.specs.Shape.{shape}
use Rattle.bc_tree.specs.Cuts.{product_shape}
use Rattle.bc_factor.proofs.build.add_plain.Given as goal

abbrev pub invariant-loop-product : goal.invariant-loop-product
invariant-loop-product l = map shape l.made ≡ map shape l.initial.made ++ map (product_shape l.block l.literals) (take l.product-index l.products)
