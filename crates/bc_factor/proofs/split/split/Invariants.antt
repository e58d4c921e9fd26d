use Rattle.std.proofs.Common.{◌≡◌, ◌++◌, drop}
use Rattle.bc_factor.specs.Literals.{the_literal}
use Rattle.bc_factor.specs.Shared.{with_literal, other_than}
use Rattle.bc_factor.proofs.split.split.Given as goal

-- those so far, and those of the products that are left, are all
abbrev pub invariant-loop-product : goal.invariant-loop-product
invariant-loop-product l = record {
  shared : l.shared.items ++ with_literal (the_literal l.literal) (drop l.product-index l.products) ≡ with_literal (the_literal l.literal) l.products;
  others : l.others.items ++ other_than (the_literal l.literal) (drop l.product-index l.products) ≡ other_than (the_literal l.literal) l.products;
}
