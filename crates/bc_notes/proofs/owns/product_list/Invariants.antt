use Rattle.std.proofs.Common.{◌≡◌, take}
use Rattle.bc_notes.specs.Products.{products_of}
use Rattle.bc_notes.proofs.owns.product_list.Given as goal

abbrev pub invariant-loop-term : goal.invariant-loop-term
invariant-loop-term l = l.products.items ≡ products_of (take l.term-index l.terms)
