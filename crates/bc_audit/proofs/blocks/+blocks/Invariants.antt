-- What the children that are left tell is what all tell.
use Rattle.std.proofs.Common.{◌≡◌, drop}
use Rattle.bc_tree.specs.Shape.{shapes}
use Rattle.bc_audit.specs.Blocks.{all_pass, is_of_box}
use Rattle.bc_audit.proofs.blocks.+blocks.Given as goal

abbrev pub invariant-all_have_one_box-loop-kid : goal.invariant-all_have_one_box-loop-kid
invariant-all_have_one_box-loop-kid l = all_pass (is_of_box l.block) (shapes (drop l.kid-index l.kids)) ≡ all_pass (is_of_box l.block) (shapes l.kids)
