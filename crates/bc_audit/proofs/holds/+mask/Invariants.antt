-- What is found, with what the children that are left tell, is what all tell.
use Rattle.std.proofs.Common.{◌≡◌, ℕ, ◌<◌, ◌&&◌, ◌||◌, false, get_or, drop, length}
use Rattle.bc_tree.specs.Shape.{shapes, EachLeaf}
use Rattle.bc_tree.specs.Leaves.{IsLeaf}
use Rattle.bc_audit.specs.Told.{leaf_told, some_holds, each_holds}
use Rattle.bc_audit.proofs.holds.+mask.Given as goal

abbrev pub invariant-some_holds_at-loop-kid : goal.invariant-some_holds_at-loop-kid
invariant-some_holds_at-loop-kid l = record {
  long : length l.found.items ≡ length l.masks;
  told : (k : ℕ) → k < length l.masks
      → (get_or l.found.items k false || some_holds (leaf_told l.planes (get_or l.masks k 0)) (shapes (drop l.kid-index l.kids))) ≡ some_holds (leaf_told l.planes (get_or l.masks k 0)) (shapes l.kids);
  leaves : EachLeaf IsLeaf (shapes (drop l.kid-index l.kids));
}

abbrev pub invariant-each_holds_at-loop-kid : goal.invariant-each_holds_at-loop-kid
invariant-each_holds_at-loop-kid l = record {
  long : length l.found.items ≡ length l.masks;
  told : (k : ℕ) → k < length l.masks
      → (get_or l.found.items k false && each_holds (leaf_told l.planes (get_or l.masks k 0)) (shapes (drop l.kid-index l.kids))) ≡ each_holds (leaf_told l.planes (get_or l.masks k 0)) (shapes l.kids);
  leaves : EachLeaf IsLeaf (shapes (drop l.kid-index l.kids));
}
