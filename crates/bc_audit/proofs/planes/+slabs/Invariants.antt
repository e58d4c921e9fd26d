-- Whatever the slabs of the children that are left lead to, all lead to.
use Rattle.std.proofs.Common.{List, drop}
use Rattle.bc_space.specs.declared.plane3.Plane3.{Plane3}
use Rattle.bc_tree.specs.Shape.{shapes, EachLeaf}
use Rattle.bc_tree.specs.Leaves.{IsLeaf}
use Rattle.bc_audit.specs.SlabPlanes.{all_slabs, HasAdded}
use Rattle.bc_audit.proofs.planes.+slabs.Given as goal

abbrev pub invariant-add_all_slab_planes-loop-kid : goal.invariant-add_all_slab_planes-loop-kid
invariant-add_all_slab_planes-loop-kid l = record {
  added : (new : List Plane3) → HasAdded (all_slabs (shapes (drop l.kid-index l.kids))) l.planes new → HasAdded (all_slabs (shapes l.kids)) l.initial.planes new;
  leaves : EachLeaf IsLeaf (shapes (drop l.kid-index l.kids));
}
