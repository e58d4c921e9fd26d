use Rattle.std.proofs.Common.{◌≡◌, ◌+◌, List, drop, sym, ap, ◌∙◌, subst}
use Rattle.bc_space.specs.declared.plane3.Plane3.{Plane3}
use Rattle.bc_tree.specs.declared.tree.Tree.{Tree}
use Rattle.bc_tree.specs.Shape.{Shape, shape, shapes, cut}
use Rattle.bc_tree.specs.Leaves.{IsLeaf}
use Rattle.bc_audit.specs.SlabPlanes.{HasAdded, slabs, all_slabs}
use Rattle.bc_audit.proofs.Trees.{shape-Cut}
use Rattle.bc_audit.proofs.Columns.{item_at, drop_at, leaves_left}
use Rattle.bc_audit.proofs.PlaneLists.{added_both, then_ok}
use Rattle.bc_audit.proofs.planes.+slabs.Goals as goal

pub add_all_slab_planes-loop-kid-preserved : goal.add_all_slab_planes-loop-kid-preserved
add_all_slab_planes-loop-kid-preserved t c =
    let kids = c.args.kids.now in
    let i = c.loop-kid.kid-index in
    let kid = c.kid-item.result in
    let at = item_at kids i kid c.loop-kid-test.true c.kid-item.is in
    record {
      added = λ (new : List Plane3) h.
          c.loop-kid.invariant.added new
          (subst (λ (ks : List Tree). HasAdded (all_slabs (shapes ks)) c.loop-kid.planes new) (sym (drop_at kids i kid at))
          (added_both (slabs (shape kid)) (all_slabs (shapes (drop (i + 1) kids))) c.loop-kid.planes c.add_slab_planes.new.planes new c.in_ok-add_slab_planes.ensures h));
      leaves = leaves_left kids i IsLeaf kid at c.loop-kid.invariant.leaves;
    }

pub add_slab_planes-returns-in_ok-add_slab_planes-in-Cut : goal.add_slab_planes-returns-in_ok-add_slab_planes-in-Cut
add_slab_planes-returns-in_ok-add_slab_planes-in-Cut t c =
    let first = shape c.get.result.now in
    let later = shapes c.as_slice-in-Cut.result.now in
    let old = c.args.planes.now in
    let new = c.add_all_slab_planes-in-Cut.new.planes in
    let e : cut first later ≡ shape c.args.t.now =
    ap (λ r. cut (shape r) later) c.get.ensures ∙ ap (λ ks. cut (shape c.in-Cut.first) (shapes ks)) c.as_slice-in-Cut.ensures ∙ sym (shape-Cut c.in-Cut.first c.in-Cut.kids) ∙ ap shape (sym c.in-Cut.is) in
    then_ok c.add_all_slab_planes-in-Cut.result (HasAdded (all_slabs later) c.add_slab_planes.new.planes new) (HasAdded (slabs (shape c.args.t.now)) old new)
    (λ h. subst (λ (s : Shape). HasAdded (slabs s) old new) e (added_both (slabs first) (all_slabs later) old c.add_slab_planes.new.planes new c.in_ok-add_slab_planes-in-Cut.ensures h))
    c.add_all_slab_planes-in-Cut.ensures
