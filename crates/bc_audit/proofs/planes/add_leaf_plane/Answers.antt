use Rattle.std.proofs.Common.{◌≡◌, sym, subst}
use Rattle.bc_natural.specs.Noted.{with_new}
use Rattle.bc_natural.specs.Planes.{is_same_plane}
use Rattle.bc_tree.specs.declared.tree.Leaf.{Leaf}
use Rattle.bc_audit.specs.SlabPlanes.{HasAdded, leaf_slabs}
use Rattle.bc_audit.proofs.PlaneLists.{added_one, then_ok}
use Rattle.bc_audit.proofs.planes.add_leaf_plane.Goals as goal

pub returns-in-Slab : goal.returns-in-Slab
returns-in-Slab c =
    then_ok c.add.result (c.add.new.self ≡ with_new is_same_plane c.args.planes.now c.slab_plane.result) (HasAdded (leaf_slabs c.args.leaf.now) c.args.planes.now c.add.new.self)
    (λ e.
    subst (λ (l : Leaf). HasAdded (leaf_slabs l) c.args.planes.now c.add.new.self) (sym c.in-Slab.is)
    (added_one c.in-Slab.f c.slab_plane.result c.args.planes.now c.add.new.self c.slab_plane.ensures.plane c.slab_plane.ensures.sized e))
    c.add.ensures
