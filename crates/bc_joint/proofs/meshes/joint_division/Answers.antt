use Rattle.std.proofs.Common.{List, refl, sym, subst}
use Rattle.bc_natural.specs.Planes.{plane_mask}
use Rattle.bc_solid.specs.Facets.{Facet}
use Rattle.bc_tree.specs.declared.tree.Leaf.{Leaf}
use Rattle.bc_tree.specs.declared.tree.Leaf.TheVariants.{Block}
use Rattle.bc_text.specs.declared.note.Head.TheVariants.{Solid}
use Rattle.bc_formula.specs.MeshGeometry.{meshes, slabs_of}
use Rattle.bc_formula.specs.Divisions.{AreBits, IsDivision}
use Rattle.bc_formula.proofs.MeshLeaves.{bits_of as joint_bits}
use Rattle.bc_formula.proofs.MeshNotes.{half_spaces3}
use Rattle.bc_joint.specs.Pairs.{pair}
use Rattle.bc_joint.specs.MeshPairs.{mesh_pairs}
use Rattle.bc_joint.proofs.MeshPairs.{bits_of}
use Rattle.bc_joint.proofs.meshes.joint_division.Goals as goal

pub returns-clause-ok : goal.returns-clause-ok
returns-clause-ok c =
    let op = c.args.op in
    let p = pair c.args.a.now c.args.b.now in
    let t = c.in_ok-table.table in
    let known = c.in_ok-table.ensures in
    let box = c.box3-block.result in
    let joint = joint_bits c.args.joint.now box t c.law.ensures known.table known.sized known.few c.box3-block.ensures.box_of c.box3-block.ensures.near c.outside_law3.ensures in
    let bits = bits_of op p box t (subst (λ (fs : List Facet). AreBits meshes fs box (slabs_of t) (plane_mask t)) c.requires joint) c.outside_pair_law.ensures in (
      box,
      subst (λ (ls : List Leaf). IsDivision (mesh_pairs op) (mesh_pairs op).lean_mask p box (record { block = Block box; head = Solid box; leaves = ls; inside = c.in_ok-parts.parts.inside; outside = c.in_ok-parts.parts.outside })) (sym c.in_ok-slabs.ensures)
          (record { block = refl; head = refl; mask_at = plane_mask t; bits = bits; boxed = refl; half_spaces = half_spaces3 t; masks = c.in_ok-parts.ensures.masks; divided = c.in_ok-parts.ensures.divided; parts = c.in_ok-parts.ensures.parts }),
    )
