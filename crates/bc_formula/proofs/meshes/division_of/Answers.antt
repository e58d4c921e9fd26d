use Rattle.std.proofs.Common.{List, refl, sym, subst}
use Rattle.bc_natural.specs.Planes.{plane_mask}
use Rattle.bc_tree.specs.declared.tree.Leaf.{Leaf}
use Rattle.bc_tree.specs.declared.tree.Leaf.TheVariants.{Block}
use Rattle.bc_text.specs.declared.note.Head.TheVariants.{Solid}
use Rattle.bc_formula.specs.MeshGeometry.{meshes}
use Rattle.bc_formula.specs.Divisions.{IsDivision}
use Rattle.bc_formula.proofs.MeshLeaves.{bits_of}
use Rattle.bc_formula.proofs.MeshNotes.{half_spaces3}
use Rattle.bc_formula.proofs.meshes.division_of.Goals as goal

pub returns : goal.returns
returns c =
    let t = c.args.table.now in
    let known = c.requires in
    let box = c.box3-block.result in
    let bits = bits_of c.args.solid.now box t c.law.ensures known.planes known.sized known.few c.box3-block.ensures.box_of c.box3-block.ensures.near c.outside_law3.ensures in (
      box,
      subst (λ (ls : List Leaf). IsDivision meshes meshes.has_mask c.args.solid.now box (record { block = Block box; head = Solid box; leaves = ls; inside = c.in_ok-parts.parts.inside; outside = c.in_ok-parts.parts.outside })) (sym c.in_ok-slabs.ensures)
          (record { block = refl; head = refl; mask_at = plane_mask t; bits = bits; boxed = refl; half_spaces = half_spaces3 t; masks = c.in_ok-parts.ensures.masks; divided = c.in_ok-parts.ensures.divided; parts = c.in_ok-parts.ensures.parts }),
    )
