use Rattle.std.proofs.Common.{List, refl, sym, subst}
use Rattle.bc_natural.specs.Masks.{curve_mask}
use Rattle.bc_solid.specs.declared.element.Element.{Element}
use Rattle.bc_tree.specs.declared.tree.Leaf.{Leaf}
use Rattle.bc_tree.specs.declared.tree.Leaf.TheVariants.{Tile}
use Rattle.bc_text.specs.declared.note.Head.TheVariants.{Contour}
use Rattle.bc_classify.proofs.Parities.{table_is}
use Rattle.bc_formula.specs.ContourGeometry.{contours, leaves_of}
use Rattle.bc_formula.specs.Divisions.{AreBits, IsDivision}
use Rattle.bc_formula.proofs.ContourLeaves.{bits_of as joint_bits}
use Rattle.bc_formula.proofs.ContourNotes.{half_spaces2}
use Rattle.bc_joint.specs.Pairs.{pair}
use Rattle.bc_joint.specs.ContourPairs.{contour_pairs}
use Rattle.bc_joint.proofs.ContourPairs.{bits_of}
use Rattle.bc_joint.proofs.contours.joint_division.Goals as goal

pub returns-clause-ok : goal.returns-clause-ok
returns-clause-ok c =
    let op = c.args.op in
    let p = pair c.args.a.now c.args.b.now in
    let t = c.in_ok-table.table in
    let known = c.in_ok-table.ensures in
    let box = c.box2-tile.result in
    let joint = joint_bits c.args.joint.now box t known.table (table_is c.args.joint.now t known.table) known.sized known.few c.box2-tile.ensures.box_of c.box2-tile.ensures.near c.outside_law2.ensures in
    let bits = bits_of op p box t (subst (λ (es : List Element). AreBits contours es box (leaves_of t) (curve_mask t)) c.requires joint) c.outside_pair_law.ensures in (
      box,
      subst (λ (ls : List Leaf). IsDivision (contour_pairs op) (contour_pairs op).lean_mask p box (record { block = Tile box; head = Contour box; leaves = ls; inside = c.in_ok-parts.parts.inside; outside = c.in_ok-parts.parts.outside })) (sym c.in_ok-leaves.ensures)
          (record { block = refl; head = refl; mask_at = curve_mask t; bits = bits; boxed = refl; half_spaces = half_spaces2 t; masks = c.in_ok-parts.ensures.masks; divided = c.in_ok-parts.ensures.divided; parts = c.in_ok-parts.ensures.parts }),
    )
