use Rattle.std.proofs.Common.{List, refl, sym, subst}
use Rattle.bc_natural.specs.Masks.{curve_mask}
use Rattle.bc_tree.specs.declared.tree.Leaf.{Leaf}
use Rattle.bc_tree.specs.declared.tree.Leaf.TheVariants.{Tile}
use Rattle.bc_text.specs.declared.note.Head.TheVariants.{Contour}
use Rattle.bc_classify.proofs.Parities.{table_is}
use Rattle.bc_formula.specs.ContourGeometry.{contours}
use Rattle.bc_formula.specs.Divisions.{mask_kind, IsDivision}
use Rattle.bc_formula.proofs.ContourLeaves.{bits_of}
use Rattle.bc_formula.proofs.ContourNotes.{half_spaces2}
use Rattle.bc_formula.proofs.contours.division_of.Goals as goal

pub returns : goal.returns
returns c =
    let t = c.args.table.now in
    let known = c.requires in
    let box = c.box2-tile.result in
    let bits = bits_of c.args.profile.now box t known.curves (table_is c.args.profile.now t known.curves) known.sized known.few c.box2-tile.ensures.box_of c.box2-tile.ensures.near c.outside_law2.ensures in (
      box,
      subst (λ (ls : List Leaf). IsDivision contours (mask_kind c.args.which contours) c.args.profile.now box (record { block = Tile box; head = Contour box; leaves = ls; inside = c.in_ok-parts.parts.inside; outside = c.in_ok-parts.parts.outside })) (sym c.in_ok-leaves.ensures)
          (record { block = refl; head = refl; mask_at = curve_mask t; bits = bits; boxed = refl; half_spaces = half_spaces2 t; masks = c.in_ok-parts.ensures.masks; divided = c.in_ok-parts.ensures.divided; parts = c.in_ok-parts.ensures.parts }),
    )
