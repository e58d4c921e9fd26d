use Rattle.std.proofs.Common.{◌≡◌, not, List, map, sym, ap, ◌∙◌, subst}
use Rattle.std.specs.Prelude.{All, filter, IfOk}
use Rattle.std.proofs.lemmas.Result.{IfOk-weaker}
use Rattle.bc_num.specs.declared.disc2.Disc2.{Disc2}
use Rattle.bc_num.specs.Sizes.{IsSmallPoint}
use Rattle.bc_space.specs.declared.line2.Line2.{Line2}
use Rattle.bc_space.specs.Lines.{line_side, IsSizedLine}
use Rattle.bc_space.specs.Flat.{walls2, met2}
use Rattle.bc_solid.specs.declared.element.Element.{Element}
use Rattle.bc_solid.specs.Closed.{IsProper}
use Rattle.bc_natural.specs.Curves.{AreCurves, lines_of}
use Rattle.bc_natural.specs.Masks.{curve_mask}
use Rattle.bc_cells.specs.Cells.{AreCells}
use Rattle.bc_discs.specs.Thinning.{IsLean}
use Rattle.bc_discs.specs.Lean.{AreLeanCandidates}
use Rattle.bc_classify.specs.Splits.{marked, OddMaskLaw}
use Rattle.bc_classify.proofs.Parities.{proper_of}
use Rattle.bc_combine.specs.Combined.{is_chosen}
use Rattle.bc_notes.specs.declared.shown.Shown.{Shown}
use Rattle.bc_formula.specs.ContourGeometry.{leaves_of}
use Rattle.bc_formula.specs.ContourDivision.{shown2}
use Rattle.bc_formula.proofs.ContourLeaves.{lines_sized}
use Rattle.bc_formula.proofs.ContourMasks.{places}
use Rattle.bc_formula.proofs.Parted.{parts_known}
use Rattle.bc_joint.specs.Pairs.{pair}
use Rattle.bc_joint.specs.ContourPairs.{contour_pairs}
use Rattle.bc_joint.proofs.Told.{AreTold}
use Rattle.bc_joint.proofs.ContourPairs.{contour_told}
use Rattle.bc_joint.proofs.contours.divide.Goals as goal

pub cells-requires-clause-sized : goal.cells-requires-clause-sized
cells-requires-clause-sized c = subst (All IsSizedLine) (sym (c.as_slice.ensures ∙ c.in_ok-lines.ensures)) (lines_sized c.args.table.now c.requires.sized)

pub lean_candidates-requires-clause-lines_sized : goal.lean_candidates-requires-clause-lines_sized
lean_candidates-requires-clause-lines_sized c = subst (All IsSizedLine) (sym (c.as_slice-2.ensures ∙ c.in_ok-lines.ensures)) (lines_sized c.args.table.now c.requires.sized)

pub combine2-requires-clause-places : goal.combine2-requires-clause-places
combine2-requires-clause-places c = places IsLean c.args.tile.now c.as_slice-2.result.now c.as_slice-3.result.now c.in_ok-regions.regions c.in_ok-lean.lean c.in_ok-lean.ensures

pub returns : goal.returns
returns c =
    let a = c.args.a.now in
    let b = c.args.b.now in
    let t = c.args.table.now in
    let regions = c.in_ok-regions.regions in
    let cells = subst (λ (ls : List Line2). AreCells IsSmallPoint line_side met2 2 (walls2 c.args.tile.now) ls c.in_ok-regions.regions) (c.as_slice.ensures ∙ c.in_ok-lines.ensures) c.in_ok-regions.ensures.cells in
    let some = subst (λ (ls : List Line2). AreLeanCandidates c.args.tile.now ls c.as_slice-3.result.now c.in_ok-regions.regions c.in_ok-lean.lean) (c.as_slice-2.ensures ∙ c.in_ok-lines.ensures) c.in_ok-lean.ensures in
    let all = subst (λ (ds : List Disc2). AreLeanCandidates c.args.tile.now (lines_of c.args.table.now) ds c.in_ok-regions.regions c.in_ok-lean.lean) (c.as_slice-3.ensures ∙ c.in_ok-discs.ensures) some in
    let table = subst (λ (es : List Element). AreCurves es t) c.requires.joined c.requires.curves in
    let proper = subst (All IsProper) c.requires.joined (proper_of c.args.joint.now c.law.ensures) in
    let law = subst (λ (es : List Element). OddMaskLaw es t) c.requires.joined c.odd_mask_law.ensures in
    let told = contour_told c.args.op (pair a b) c.args.tile.now t regions c.in_ok-lean.lean table c.requires.few proper law c.joint_mask_law.ensures c.straight_cell_law.ensures c.straight_cell_law-2.ensures cells all in
    let T : List Shown → List Shown → Type 0 = λ xs ys. AreTold (contour_pairs c.args.op) (pair a b) c.args.tile.now (leaves_of t) (curve_mask t) xs ys in
    let ins : IfOk c.parts_of.result (λ m. m.inside.items ≡ map shown2 (map marked (filter (is_chosen c.args.op a b t regions) c.in_ok-lean.lean))) = IfOk-weaker c.parts_of.result (λ m. m.inside.items ≡ map shown2 c.in_ok-split.split.inside) _ (λ m e. e ∙ ap (map shown2) c.in_ok-split.ensures.inside) c.parts_of.ensures.inside in
    let outs : IfOk c.parts_of.result (λ m. m.outside.items ≡ map shown2 (map marked (filter (λ d. not (is_chosen c.args.op a b t regions d)) c.in_ok-lean.lean))) = IfOk-weaker c.parts_of.result (λ m. m.outside.items ≡ map shown2 c.in_ok-split.split.outside) _ (λ m e. e ∙ ap (map shown2) c.in_ok-split.ensures.outside) c.parts_of.ensures.outside in
    let both = parts_known T c.parts_of.result (map shown2 (map marked (filter (is_chosen c.args.op a b t regions) c.in_ok-lean.lean))) (map shown2 (map marked (filter (λ d. not (is_chosen c.args.op a b t regions d)) c.in_ok-lean.lean))) told ins outs in
    record {
      masks = IfOk-weaker c.parts_of.result (λ m. T m.inside.items m.outside.items) _ (λ m h. h.masks) both;
      divided = IfOk-weaker c.parts_of.result (λ m. T m.inside.items m.outside.items) _ (λ m h. h.divided) both;
      parts = IfOk-weaker c.parts_of.result (λ m. T m.inside.items m.outside.items) _ (λ m h. h.parts) both;
    }
