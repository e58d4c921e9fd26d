use Rattle.std.proofs.Common.{ℕ, List, map, sym, ◌∙◌, subst}
use Rattle.std.specs.Prelude.{All}
use Rattle.std.proofs.lemmas.Result.{IfOk-weaker}
use Rattle.bc_num.specs.declared.disc2.Disc2.{Disc2}
use Rattle.bc_num.specs.Sizes.{IsSmallPoint}
use Rattle.bc_space.specs.declared.line2.Line2.{Line2}
use Rattle.bc_space.specs.Lines.{line_side, IsSizedLine}
use Rattle.bc_space.specs.Flat.{walls2, met2}
use Rattle.bc_natural.specs.Curves.{lines_of}
use Rattle.bc_cells.specs.Cells.{AreCells}
use Rattle.bc_discs.specs.Candidates.{AreCandidatesOf}
use Rattle.bc_classify.specs.declared.split2.Marked2.{Marked2}
use Rattle.bc_classify.proofs.Parities.{table_is, proper_of}
use Rattle.bc_natural.specs.Masks.{curve_mask}
use Rattle.bc_formula.specs.ContourGeometry.{contours, leaves_of}
use Rattle.bc_formula.specs.ContourPoints.{keeping_of}
use Rattle.bc_notes.specs.declared.shown.Shown.{Shown}
use Rattle.bc_formula.specs.Shown.{masks_of, AreShownParts}
use Rattle.bc_formula.specs.ContourDivision.{shown2}
use Rattle.bc_formula.specs.Divisions.{mask_kind, AreMasks, AreDivided}
use Rattle.bc_formula.proofs.ContourLeaves.{lines_sized}
use Rattle.bc_formula.proofs.ContourMasks.{contour_masks, places}
use Rattle.bc_formula.proofs.ContourNotes.{contour_parts, keeping, parts_of_kind, marks_masks}
use Rattle.bc_formula.proofs.Parted.{parts_known}
use Rattle.bc_formula.proofs.contours.divide.Goals as goal

pub cells-requires-clause-sized : goal.cells-requires-clause-sized
cells-requires-clause-sized c = subst (All IsSizedLine) (sym (c.as_slice.ensures ∙ c.in_ok-lines.ensures)) (lines_sized c.args.table.now c.requires.sized)

pub candidates_of-requires-clause-lines_sized : goal.candidates_of-requires-clause-lines_sized
candidates_of-requires-clause-lines_sized c = subst (All IsSizedLine) (sym (c.as_slice-2.ensures ∙ c.in_ok-lines.ensures)) (lines_sized c.args.table.now c.requires.sized)

pub classify2-requires-clause-places : goal.classify2-requires-clause-places
classify2-requires-clause-places c = places (keeping_of c.args.which) c.args.tile.now c.as_slice-2.result.now c.as_slice-3.result.now c.in_ok-regions.regions c.in_ok-found.found c.in_ok-found.ensures

pub returns : goal.returns
returns c =
    let es = c.args.profile.now in
    let b = c.args.tile.now in
    let t = c.args.table.now in
    let table = table_is es t c.requires.curves in
    let cells = subst (λ (ls : List Line2). AreCells IsSmallPoint line_side met2 2 (walls2 c.args.tile.now) ls c.in_ok-regions.regions) (c.as_slice.ensures ∙ c.in_ok-lines.ensures) c.in_ok-regions.ensures.cells in
    let some = subst (λ (ls : List Line2). AreCandidatesOf (keeping_of c.args.which) c.args.tile.now ls c.as_slice-3.result.now c.in_ok-regions.regions c.in_ok-found.found) (c.as_slice-2.ensures ∙ c.in_ok-lines.ensures) c.in_ok-found.ensures in
    let all = subst (λ (ds : List Disc2). AreCandidatesOf (keeping_of c.args.which) c.args.tile.now (lines_of c.args.table.now) ds c.in_ok-regions.regions c.in_ok-found.found) (c.as_slice-3.ensures ∙ c.in_ok-discs.ensures) some in
    let d = contour_masks (keeping_of c.args.which) es b t c.in_ok-regions.regions c.in_ok-found.found c.in_ok-split.split table c.odd_mask_law.ensures c.requires.few cells all c.in_ok-split.ensures in
    let kept = contour_parts (keeping_of c.args.which) es b t c.in_ok-regions.regions c.in_ok-found.found c.in_ok-split.split (keeping c.args.which b t) c.requires.curves (proper_of es c.law.ensures) c.odd_mask_law.ensures c.straight_cell_law.ensures cells all c.in_ok-split.ensures in
    let parts = parts_of_kind c.args.which es b (curve_mask t) (map shown2 c.in_ok-split.split.inside) (map shown2 c.in_ok-split.split.outside) kept in
    let P : List Shown → List Shown → Type 0 = λ xs ys. AreMasks (leaves_of c.args.table.now) (masks_of xs) (masks_of ys) × AreDivided contours c.args.profile.now c.args.tile.now (curve_mask c.args.table.now) (masks_of xs) (masks_of ys) × AreShownParts contours (mask_kind c.args.which contours) c.args.profile.now c.args.tile.now (curve_mask c.args.table.now) xs ys in
    let first : P (map shown2 c.in_ok-split.split.inside) (map shown2 c.in_ok-split.split.outside) = (all_masks c.in_ok-split.split.inside c.in_ok-split.split.outside (λ xs ys. AreMasks (leaves_of c.args.table.now) xs ys) d.0, all_masks c.in_ok-split.split.inside c.in_ok-split.split.outside (λ xs ys. AreDivided contours c.args.profile.now c.args.tile.now (curve_mask c.args.table.now) xs ys) d.1, parts) in
    let both = parts_known P c.parts_of.result (map shown2 c.in_ok-split.split.inside) (map shown2 c.in_ok-split.split.outside) first c.parts_of.ensures.inside c.parts_of.ensures.outside in
    record {
      masks = IfOk-weaker c.parts_of.result (λ m. P m.inside.items m.outside.items) _ (λ m h. h.0) both;
      divided = IfOk-weaker c.parts_of.result (λ m. P m.inside.items m.outside.items) _ (λ m h. h.1) both;
      parts = IfOk-weaker c.parts_of.result (λ m. P m.inside.items m.outside.items) _ (λ m h. h.2) both;
    }
  where
    all_masks : (xs ys : List Marked2) (Q : List ℕ → List ℕ → Type 0) → Q (map (λ (m : Marked2). m.mask) xs) (map (λ (m : Marked2). m.mask) ys) → Q (masks_of (map shown2 xs)) (masks_of (map shown2 ys))
    all_masks xs ys Q h = subst (λ (ns : List ℕ). Q (masks_of (map shown2 xs)) ns) (sym (marks_masks ys)) (subst (λ (ms : List ℕ). Q ms (map (λ (m : Marked2). m.mask) ys)) (sym (marks_masks xs)) h)
