use Rattle.std.proofs.Common.{◌≡◌, List, length, sym, ◌∙◌, subst}
use Rattle.std.specs.Prelude.{All, filter}
use Rattle.std.proofs.lemmas.Result.{IfOk-weaker}
use Rattle.bc_num.specs.declared.disc2.Disc2.{Disc2}
use Rattle.bc_num.specs.Sizes.{IsSmallPoint}
use Rattle.bc_space.specs.declared.line2.Line2.{Line2}
use Rattle.bc_space.specs.Lines.{line_side, IsSizedLine}
use Rattle.bc_space.specs.Flat.{walls2, met2}
use Rattle.bc_natural.specs.Curves.{lines_of}
use Rattle.bc_cells.specs.Cells.{AreCells}
use Rattle.bc_discs.specs.declared.candidate.Candidate.{Candidate}
use Rattle.bc_discs.specs.Candidates.{AreCandidates}
use Rattle.bc_classify.specs.OddMasks.{is_odd_candidate}
use Rattle.bc_classify.proofs.Parities.{proper_of}
use Rattle.bc_formula.specs.declared.part_counts.PartCounts.{PartCounts}
use Rattle.bc_formula.specs.ContourGeometry.{contours}
use Rattle.bc_formula.specs.Tallies.{AreParted}
use Rattle.bc_formula.proofs.ContourLeaves.{lines_sized}
use Rattle.bc_formula.proofs.RegionCounts.{contours_parted}
use Rattle.bc_formula.proofs.part_counts.counts_of.Goals as goal

pub cells-requires-clause-sized : goal.cells-requires-clause-sized
cells-requires-clause-sized c = subst (All IsSizedLine) (sym (c.as_slice.ensures ∙ c.in_ok-lines.ensures)) (lines_sized c.args.table.now c.requires.sized)

pub count_regions-requires-clause-lines_sized : goal.count_regions-requires-clause-lines_sized
count_regions-requires-clause-lines_sized c = subst (All IsSizedLine) (sym (c.as_slice-2.ensures ∙ c.in_ok-lines.ensures)) (lines_sized c.args.table.now c.requires.sized)

pub returns : goal.returns
returns c =
    let cells = subst (λ (ls : List Line2). AreCells IsSmallPoint line_side met2 2 (walls2 c.box2-tile.result) ls c.in_ok-regions.regions) (c.as_slice.ensures ∙ c.in_ok-lines.ensures) c.in_ok-regions.ensures.cells in
    IfOk-weaker c.count_regions.result
    (λ (n : PartCounts). (all : List Candidate) × AreCandidates c.box2-tile.result c.as_slice-2.result.now c.as_slice-3.result.now c.in_ok-regions.regions all
    × (n.parts ≡ length all) × (n.inside ≡ length (filter (is_odd_candidate c.args.profile.now c.args.table.now c.in_ok-regions.regions) all)))
    _
    (λ n h.
    let some = subst (λ (ls : List Line2). AreCandidates c.box2-tile.result ls c.as_slice-3.result.now c.in_ok-regions.regions h.0) (c.as_slice-2.ensures ∙ c.in_ok-lines.ensures) h.1 in
    let all = subst (λ (ds : List Disc2). AreCandidates c.box2-tile.result (lines_of c.args.table.now) ds c.in_ok-regions.regions h.0) (c.as_slice-3.ensures ∙ c.in_ok-discs.ensures) some in
    let parted = contours_parted c.args.profile.now c.box2-tile.result c.args.table.now c.in_ok-regions.regions h.0 c.requires.curves (proper_of c.args.profile.now c.law.ensures) c.odd_mask_law.ensures c.straight_cell_law.ensures c.requires.few cells all in (
      c.box2-tile.result,
      c.box2-tile.ensures.box_of,
      subst (λ m. AreParted contours c.args.profile.now c.box2-tile.result m n.inside) (sym h.2)
          (subst (λ m. AreParted contours c.args.profile.now c.box2-tile.result (length h.0) m) (sym h.3) parted),
    ))
    c.count_regions.ensures
