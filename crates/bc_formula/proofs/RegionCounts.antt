-- The candidates of contours counted region by region: so many so far, and of all regions the parts of the boundary.
use Rattle.std.proofs.Common.{◌≡◌, ◌≢◌, ℕ, ◌+◌, ◌<◌, not, List, [], ◌++◌, map, length, Some, slice_get, refl, sym, ap, ◌∙◌, subst, arith}
use Rattle.std.specs.Prelude.{filter}
use Rattle.std.specs.List.{All, AllPairs, AllZip}
use Rattle.std.proofs.lemmas.List.{length-map, length-append}
use Rattle.std.proofs.lemmas.List.Elements.{All-nil, All-weaker}
use Rattle.std.proofs.lemmas.List.Filters.{length-filter_both}
use Rattle.bc_num.specs.declared.disc2.Disc2.{Disc2}
use Rattle.bc_num.specs.declared.box2.Box2.{Box2}
use Rattle.bc_num.specs.Sizes.{IsSmallPoint}
use Rattle.bc_space.specs.declared.line2.Line2.{Line2}
use Rattle.bc_space.specs.Lines.{line_side}
use Rattle.bc_space.specs.Flat.{walls2, met2}
use Rattle.bc_solid.specs.declared.element.Element.{Element}
use Rattle.bc_solid.specs.Closed.{IsProper}
use Rattle.bc_parity.specs.Laws.{StraightCellLaw}
use Rattle.bc_natural.specs.Curves.{Curves, AreCurves, lines_of}
use Rattle.bc_natural.specs.Limits.{AreFew}
use Rattle.bc_natural.specs.Masks.{curve_mask}
use Rattle.bc_cells.specs.Cells.{AreCells}
use Rattle.bc_discs.specs.declared.candidate.Candidate.{Candidate}
use Rattle.bc_discs.specs.Candidates.{Region, IsKept, IsCandidate, AreCandidates}
use Rattle.bc_discs.specs.Steps.{IsOfRegion, AreOfRegion}
use Rattle.bc_discs.proofs.Found.{AreOfRegions, regions_more}
use Rattle.bc_classify.specs.declared.region_parity.RegionParity.{RegionParity}
use Rattle.bc_classify.specs.declared.split2.Marked2.{Marked2}
use Rattle.bc_classify.specs.declared.split2.Split2.{Split2}
use Rattle.bc_classify.specs.OddMasks.{is_odd_candidate}
use Rattle.bc_classify.specs.RegionParities.{told, IsParityAt}
use Rattle.bc_classify.specs.Splits.{marked, OddMaskLaw}
use Rattle.bc_classify.proofs.Parities.{table_is}
use Rattle.bc_classify.proofs.Walks.{told_is}
use Rattle.bc_formula.specs.ContourDivision.{shown2}
use Rattle.bc_formula.specs.ContourGeometry.{contours}
use Rattle.bc_formula.specs.Shown.{masks_of}
use Rattle.bc_formula.specs.Tallies.{AreParted}
use Rattle.bc_formula.proofs.ContourMasks.{contour_masks}
use Rattle.bc_formula.proofs.ContourNotes.{contour_parts, whole_keeping, marks_masks}
use Rattle.bc_formula.proofs.Counted.{count_alike, count_both, parted}

module _ (b : Box2) (ls : List Line2) (ds : List Disc2) (regions : List Region) (es : List Element) (t : Curves) where
  -- so many candidates of the first n regions, and so many of them odd
  pub record AreCounted (n parts inside : ℕ) : Type 0 where
    pub all : List Candidate
    pub of_regions : AreOfRegions IsKept b ls ds regions n all
    pub parts_are : parts ≡ length all
    pub inside_are : inside ≡ length (filter (is_odd_candidate es t regions) all)

  -- of no region there is none
  pub none_counted : AreCounted 0 0 0
  none_counted = record {
    all = [];
    of_regions = record {
      each = All-nil (IsCandidate b ls ds regions);
      before = All-nil (λ (c : Candidate). c.region < 0);
      every = λ r region set l at below kept. absurd (omega (arith, l));
      order = λ i j d l m. absurd (omega (arith, m));
    };
    parts_are = refl;
    inside_are = refl;
  }

  -- one region more
  pub counted_more : (n parts inside : ℕ) (region : Region) (parities : List RegionParity) (parity : RegionParity) (more : List Candidate) (found odd : ℕ)
      → slice_get regions n ≡ Some region → AllZip (λ region. IsParityAt es t region.inner) regions parities → slice_get parities n ≡ Some parity
      → AreOfRegion IsKept b ls ds n region more → found ≡ length more → odd ≡ length (filter (λ (c : Candidate). told parity c.mask) more)
      → AreCounted n parts inside → AreCounted (n + 1) (parts + found) (inside + odd)
  counted_more n parts inside region parities parity more found odd at zips parity_at new found_is odd_is old =
      let same = count_alike (λ (c : Candidate). told parity c.mask) (is_odd_candidate es t regions) more
      (All-weaker (IsOfRegion IsKept b ls ds n region) (λ (c : Candidate). told parity c.mask ≡ is_odd_candidate es t regions c)
      (λ c o. told_is es t regions parities c parity (told parity c.mask) zips (ap (λ r. slice_get parities r) o.at ∙ parity_at) refl) more new.each) in
      record {
        all = old.all ++ more;
        of_regions = regions_more IsKept b ls ds regions n old.all more region at old.of_regions new;
        parts_are = omega (arith, old.parts_are, found_is, length-append old.all more);
        inside_are = omega (arith, old.inside_are, odd_is, same, count_both (is_odd_candidate es t regions) old.all more);
      }

-- the candidates of all regions are the parts of the contours
pub contours_parted : (es : List Element) (b : Box2) (t : Curves) (regions : List Region) (all : List Candidate)
    → AreCurves es t → All IsProper es → OddMaskLaw es t → StraightCellLaw es → AreFew t
    → AreCells IsSmallPoint line_side met2 2 (walls2 b) (lines_of t) regions
    → AreCandidates b (lines_of t) t.discs regions all
    → AreParted contours es b (length all) (length (filter (is_odd_candidate es t regions) all))
contours_parted es b t regions all of_input proper law straight few cells are =
    let f = is_odd_candidate es t regions in
    let inside = map marked (filter (is_odd_candidate es t regions) all) in
    let outside = map marked (filter (λ c. not (is_odd_candidate es t regions c)) all) in
    let split : Split2 = record { inside = inside; outside = outside } in
    let parts = contour_parts IsKept es b t regions all split (whole_keeping b t) of_input proper law straight cells are (record { inside = refl; outside = refl }) in
    let masks = contour_masks IsKept es b t regions all split (table_is es t of_input) law few cells are (record { inside = refl; outside = refl }) in
    let distinct : AllPairs (λ (one other : ℕ). one ≢ other) (masks_of (map shown2 inside) ++ masks_of (map shown2 outside)) =
    subst (λ (ms : List ℕ). AllPairs (λ (one other : ℕ). one ≢ other) (ms ++ masks_of (map shown2 outside))) (sym (marks_masks inside))
    (subst (λ (ms : List ℕ). AllPairs (λ (one other : ℕ). one ≢ other) (map (λ (m : Marked2). m.mask) inside ++ ms)) (sym (marks_masks outside)) masks.0.distinct) in
    let odd : length (map shown2 (map marked (filter (is_odd_candidate es t regions) all))) ≡ length (filter (is_odd_candidate es t regions) all) = same_length (filter (is_odd_candidate es t regions) all) in
    let even : length (map shown2 (map marked (filter (λ c. not (is_odd_candidate es t regions c)) all))) ≡ length (filter (λ c. not (is_odd_candidate es t regions c)) all) = same_length (filter (λ c. not (is_odd_candidate es t regions c)) all) in
    let both : length (filter (is_odd_candidate es t regions) all) + length (filter (λ c. not (is_odd_candidate es t regions c)) all) ≡ length all = length-filter_both (is_odd_candidate es t regions) (λ c. not (is_odd_candidate es t regions c)) (λ c. refl) all in
    let whole : length (map shown2 inside) + length (map shown2 outside) ≡ length all = omega (arith, odd, even, both) in
    subst (λ n. AreParted contours es b n (length (filter (is_odd_candidate es t regions) all))) whole
    (subst (λ n. AreParted contours es b (length (map shown2 inside) + length (map shown2 outside)) n) odd
    (parted contours es b (curve_mask t) (map shown2 inside) (map shown2 outside) parts distinct))
  where
    same_length : (cs : List Candidate) → length (map shown2 (map marked cs)) ≡ length cs
    same_length cs = length-map (map marked cs) shown2 ∙ length-map cs marked
