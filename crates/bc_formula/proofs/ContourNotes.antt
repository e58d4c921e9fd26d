-- The candidates of contours show the masks of each parity: their points are samples, and each sample lies in a candidate
-- that shows a point.
use Rattle.std.proofs.Common.{◌≡◌, ◌≢◌, ◌<◌, ◌+◌, ◌*◌, ◌^◌, ℕ, Bool, true, false, not, List, [], ◌∷◌, map, length, get_or, Option, None, Some, refl, sym, ap, ◌∙◌, subst}
use Rattle.std.specs.Prelude.{slice_get, slice_index_or, filter, option_map}
use Rattle.std.specs.List.{All, Contains}
use Rattle.std.proofs.lemmas.List.{length-map}
use Rattle.std.proofs.lemmas.List.Elements.{All-contains, All-map, All-filter, All-append, All-contains_itself, filter_passes}
use Rattle.std.proofs.lemmas.Option.{same_Some}
use Rattle.bc_num.specs.declared.p2.P2.{P2}
use Rattle.bc_num.specs.declared.box2.Box2.{Box2}
use Rattle.bc_num.specs.declared.disc2.Disc2.{Disc2}
use Rattle.bc_num.specs.Points.{IsSamePoint2, IsReduced2}
use Rattle.bc_num.specs.Sizes.{IsSmallPoint}
use Rattle.bc_num.proofs.Combining.{IsMultiple2_of-reduced}
use Rattle.bc_space.specs.declared.side.Side.TheVariants.{On}
use Rattle.bc_space.specs.declared.line2.Line2.{Line2}
use Rattle.bc_space.specs.Lines.{line_side}
use Rattle.bc_space.specs.Discs.{disc_side}
use Rattle.bc_space.specs.Flat.{walls2, met2}
use Rattle.bc_space.specs.Laws.FlatLaws.{flat_factor}
use Rattle.bc_space.specs.Regions.{mask_of, IsFree}
use Rattle.bc_solid.specs.declared.element.Element.{Element}
use Rattle.bc_solid.specs.declared.element.Element.TheVariants.{Edge, Arc}
use Rattle.bc_solid.specs.HalfSpaces.{IsOff}
use Rattle.bc_solid.specs.Closed.{IsProper}
use Rattle.bc_parity.specs.Odd.{is_odd_at, Odd}
use Rattle.bc_parity.specs.Laws.{StraightCellLaw}
use Rattle.bc_natural.specs.Curves.{Curves, AreCurves, lines_of, is_arc, IsDiscOf}
use Rattle.bc_natural.specs.Masks.{curve_mask}
use Rattle.bc_natural.proofs.Masks.{same_parts, mask_below}
use Rattle.bc_natural.proofs.Table.{one_table, contains_mapped}
use Rattle.bc_natural.proofs.FirstSeen.{filtered}
use Rattle.bc_cells.specs.Cells.{AreCells, HasCorners}
use Rattle.bc_cells.proofs.Masks.{mask_alike}
use Rattle.bc_discs.specs.declared.candidate.Candidate.{Candidate}
use Rattle.bc_discs.specs.Samples.{IsSample, IsSeen}
use Rattle.bc_discs.specs.Candidates.{Region, Keeping, IsKept, mask_with, IsCandidateOf, IsCandidate, AreCandidatesOf}
use Rattle.bc_discs.specs.Laws.{IsRegion}
use Rattle.bc_discs.specs.Thinning.{IsLean}
use Rattle.bc_discs.proofs.Between.{sample_law}
use Rattle.bc_discs.proofs.Shown.{seen_law}
use Rattle.bc_classify.specs.declared.split2.Marked2.{Marked2}
use Rattle.bc_classify.specs.OddMasks.{is_odd_mask, is_odd_in, is_odd_candidate}
use Rattle.bc_classify.specs.declared.split2.Split2.{Split2}
use Rattle.bc_classify.specs.Splits.{marked, IsSplit, OddMaskLaw}
use Rattle.bc_classify.proofs.Parities.{table_is, region_parity}
use Rattle.bc_classify.proofs.Halves.{IsTable, clear_from_off}
use Rattle.bc_text.specs.declared.note.Spot.{Spot}
use Rattle.bc_text.specs.declared.note.Spot.TheVariants.{Flat}
use Rattle.bc_tree.specs.declared.tree.Leaf.TheVariants.{Disc}
use Rattle.bc_notes.specs.Nodes.{is_half_space}
use Rattle.bc_formula.specs.ContourGeometry.{contours, leaves_of, strip_leaf}
use Rattle.bc_discs.proofs.ThreeCorners.{some_sample}
use Rattle.bc_notes.specs.declared.shown.Shown.{Shown}
use Rattle.bc_formula.specs.ContourPoints.{IsSampleOfRegion, keeping_of, IsMaskOf, HasArc}
use Rattle.bc_formula.specs.declared.masks.Masks.{Masks}
use Rattle.bc_formula.specs.declared.masks.Masks.TheVariants.{Whole, Lean}
use Rattle.bc_formula.specs.Divisions.{mask_kind}
use Rattle.bc_formula.specs.Notes.{IsFreePoint}
use Rattle.bc_formula.specs.Shown.{masks_of, IsShownAt, AreShown, AreShownParts}
use Rattle.bc_formula.specs.ContourDivision.{shown2}
use Rattle.bc_formula.proofs.Mapped.{at_place, contains_at}
use Rattle.bc_formula.proofs.TwoLists.{any_contained}
use Rattle.bc_formula.proofs.ContourMasks.{above_walls}
use Rattle.bc_formula.proofs.SameRegions.{sample_moves, kept_moves, lean_moves}
use Rattle.bc_discs.proofs.Shown.{disc_factor}
use Rattle.bc_formula.proofs.ContourPoints.{inside_of, off_from_clear}

-- a mark with a point as it stands in notes
seen_case : (o : Option P2) (spot : Spot) → option_map Flat o ≡ Some spot → (q : P2) × (o ≡ Some q) × (spot ≡ Flat q)
seen_case None spot f = cc
seen_case (Some q) spot f = (q, refl, sym (same_Some (Flat q) spot f))

-- a region and a set that are kept are so with any region of the same mask, and no dropping rule drops them
pub record IsKeeping (K : Keeping) (b : Box2) (t : Curves) : Type 0 where
  pub kept : (r : Region) (set : ℕ) → K b (lines_of t) t.discs r set → IsKept b (lines_of t) t.discs r set
  pub moves : (r u : Region) → IsRegion b (lines_of t) r → IsRegion b (lines_of t) u → r.mask ≡ u.mask → (set : ℕ) → K b (lines_of t) t.discs r set → K b (lines_of t) t.discs u set

pub whole_keeping : (b : Box2) (t : Curves) → IsKeeping IsKept b t
whole_keeping b t = record { kept = λ r set k. k; moves = λ r u cell other same set k. kept_moves b (lines_of t) r u cell other same t.discs set k }

pub lean_keeping : (b : Box2) (t : Curves) → IsKeeping IsLean b t
lean_keeping b t = record { kept = λ r set k. k.kept; moves = λ r u cell other same set k. lean_moves b (lines_of t) r u cell other same t.discs set k }

pub keeping : (masks : Masks) (b : Box2) (t : Curves) → IsKeeping (keeping_of masks) b t
keeping Whole b t = whole_keeping b t
keeping Lean b t = lean_keeping b t

module _ (K : Keeping) (es : List Element) (b : Box2) (t : Curves) (keeping : IsKeeping K b t) (regions : List Region) (all : List Candidate)
    (of_input : AreCurves es t) (table : IsTable es t) (proper : All IsProper es) (law : OddMaskLaw es t)
    (cells : AreCells IsSmallPoint line_side met2 2 (walls2 b) (lines_of t) regions)
    (cand : AreCandidatesOf K b (lines_of t) t.discs regions all) where
  lines_count : length (lines_of t) ≡ length t.lines
  lines_count = length-map t.lines (λ (g : Line2 × _). g.0)

  pub region_at : (r : ℕ) (region : Region) → slice_get regions r ≡ Some region → IsRegion b (lines_of t) region
  region_at r region at = at_place (IsRegion b (lines_of t)) regions r region cells.each at

  pub candidate_at : (c : Candidate) → Contains all c → IsCandidateOf K b (lines_of t) t.discs regions c
  candidate_at c h = All-contains (IsCandidateOf K b (lines_of t) t.discs regions) all c cand.each h

  -- no dropping rule drops it
  landed : (c : Candidate) → IsCandidateOf K b (lines_of t) t.discs regions c → IsCandidate b (lines_of t) t.discs regions c
  landed c k = record { region = k.region; at = k.at; set = k.set; below = k.below; of_mask = k.of_mask; kept = keeping.kept k.region k.set k.kept; seen = k.seen }

  -- the parts of the mask of a candidate that is the mask of p
  pub parts : (c : Candidate) (k : IsCandidateOf K b (lines_of t) t.discs regions c) (p : P2) → c.mask ≡ curve_mask t p → (k.region.mask ≡ mask_of line_side (lines_of t) p) × (k.set ≡ mask_of disc_side t.discs p)
  parts c k p e =
      let cell = region_at c.region k.region k.at in
      let below : k.region.mask < 2 ^ length t.lines = subst (λ n. k.region.mask < 2 ^ n) lines_count (subst (λ m. m < 2 ^ length (lines_of t)) cell.of_mask (mask_below line_side (lines_of t) k.region.inner)) in
      let whole : curve_mask t p ≡ k.region.mask + 2 ^ length t.lines * k.set = sym e ∙ k.of_mask ∙ ap (λ n. k.region.mask + 2 ^ n * k.set) lines_count in
      same_parts t p k.region.mask k.set below whole

  odd_is : (c : Candidate) (p : P2) → IsCandidateOf K b (lines_of t) t.discs regions c → IsOff es p → c.mask ≡ curve_mask t p → is_odd_candidate es t regions c ≡ is_odd_at es p
  odd_is c p k off e =
      let cell = region_at c.region k.region k.at in
      ap (is_odd_in es t c.mask) k.at ∙ ap (is_odd_mask es t k.region.inner) e ∙ sym (law p k.region.inner off cell.free.off (cell.of_mask ∙ (parts c k p e).0))

  -- ---- the points that are shown

  named_of : (c : Candidate) (q : P2) → IsCandidateOf K b (lines_of t) t.discs regions c → c.seen ≡ Some q → IsReduced2 q × IsSampleOfRegion es b q
  named_of c q k e =
      let seen : IsSeen k.region.corners t.discs k.set (Some q) = subst (λ (o : Option P2). IsSeen k.region.corners t.discs k.set o) e k.seen in (
        seen.0,
        record { table = t; of_input = of_input; inner = k.region.inner; free = (region_at c.region k.region k.at).free; corners = k.region.corners; are_corners = (region_at c.region k.region k.at).region; sample = seen.1.0; is_sample = seen.1.1; off = seen.1.2.off; same = seen.1.3 },
      )

  shown_point : (Right : P2 → Type 0) (c : Candidate) (q : P2) → Contains all c → ((p : P2) → IsOff es p → c.mask ≡ curve_mask t p → Right p) → c.seen ≡ Some q
      → (p : P2) × (Flat q ≡ Flat p) × IsFreePoint contours es b p × IsSampleOfRegion es b p × (curve_mask t p ≡ c.mask) × Right p
  shown_point Right c q h right e =
      let k = candidate_at c h in
      let w = seen_law b (lines_of t) t.discs regions c q cells.each (landed c k) e in
      let mask : c.mask ≡ curve_mask t q = w.of_mask ∙ ap (λ n. mask_of line_side (lines_of t) q + 2 ^ n * mask_of disc_side t.discs q) lines_count in
      let off = off_from_clear es t table proper q (record { lines = w.free.off; discs = w.off }) in
      let r = named_of c q k e in
      (q, refl, record { inside = inside_of b q w.free.inside; off = off; reduced = r.0 }, r.1, sym mask, right q off mask)

  shown_at : (Right : P2 → Type 0) (c : Candidate) → Contains all c → ((p : P2) → IsOff es p → c.mask ≡ curve_mask t p → Right p) → IsShownAt contours es b (curve_mask t) Right (shown2 (marked c))
  shown_at Right c h right = λ spot e.
      let r = seen_case c.seen spot e in
      let w = shown_point Right c r.0 h right r.1 in
      (w.0, r.2 ∙ w.1, w.2, w.3, w.4, w.5)

  -- ---- each sample has a candidate that shows a point

  abbrev HasShown : P2 → Type 0
  HasShown p = (c : Candidate) × Contains all c × (c.mask ≡ curve_mask t p) × (c.seen ≢ None)

  found_in : (p : P2) → IsFreePoint contours es b p → (q : P2) → IsFree line_side (walls2 b) (lines_of t) q → (corners : List P2) → HasCorners line_side met2 2 (walls2 b) (lines_of t) q corners → (s : P2) → IsSample corners s → All (λ d. disc_side d s ≢ On) t.discs → IsSamePoint2 s p → HasShown p
  found_in p free q0 free0 corners has s first off same =
      let some = cells.some q0 free0 in
      let r = some.1 in
      let cell : IsRegion b (lines_of t) some.1 = All-contains (IsRegion b (lines_of t)) regions some.1 cells.each (some.0, some.2, some.3) in
      let sample = sample_moves b (lines_of t) q0 free0 corners has some.1 cell (sym some.4) s first in
      let m = IsMultiple2_of-reduced s p free.reduced same in
      let ls = lines_of t in
      let lines : mask_of line_side (lines_of t) s ≡ mask_of line_side (lines_of t) p = mask_alike line_side (lines_of t) s p (λ k d l. flat_factor.kept (get_or ls k d) s p m) in
      let discs : mask_of disc_side t.discs s ≡ mask_of disc_side t.discs p = mask_alike disc_side t.discs s p (λ k d l. disc_factor (get_or t.discs k d) s p m) in
      let of = sample_law b (lines_of t) r s cell sample in
      let clear = clear_from_off es t table p free.off in
      let a = cand.free p (record { inside = above_walls b p free.inside; off = clear.lines }) clear.discs in
      let c = a.1 in
      let h : Contains all a.1 = (a.0, a.2, a.3) in
      let k = candidate_at c h in
      let mask : a.1.mask ≡ curve_mask t p = a.4 ∙ ap (λ n. mask_of line_side (lines_of t) p + 2 ^ n * mask_of disc_side t.discs p) lines_count in
      let q = parts c k p mask in
      let other = region_at c.region k.region k.at in (
        c,
        h,
        mask,
        λ none.
            let seen : IsSeen k.region.corners t.discs k.set None = subst (λ (o : Option P2). IsSeen k.region.corners t.discs k.set o) none k.seen in
            seen s (sample_moves b (lines_of t) r.inner cell.free r.corners cell.region k.region other (cell.of_mask ∙ sym of.of_mask ∙ lines ∙ sym q.0) s sample) (record { off = off; of_set = discs ∙ sym q.1 }),
      )

  found : (p : P2) → IsFreePoint contours es b p → IsSampleOfRegion es b p → HasShown p
  found p free o =
      let F : Curves → Type 0 = λ u. (q : P2) → IsFree line_side (walls2 b) (lines_of u) q → (corners : List P2) → HasCorners line_side met2 2 (walls2 b) (lines_of u) q corners → (s : P2) → IsSample corners s → All (λ d. disc_side d s ≢ On) u.discs → IsSamePoint2 s p → HasShown p in
      subst F (sym (one_table es o.table t o.of_input of_input)) (found_in p free) o.inner o.free o.corners o.are_corners o.sample o.is_sample o.off o.same

  -- ---- no point only where there is an arc

  arc_of : (e : Element) (d : Disc2) → IsDiscOf e d → is_arc e ≡ true
  arc_of (Edge a c) d h = absurd h
  arc_of (Arc a c d ccw) e h = refl

  has_arc : (ds : List Disc2) → t.discs ≡ ds → (c : Candidate) → Contains all c → c.seen ≡ None → HasArc es
  has_arc [] e c h none = absurd (some_sample b (lines_of t) regions c cells.each (subst (λ ds. IsCandidate b (lines_of t) ds regions c) e (landed c (candidate_at c h))) none)
  has_arc (d ∷ ds) e c h none =
      let r = table.disc_from 0 d (ap (λ xs. slice_get xs 0) e) in
      (r.1.0, r.0, r.1.1, r.1.2, arc_of r.0 d r.2)

  failed_at : (c : Candidate) → Contains all c → (shown2 (marked c)).spot ≡ None → HasArc es
  failed_at c h e = has_arc t.discs refl c h (by_seen c.seen e)
    where
      by_seen : (o : Option P2) → option_map Flat o ≡ None → o ≡ None
      by_seen None f = refl
      by_seen (Some q) f = cc

  -- ---- the candidates that pass a test

  spot_some : (o : Option P2) → o ≢ None → option_map Flat o ≢ None
  spot_some None n e = n refl
  spot_some (Some q) n e = cc

  module _ (f : Candidate → Bool) (Right : P2 → Type 0)
      (right : (c : Candidate) (p : P2) → Contains all c → f c ≡ true → IsOff es p → c.mask ≡ curve_mask t p → Right p)
      (passes : (c : Candidate) (p : P2) → Contains all c → Right p → IsOff es p → c.mask ≡ curve_mask t p → f c ≡ true) where
    each_passing : (Q : Shown → Type 0) → ((c : Candidate) → Contains all c → f c ≡ true → Q (shown2 (marked c))) → All Q (map shown2 (map marked (filter f all)))
    each_passing Q h =
        All-map Q shown2 (map marked (filter f all))
        (All-map (λ m. Q (shown2 m)) marked (filter f all)
        (λ i d l. h (slice_index_or (filter f all) i d) (All-filter f (Contains all) all (All-contains_itself all) i d l) (filter_passes f all i d l)))

    pub are_shown : AreShown contours es b (curve_mask t) Right (map shown2 (map marked (filter f all)))
    are_shown = record {
      each = each_passing (IsShownAt contours es b (curve_mask t) Right) (λ c h yes. shown_at Right c h (λ p off mask. right c p h yes off mask));
      every = λ p free named is.
          let r = found p free named in
          let yes = passes r.0 p r.1 is free.off r.2 in
          let k = contains_mapped shown2 (map marked (filter f all)) (marked r.0) (contains_mapped marked (filter f all) r.0 (filtered f all r.0 r.1 yes)) in
          (k.0, shown2 (marked r.0), k.1, k.2, (r.2, spot_some r.0.seen r.3));
      failed = each_passing (λ (m : Shown). m.spot ≡ None → HasArc es) (λ c h yes. failed_at c h);
    }

  -- ---- both lists

  never : (x : Bool) → x ≡ true → x ≡ false → ⊥
  never x e f = cc

  flip : (x y : Bool) → x ≡ y → not x ≡ true → y ≡ true → ⊥
  flip true y e f g = cc
  flip false y e f g = cc

  unflip : (x y : Bool) → x ≡ y → (y ≡ true → ⊥) → not x ≡ true
  unflip true y e n = absurd (n (sym e))
  unflip false y e n = refl

  pub inside_shown : AreShown contours es b (curve_mask t) (Odd es) (map shown2 (map marked (filter (is_odd_candidate es t regions) all)))
  inside_shown =
      are_shown (is_odd_candidate es t regions) (Odd es)
      (λ c p h yes off mask. sym (odd_is c p (candidate_at c h) off mask) ∙ yes)
      (λ c p h odd off mask. odd_is c p (candidate_at c h) off mask ∙ odd)

  pub outside_shown : AreShown contours es b (curve_mask t) (λ p. Odd es p → ⊥) (map shown2 (map marked (filter (λ c. not (is_odd_candidate es t regions c)) all)))
  outside_shown =
      are_shown (λ c. not (is_odd_candidate es t regions c)) (λ p. Odd es p → ⊥)
      (λ c p h yes off mask. flip (is_odd_candidate es t regions c) (is_odd_at es p) (odd_is c p (candidate_at c h) off mask) yes)
      (λ c p h even off mask. unflip (is_odd_candidate es t regions c) (is_odd_at es p) (odd_is c p (candidate_at c h) off mask) even)

  -- ---- the masks are those of candidates, odd or even

  mask_of_candidate : (odd : Bool) (c : Candidate) → Contains all c → is_odd_candidate es t regions c ≡ odd → IsMaskOf K es b odd c.mask
  mask_of_candidate odd c h e =
      let k = candidate_at c h in
      record { table = t; of_input = of_input; region = k.region; is_region = region_at c.region k.region k.at; set = k.set; below = k.below; kept = k.kept; of_mask = k.of_mask; parity = sym (ap (is_odd_in es t c.mask) k.at) ∙ e }

  not_true : (x : Bool) → not x ≡ true → x ≡ false
  not_true true e = cc
  not_true false e = refl

  masks_passing : (f : Candidate → Bool) (Q : Shown → Type 0) → ((c : Candidate) → Contains all c → f c ≡ true → Q (shown2 (marked c))) → All Q (map shown2 (map marked (filter f all)))
  masks_passing f Q h =
      All-map Q shown2 (map marked (filter f all))
      (All-map (λ m. Q (shown2 m)) marked (filter f all)
      (λ i d l. h (slice_index_or (filter f all) i d) (All-filter f (Contains all) all (All-contains_itself all) i d l) (filter_passes f all i d l)))

  pub inside_masks : All (λ (m : Shown). IsMaskOf K es b true m.mask) (map shown2 (map marked (filter (is_odd_candidate es t regions) all)))
  inside_masks = masks_passing (is_odd_candidate es t regions) (λ (m : Shown). IsMaskOf K es b true m.mask) (λ c h yes. mask_of_candidate true c h yes)

  pub outside_masks : All (λ (m : Shown). IsMaskOf K es b false m.mask) (map shown2 (map marked (filter (λ c. not (is_odd_candidate es t regions c)) all)))
  outside_masks = masks_passing (λ c. not (is_odd_candidate es t regions c)) (λ (m : Shown). IsMaskOf K es b false m.mask) (λ c h yes. mask_of_candidate false c h (not_true (is_odd_candidate es t regions c) yes))

  -- ---- each mask of a candidate, odd or even, is that of one of these

  module _ (straight : StraightCellLaw es) where
    region_listed : (odd : Bool) (r : Region) → IsRegion b (lines_of t) r → (set : ℕ) → set < 2 ^ length t.discs → K b (lines_of t) t.discs r set
        → (mask : ℕ) → mask ≡ mask_with (lines_of t) r set → is_odd_mask es t r.inner mask ≡ odd → (c : Candidate) × Contains all c × (c.mask ≡ mask) × (is_odd_candidate es t regions c ≡ odd)
    region_listed odd r cell set below kept mask of_mask parity =
        let some = cells.some r.inner cell.free in
        let u = some.1 in
        let at = contains_at regions some.1 (some.0, some.2, some.3) in
        let other = region_at at.0 some.1 at.1 in
        let same : r.mask ≡ some.1.mask = sym (some.4 ∙ cell.of_mask) in
        let of_u : mask ≡ mask_with (lines_of t) some.1 set = of_mask ∙ ap (λ m. m + 2 ^ length (lines_of t) * set) same in
        let a = cand.every at.0 some.1 set at.1 below (keeping.moves r some.1 cell other same set kept) in
        let c = any_contained (λ c. (c.region ≡ at.0) × (c.mask ≡ mask_with (lines_of t) some.1 set)) all a in
        let in_u : is_odd_candidate es t regions c.0 ≡ is_odd_mask es t some.1.inner c.0.mask = ap (λ i. is_odd_in es t c.0.mask (slice_get regions i)) c.2.0 ∙ ap (is_odd_in es t c.0.mask) at.1 in (
          c.0,
          c.1,
          c.2.1 ∙ sym of_u,
          in_u ∙ ap (is_odd_mask es t some.1.inner) (c.2.1 ∙ sym of_u)
              ∙ sym (region_parity es t of_input proper straight r.inner some.1.inner cell.free.off other.free.off (cell.of_mask ∙ same ∙ sym other.of_mask) mask) ∙ parity,
        )

    mask_listed : (odd : Bool) (mask : ℕ) → IsMaskOf K es b odd mask → (c : Candidate) × Contains all c × (c.mask ≡ mask) × (is_odd_candidate es t regions c ≡ odd)
    mask_listed odd mask o =
        let F : Curves → Type 0 = λ u. (r : Region) → IsRegion b (lines_of u) r → (set : ℕ) → set < 2 ^ length u.discs → K b (lines_of u) u.discs r set
        → (mask : ℕ) → mask ≡ mask_with (lines_of u) r set → is_odd_mask es u r.inner mask ≡ odd → (c : Candidate) × Contains all c × (c.mask ≡ mask) × (is_odd_candidate es t regions c ≡ odd) in
        subst F (sym (one_table es o.table t o.of_input of_input)) (region_listed odd) o.region o.is_region o.set o.below o.kept mask o.of_mask o.parity

    passing_listed : (f : Candidate → Bool) (c : Candidate) → Contains all c → f c ≡ true → Contains (masks_of (map shown2 (map marked (filter f all)))) c.mask
    passing_listed f c h passed =
        contains_mapped (λ (m : Shown). m.mask) (map shown2 (map marked (filter f all))) (shown2 (marked c))
        (contains_mapped shown2 (map marked (filter f all)) (marked c) (contains_mapped marked (filter f all) c (filtered f all c h passed)))

    pub every_inside : (mask : ℕ) → IsMaskOf K es b true mask → Contains (masks_of (map shown2 (map marked (filter (is_odd_candidate es t regions) all)))) mask
    every_inside mask o =
        let c = mask_listed true mask o in
        subst (Contains (masks_of (map shown2 (map marked (filter (is_odd_candidate es t regions) all))))) c.2 (passing_listed (is_odd_candidate es t regions) c.0 c.1 c.3)

    pub every_outside : (mask : ℕ) → IsMaskOf K es b false mask → Contains (masks_of (map shown2 (map marked (filter (λ c. not (is_odd_candidate es t regions c)) all)))) mask
    every_outside mask o =
        let c = mask_listed false mask o in
        subst (Contains (masks_of (map shown2 (map marked (filter (λ c. not (is_odd_candidate es t regions c)) all))))) c.2 (passing_listed (λ c. not (is_odd_candidate es t regions c)) c.0 c.1 (ap not c.3))

-- ---- all together

pub marks_masks : (ms : List Marked2) → masks_of (map shown2 ms) ≡ map (λ (m : Marked2). m.mask) ms
marks_masks [] = refl
marks_masks (m ∷ ms) = ap (λ ns. m.mask ∷ ns) (marks_masks ms)

pub contour_parts : (K : Keeping) (es : List Element) (b : Box2) (t : Curves) (regions : List Region) (all : List Candidate) (s : Split2)
    → IsKeeping K b t → AreCurves es t → All IsProper es → OddMaskLaw es t → StraightCellLaw es
    → AreCells IsSmallPoint line_side met2 2 (walls2 b) (lines_of t) regions
    → AreCandidatesOf K b (lines_of t) t.discs regions all
    → IsSplit es t regions all s
    → AreShownParts contours (IsMaskOf K) es b (curve_mask t) (map shown2 s.inside) (map shown2 s.outside)
contour_parts K es b t regions all s keeping of_input proper law straight cells cand is =
    let table = table_is es t of_input in
    record {
      inside_shown = subst (AreShown contours es b (curve_mask t) (Odd es)) (sym (ap (map shown2) is.inside)) (inside_shown K es b t keeping regions all of_input table proper law cells cand);
      outside_shown = subst (AreShown contours es b (curve_mask t) (λ p. Odd es p → ⊥)) (sym (ap (map shown2) is.outside)) (outside_shown K es b t keeping regions all of_input table proper law cells cand);
      inside_masks = subst (All (λ (m : Shown). IsMaskOf K es b true m.mask)) (sym (ap (map shown2) is.inside)) (inside_masks K es b t keeping regions all of_input table proper law cells cand);
      outside_masks = subst (All (λ (m : Shown). IsMaskOf K es b false m.mask)) (sym (ap (map shown2) is.outside)) (outside_masks K es b t keeping regions all of_input table proper law cells cand);
      every_inside = subst (λ (ms : List Shown). (mask : ℕ) → IsMaskOf K es b true mask → Contains (masks_of ms) mask) (sym (ap (map shown2) is.inside)) (every_inside K es b t keeping regions all of_input table proper law cells cand straight);
      every_outside = subst (λ (ms : List Shown). (mask : ℕ) → IsMaskOf K es b false mask → Contains (masks_of ms) mask) (sym (ap (map shown2) is.outside)) (every_outside K es b t keeping regions all of_input table proper law cells cand straight);
    }

-- the masks of a kind are those of the regions with the sets with which they are kept
pub parts_of_kind : (masks : Masks) (es : List Element) (b : Box2) (mask_at : P2 → ℕ) (inside outside : List Shown)
    → AreShownParts contours (IsMaskOf (keeping_of masks)) es b mask_at inside outside → AreShownParts contours (mask_kind masks contours) es b mask_at inside outside
parts_of_kind Whole es b mask_at inside outside are = are
parts_of_kind Lean es b mask_at inside outside are = are

-- each leaf is a strip or a disc
pub half_spaces2 : (t : Curves) → All (λ l. is_half_space l ≡ true) (leaves_of t)
half_spaces2 t =
    All-append (λ l. is_half_space l ≡ true) (map strip_leaf t.lines) (map Disc t.discs)
    (All-map (λ l. is_half_space l ≡ true) strip_leaf t.lines (λ k d l. refl))
    (All-map (λ l. is_half_space l ≡ true) Disc t.discs (λ k d l. refl))
