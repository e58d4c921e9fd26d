-- The points that notes on contours may name, and the masks of the parts into which contours divide their box.
use Rattle.std.specs.Prelude.{◌≡◌, ◌≢◌, ◌<◌, ◌^◌, ℕ, Bool, true, List, length}
use Rattle.std.specs.List.{All, Any}
use Rattle.bc_num.specs.declared.p2.P2.{P2}
use Rattle.bc_num.specs.declared.box2.Box2.{Box2}
use Rattle.bc_num.specs.Points.{IsSamePoint2}
use Rattle.bc_space.specs.declared.side.Side.TheVariants.{On}
use Rattle.bc_space.specs.Lines.{line_side}
use Rattle.bc_space.specs.Discs.{disc_side}
use Rattle.bc_space.specs.Flat.{met2, walls2}
use Rattle.bc_space.specs.Regions.{IsFree}
use Rattle.bc_solid.specs.declared.element.Element.{Element}
use Rattle.bc_natural.specs.Curves.{Curves, AreCurves, lines_of, is_arc}
use Rattle.bc_cells.specs.Cells.{HasCorners}
use Rattle.bc_discs.specs.Samples.{IsSample}
use Rattle.bc_discs.specs.Candidates.{Region, Keeping, IsKept, mask_with}
use Rattle.bc_discs.specs.Laws.{IsRegion}
use Rattle.bc_discs.specs.Thinning.{IsLean}
use Rattle.bc_classify.specs.OddMasks.{is_odd_mask}
use Rattle.bc_formula.specs.declared.masks.Masks.{Masks}
use Rattle.bc_formula.specs.declared.masks.Masks.TheVariants.{Whole, Lean}

-- as a rational point, p is a sample of the region of some free point, on no circle
pub record IsSampleOfRegion (es : List Element) (box : Box2) (p : P2) : Type 0 where
  pub table : Curves
  pub of_input : AreCurves es table
  pub inner : P2
  pub free : IsFree line_side (walls2 box) (lines_of table) inner
  pub corners : List P2
  pub are_corners : HasCorners line_side met2 2 (walls2 box) (lines_of table) inner corners
  pub sample : P2
  pub is_sample : IsSample corners sample
  pub off : All (λ d. disc_side d sample ≢ On) table.discs
  pub same : IsSamePoint2 sample p

-- which regions are kept with which sets: those that no dropping rule drops, or of these the ones that the two exact rules leave
abbrev pub keeping_of : Masks → Keeping
keeping_of Whole = IsKept
keeping_of Lean = IsLean

-- the mask of a region with a set of discs with which it is kept, which is odd or even
pub record IsMaskOf (Keeps : Keeping) (es : List Element) (box : Box2) (odd : Bool) (mask : ℕ) : Type 0 where
  pub table : Curves
  pub of_input : AreCurves es table
  pub region : Region
  pub is_region : IsRegion box (lines_of table) region
  pub set : ℕ
  pub below : set < 2 ^ length table.discs
  pub kept : Keeps box (lines_of table) table.discs region set
  pub of_mask : mask ≡ mask_with (lines_of table) region set
  pub parity : is_odd_mask es table region.inner mask ≡ odd

-- where no dropping rule drops it
abbrev pub IsCandidateMask : List Element → Box2 → Bool → ℕ → Type 0
IsCandidateMask es box odd mask = IsMaskOf IsKept es box odd mask

-- and neither of the two exact rules takes it out
abbrev pub IsLeanMask : List Element → Box2 → Bool → ℕ → Type 0
IsLeanMask es box odd mask = IsMaskOf IsLean es box odd mask

-- some element is an arc
abbrev pub HasArc : List Element → Type 0
HasArc es = Any (λ e. is_arc e ≡ true) es
