-- The laws that each space proves of its points, half-spaces and boxes, for numbers of any size. The files of `Laws/` prove
-- them for the plane and for space; they stand here since an `impl` names no file of proofs/.
pub mod LowestTerms
pub mod Signs
pub mod HullOfWays
pub mod EdgesOfWays
pub mod FlatMeets
pub mod FlatWays
pub mod FlatLaws
pub mod FlatEdges
pub mod SolidMeets
pub mod SolidWays
pub mod SolidLaws
pub mod SolidEdges
use Rattle.std.specs.Prelude.{◌≡◌, ◌≢◌, ℕ, ◌+◌, ◌*◌, ◌<◌, ◌≤◌, ◌⊎◌, List, [], ◌∷◌, ◌++◌, length, Option, Some}
use Rattle.std.specs.List.{All, fold}
use Rattle.bc_hull.specs.Choices.{IsPart, IsMeet}
use Rattle.bc_space.specs.declared.side.Side.{Side}
use Rattle.bc_space.specs.declared.side.Side.TheVariants.{Below, On, Above}
use Rattle.bc_space.specs.Regions.{IsFree, IsInRegion, IsCorner, IsEnd}

-- a positive factor on the numbers of a point keeps its side
pub record FactorLaw {P H : Type 0} (side : H → P → Side) (is_multiple : P → P → Type 0) : Type 0 where
  pub kept : (h : H) (p q : P) → is_multiple p q → side h p ≡ side h q

-- a mediant is strictly on a side where one of the two points is and the other is not strictly on the other side; a
-- mediant of two points of the boundary is on it
pub record MediantLaw {P H : Type 0} (side : H → P → Side) (mixed : P → P → P) : Type 0 where
  pub above_left : (h : H) (p q : P) → side h p ≡ Above → side h q ≢ Below → side h (mixed p q) ≡ Above
  pub above_right : (h : H) (p q : P) → side h p ≢ Below → side h q ≡ Above → side h (mixed p q) ≡ Above
  pub below_left : (h : H) (p q : P) → side h p ≡ Below → side h q ≢ Above → side h (mixed p q) ≡ Below
  pub below_right : (h : H) (p q : P) → side h p ≢ Above → side h q ≡ Below → side h (mixed p q) ≡ Below
  pub on : (h : H) (p q : P) → side h p ≡ On → side h q ≡ On → side h (mixed p q) ≡ On

-- the hull law: the corners of a free point's region reach as far to each side of any half-space as the region does, and
-- they are not all on its boundary
pub record HullLaw {P H B : Type 0} (side : H → P → Side) (met : List H → Option P) (dimension : ℕ) (walls : B → List H) : Type 0 where
  pub above : (b : B) (hs : List H) (q p : P) (h : H) → IsFree side (walls b) hs q → IsInRegion side (walls b) hs q p → side h p ≡ Above
      → (c : P) × IsCorner side met dimension (walls b) hs q c × (side h c ≡ Above)
  pub not_below : (b : B) (hs : List H) (q p : P) (h : H) → IsFree side (walls b) hs q → IsInRegion side (walls b) hs q p → side h p ≢ Below
      → (c : P) × IsCorner side met dimension (walls b) hs q c × (side h c ≢ Below)
  pub below : (b : B) (hs : List H) (q p : P) (h : H) → IsFree side (walls b) hs q → IsInRegion side (walls b) hs q p → side h p ≡ Below
      → (c : P) × IsCorner side met dimension (walls b) hs q c × (side h c ≡ Below)
  pub not_above : (b : B) (hs : List H) (q p : P) (h : H) → IsFree side (walls b) hs q → IsInRegion side (walls b) hs q p → side h p ≢ Above
      → (c : P) × IsCorner side met dimension (walls b) hs q c × (side h c ≢ Above)
  pub not_all_on : (b : B) (hs : List H) (q : P) (h : H) → IsFree side (walls b) hs q
      → (c : P) × IsCorner side met dimension (walls b) hs q c × (side h c ≢ On)

-- the edge law: where h and others of the list meet in a point of a free point's region, the point is a corner of the
-- region, or between two corners of it that are on the same others, one Above h and one Below
pub record EdgeLaw {P H B : Type 0} (side : H → P → Side) (met : List H → Option P) (dimension : ℕ) (walls : B → List H) : Type 0 where
  pub ends : (b : B) (hs : List H) (q c : P) (h : H) (gs : List H) → IsFree side (walls b) hs q → IsInRegion side (walls b) hs q c → IsPart gs (walls b ++ hs) → length gs + 1 ≡ dimension → met (gs ++ h ∷ []) ≡ Some c
      → IsCorner side met dimension (walls b) hs q c ⊎ (((a : P) × IsEnd side met dimension (walls b) hs q h gs Above a) × ((a : P) × IsEnd side met dimension (walls b) hs q h gs Below a))

-- the size law: the mediant of 1 to 15,180 meets of half-spaces within their sizes is within the size of inner points
pub record SizeLaw {P H : Type 0} (sized : H → Type 0) (inner : P → Type 0) (mixed : P → P → P) (met : List H → Option P) (dimension : ℕ) : Type 0 where
  pub mediant : (hs : List H) (p : P) (ps : List P) → All sized hs → length ps < 15180 → IsMeet met dimension hs p → All (IsMeet met dimension hs) ps → inner (fold mixed p ps)

-- a meet is on the boundary of each of its half-spaces, and in lowest terms
pub record MeetLaw {P H : Type 0} (side : H → P → Side) (is_reduced : P → Type 0) (met : List H → Option P) : Type 0 where
  pub on : (hs : List H) (c : P) → met hs ≡ Some c → All (λ h. side h c ≡ On) hs
  pub reduced : (hs : List H) (c : P) → met hs ≡ Some c → is_reduced c

-- a box has two walls along each axis, within the sizes of half-spaces where the box is within its size; inner points are
-- within the size that `side` can take
pub record BoxLaw {P H B : Type 0} (sized : H → Type 0) (sized_box : B → Type 0) (fits inner : P → Type 0) (dimension : ℕ) (walls : B → List H) : Type 0 where
  pub some_dimension : 0 < dimension
  pub few_dimensions : dimension ≤ 3
  pub walls_count : (b : B) → length (walls b) ≡ 2 * dimension
  pub walls_sized : (b : B) → sized_box b → All sized (walls b)
  pub inner_fits : (p : P) → inner p → fits p
