-- The slabs of a tree, and the planes of a boundary's faces and of these slabs, each once.
use Rattle.std.specs.Prelude.{◌≡◌, List, [], ◌∷◌, ◌++◌, map}
use Rattle.std.specs.List.{All, AllZip}
use Rattle.bc_num.specs.declared.v3.V3.{V3}
use Rattle.bc_num.specs.Directions3.{IsPrimitiveOf3}
use Rattle.bc_space.specs.declared.plane3.Plane3.{Plane3}
use Rattle.bc_space.specs.Planes.{IsSizedPlane}
use Rattle.bc_space.specs.PlanesThrough.{along_normal3}
use Rattle.bc_solid.specs.Facets.{Facet}
use Rattle.bc_natural.specs.Distinct.{distinct}
use Rattle.bc_natural.specs.Planes.{is_same_plane}
use Rattle.bc_tree.specs.declared.frame.Frame3.{Frame3}
use Rattle.bc_tree.specs.Leaves.{IsFrame3}
use Rattle.bc_tree.specs.declared.tree.Leaf.{Leaf}
use Rattle.bc_tree.specs.declared.tree.Leaf.TheVariants.{Slab, Strip, Disc, Block, Tile}
use Rattle.bc_tree.specs.Shape.{Shape, leaf, union, meet, cut, Shapes, none, child}

-- the plane of a slab: the canonical one through its origin with its normal up to sign
pub record IsSlabPlane (f : Frame3) (h : Plane3) : Type 0 where
  pub direction : V3
  pub primitive : IsPrimitiveOf3 f.n direction
  pub a_is : h.a ≡ direction.x
  pub b_is : h.b ≡ direction.y
  pub c_is : h.c ≡ direction.z
  pub on : h.d ≡ along_normal3 h f.o

abbrev pub leaf_slabs : Leaf → List Frame3
leaf_slabs (Slab f) = f ∷ []
leaf_slabs (Strip f) = []
leaf_slabs (Disc d) = []
leaf_slabs (Block b) = []
leaf_slabs (Tile b) = []

-- the slabs that stand in a tree, in order
abbrev mutual
  pub slabs : Shape → List Frame3
  slabs (leaf l) = leaf_slabs l
  slabs (union kids) = all_slabs kids
  slabs (meet kids) = all_slabs kids
  slabs (cut first kids) = slabs first ++ all_slabs kids

  pub all_slabs : Shapes → List Frame3
  all_slabs none = []
  all_slabs (child s ss) = slabs s ++ all_slabs ss

-- the planes of the faces and then of the slabs, each once and where it is seen first
pub record ArePlanesWith (fs : List Facet) (s : Shape) (planes : List Plane3) : Type 0 where
  pub found : List Plane3
  pub of_slabs : AllZip IsSlabPlane (slabs s) found
  pub are : planes ≡ distinct is_same_plane (map (λ f. f.plane) fs ++ found)

-- the planes of some slabs are added to a list: of whatever planes `old` is the list, `new` is that of these and the slabs'
pub record HasAdded (fs : List Frame3) (old new : List Plane3) : Type 0 where
  pub found : List Plane3
  pub of_slabs : AllZip IsSlabPlane fs found
  pub sized : All IsSizedPlane found
  pub are : (seen : List Plane3) → old ≡ distinct is_same_plane seen → new ≡ distinct is_same_plane (seen ++ found)

-- the list is one, so the number of planes is
abbrev pub OnePlaneList : Type 0
OnePlaneList = (fs : List Facet) (s : Shape) (t u : List Plane3) → All IsFrame3 (slabs s) → ArePlanesWith fs s t → ArePlanesWith fs s u → t ≡ u
