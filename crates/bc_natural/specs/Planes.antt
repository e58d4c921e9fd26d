-- The planes of a mesh, each once: the canonical planes of its faces in the order of the faces, each with the first corner
-- of the first face that lies on it as origin.
use Rattle.std.specs.Prelude.{◌≡◌, ◌≤◌, ◌<◌, ℕ, Bool, ◌&&◌, List, map, length, Some, slice_get}
use Rattle.std.specs.List.{All, AllZip}
use Rattle.std.specs.Ordering.{int_eq}
use Rattle.bc_algebra.specs.Within.{IsWithin}
use Rattle.bc_num.specs.declared.v3.V3.{V3}
use Rattle.bc_num.specs.declared.p3.P3.{P3}
use Rattle.bc_num.specs.declared.box3.Box3.{Box3}
use Rattle.bc_num.specs.Sizes.{AreCoords3}
use Rattle.bc_space.specs.declared.plane3.Plane3.{Plane3}
use Rattle.bc_space.specs.Planes.{plane_side, IsSizedPlane}
use Rattle.bc_space.specs.Regions.{mask_of}
use Rattle.bc_solid.specs.Facets.{Facet}
use Rattle.bc_natural.specs.Distinct.{distinct}
use Rattle.bc_natural.specs.declared.limits.TheConstants.{MOST_PLANES}
use Rattle.bc_natural.specs.declared.nat_fault.NatFault.{NatFault}
use Rattle.bc_natural.specs.declared.nat_fault.NatFault.TheVariants.{TooManyPlanes, TooManyLines, TooManyDiscs, Memory}

-- the table: planes with their origins
abbrev pub Planes : Type 0
Planes = List (Plane3 × V3)

abbrev pub planes_of : Planes → List Plane3
planes_of t = map (λ e. e.0) t

-- the plane of the face, and its first corner
pub record IsPlaneOf (f : Facet) (entry : Plane3 × V3) : Type 0 where
  pub plane : entry.0 ≡ f.plane
  pub origin : slice_get f.corners 0 ≡ Some entry.1

abbrev pub is_same_plane : Plane3 → Plane3 → Bool
is_same_plane g h = int_eq g.a h.a && (int_eq g.b h.b && (int_eq g.c h.c && int_eq g.d h.d))

-- the table of the faces
pub record ArePlanes (fs : List Facet) (t : Planes) : Type 0 where
  pub found : List (Plane3 × V3)
  pub of_faces : AllZip IsPlaneOf fs found
  pub planes : t ≡ distinct (λ g h. is_same_plane g.0 h.0) found

-- ---- limits

-- the numbers are of the sizes that sides take
pub record ArePlanesSized (t : Planes) : Type 0 where
  pub planes : All (λ e. IsSizedPlane e.0) t
  pub origins : All (λ e. AreCoords3 e.1) t

abbrev pub ArePlanesFew : Planes → Type 0
ArePlanesFew t = length t ≤ MOST_PLANES

-- the faces pass the limit, with their number of planes; or there was no memory
abbrev pub IsPlaneLimitFault : List Facet → NatFault → Type 0
IsPlaneLimitFault fs (TooManyPlanes n) = (t : Planes) × ArePlanes fs t × (length t ≡ n) × (MOST_PLANES < n)
IsPlaneLimitFault fs (TooManyLines n) = ⊥
IsPlaneLimitFault fs (TooManyDiscs n) = ⊥
IsPlaneLimitFault fs Memory = Unit {0}

-- the faces do not pass the limit
abbrev pub IsWithinPlaneLimit : List Facet → Type 0
IsWithinPlaneLimit fs = (t : Planes) × ArePlanes fs t × ArePlanesFew t

-- ---- masks and the box

-- bit i is set where p is Above plane i
abbrev pub plane_mask : Planes → P3 → ℕ
plane_mask t p = mask_of plane_side (planes_of t) p

-- each number is at most 1024 in size: 1023 and 1
pub record IsNearBox3 (b : Box3) : Type 0 where
  pub x0_near : IsWithin 1024 b.x0
  pub y0_near : IsWithin 1024 b.y0
  pub z0_near : IsWithin 1024 b.z0
  pub x1_near : IsWithin 1024 b.x1
  pub y1_near : IsWithin 1024 b.y1
  pub z1_near : IsWithin 1024 b.z1
