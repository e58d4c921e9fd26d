-- Closed meshes: faces in their planes, with edges that occur an even number of times.
use Rattle.std.specs.Prelude.{◌≡◌, ◌≢◌, ◌≤◌, ◌^◌, ◌%◌, List, map, length, pos}
use Rattle.std.specs.List.{All, Contains}
use Rattle.bc_num.specs.declared.v3.V3.{V3}
use Rattle.bc_num.specs.declared.p3.P3.{P3}
use Rattle.bc_num.specs.Sizes.{AreCoords3}
use Rattle.bc_space.specs.declared.plane3.Plane3.{Plane3}
use Rattle.bc_space.specs.Planes.{plane_value, plane_side, IsSizedPlane}
use Rattle.bc_space.specs.PlanesThrough.{along_normal3, AreCollinear, IsPlaneThrough}
use Rattle.bc_solid.specs.Meshes.{Edge3, edges, all_edges, occurrences, corner_count}
use Rattle.bc_solid.specs.declared.solid.Facet.{Facet as Stored}

-- a face with the plane that it lies on
pub record Facet : Type 0 where
  pub plane : Plane3
  pub corners : List V3

abbrev pub facet_of : Stored → Facet
facet_of f = record { plane = f.plane; corners = f.corners }

-- the corners of each face
abbrev pub outlines : List Facet → List (List V3)
outlines fs = map (λ f. f.corners) fs

abbrev pub IsOnPlane : Plane3 → V3 → Type 0
IsOnPlane h v = h.d ≡ along_normal3 h v

-- each three of the corners are on one line
abbrev pub AreOnLine : List V3 → Type 0
AreOnLine cs = All (λ a. All (λ b. All (AreCollinear a b) cs) cs) cs

abbrev pub AreOnPlane : List V3 → Type 0
AreOnPlane cs = (h : Plane3) × All (IsOnPlane h) cs

-- a face that can stand in a closed mesh
pub record IsSoundFace (cs : List V3) : Type 0 where
  -- no two neighbouring corners are the same, last and first included
  pub apart : All (λ e. e.from ≢ e.to) (edges cs)
  -- they are not all on one line
  pub wide : AreOnLine cs → ⊥
  -- and all on one plane
  pub flat : AreOnPlane cs

-- each pair of ends occurs an even number of times among the edges of all faces
abbrev pub AreEven : List (List V3) → Type 0
AreEven faces = (k : Edge3) → occurrences k (all_edges faces) % 2 ≡ 0

pub record IsClosedMesh (faces : List (List V3)) : Type 0 where
  pub sound : All IsSoundFace faces
  pub even : AreEven faces

-- the plane is the canonical one of three of the corners that are not on one line
pub record IsSpanned (h : Plane3) (cs : List V3) : Type 0 where
  pub one : V3
  pub two : V3
  pub three : V3
  pub has_one : Contains cs one
  pub has_two : Contains cs two
  pub has_three : Contains cs three
  pub wide : AreCollinear one two three → ⊥
  pub through : IsPlaneThrough one two three h

-- a face in its canonical plane
pub record IsFacet (f : Facet) : Type 0 where
  pub apart : All (λ e. e.from ≢ e.to) (edges f.corners)
  pub near : All AreCoords3 f.corners
  pub spanned : IsSpanned f.plane f.corners
  pub flat : All (IsOnPlane f.plane) f.corners
  pub sized : IsSizedPlane f.plane

-- a closed mesh, near and not too large
pub record IsSolid (fs : List Facet) : Type 0 where
  pub facets : All IsFacet fs
  pub even : AreEven (outlines fs)
  pub few_faces : length fs ≤ 2 ^ 20
  pub few_corners : corner_count (outlines fs) ≤ 2 ^ 20

-- ---- the half-spaces: the planes of the faces

-- p is on none of the planes
abbrev pub IsOff3 : List Facet → P3 → Type 0
IsOff3 fs p = All (λ f. plane_value f.plane p ≢ pos 0) fs

-- p and q are Above the same planes: their masks are equal
abbrev pub AreAlike3 : List Facet → P3 → P3 → Type 0
AreAlike3 fs p q = All (λ f. plane_side f.plane p ≡ plane_side f.plane q) fs
