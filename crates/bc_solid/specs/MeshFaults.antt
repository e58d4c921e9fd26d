-- The faults of meshes, and which of them is the first: face by face a corner that its next one repeats, a face on one
-- line, and one on no plane; then an edge that occurs an odd number of times.
use Rattle.std.specs.Prelude.{◌≡◌, ◌≢◌, ◌+◌, ◌<◌, ◌%◌, ◌⊎◌, ℕ, true, List, ◌∷◌, ◌++◌, length, take, Some, slice_get, ◌<ℤ◌}
use Rattle.std.specs.List.{All}
use Rattle.bc_num.specs.declared.v3.V3.{V3}
use Rattle.bc_solid.specs.Meshes.{Edge3, edges, all_edges, joins, occurrences}
use Rattle.bc_solid.specs.Facets.{AreOnLine, AreOnPlane, IsSoundFace}
use Rattle.bc_solid.specs.declared.mesh_fault.MeshFault.{MeshFault}
use Rattle.bc_solid.specs.declared.mesh_fault.MeshFault.TheVariants.{TwinCorner, FlatFace, BentFace, OddEdge, Memory}

-- the corner at place k and the next one are the same; the first comes behind the last
abbrev pub IsTwin : List V3 → ℕ → Type 0
IsTwin cs k = (e : Edge3) × (slice_get (edges cs) k ≡ Some e) × (e.from ≡ e.to)

-- no corner is the same as the next
abbrev pub HasNoTwins : List V3 → Type 0
HasNoTwins cs = All (λ e. e.from ≢ e.to) (edges cs)

pub record IsFirstTwin (cs : List V3) (k : ℕ) : Type 0 where
  pub is : IsTwin cs k
  pub first : (j : ℕ) → j < k → IsTwin cs j → ⊥

-- the corner at place k is on no plane with all before it, which are on one
pub record IsBend (cs : List V3) (k : ℕ) : Type 0 where
  pub before : AreOnPlane (take k cs)
  pub here : AreOnPlane (take (k + 1) cs) → ⊥
  pub within : k < length cs

-- the first fault of the face with number n
abbrev pub IsFaceFault : ℕ → List V3 → MeshFault → Type 0
IsFaceFault n cs (TwinCorner face place) = (face ≡ n) × IsFirstTwin cs place
IsFaceFault n cs (FlatFace face) = (face ≡ n) × HasNoTwins cs × AreOnLine cs
IsFaceFault n cs (BentFace face place) = (face ≡ n) × HasNoTwins cs × (AreOnLine cs → ⊥) × IsBend cs place
IsFaceFault n cs _ = ⊥

-- a comes before b by x, then y, then z
abbrev pub IsLess3 : V3 → V3 → Type 0
IsLess3 a b = (a.x <ℤ b.x) ⊎ ((a.x ≡ b.x) × ((a.y <ℤ b.y) ⊎ ((a.y ≡ b.y) × (a.z <ℤ b.z))))

-- the first edge, in the order of the faces, whose ends occur an odd number of times: a and b are these ends, the lesser
-- first, and n is that number
pub record IsFirstOddEdge (es : List Edge3) (a b : V3) (n : ℕ) : Type 0 where
  pub before : List Edge3
  pub edge : Edge3
  pub behind : List Edge3
  pub whole : before ++ edge ∷ behind ≡ es
  pub ends : joins (record { from = a; to = b }) edge ≡ true
  pub less : IsLess3 a b
  pub count : occurrences edge es ≡ n
  pub odd : n % 2 ≡ 1
  pub first : All (λ e. occurrences e es % 2 ≡ 0) before

-- f is the first fault of the mesh
abbrev pub IsMeshFault : List (List V3) → MeshFault → Type 0
IsMeshFault faces (OddEdge a b count) = All IsSoundFace faces × IsFirstOddEdge (all_edges faces) a b count
IsMeshFault faces Memory = ⊥
IsMeshFault faces f = (n : ℕ) × (cs : List V3) × (slice_get faces n ≡ Some cs) × All IsSoundFace (take n faces) × IsFaceFault n cs f
