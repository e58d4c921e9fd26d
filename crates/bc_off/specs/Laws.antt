-- What holds of every text: at most one mesh, within bounds, and not both a mesh and a fault.
use Rattle.std.specs.Prelude.{◌≡◌, ◌≤◌, ℕ, Bool, true, ◌&&◌, nat_lt, nat_le, List, length}
use Rattle.std.specs.List.{list_all}
use Rattle.bc_solid.specs.Meshes.{Mesh, is_near_place}
use Rattle.bc_off.specs.declared.fault.OffFault.{OffFault}
use Rattle.bc_off.specs.Off.{Off, FirstFault}

-- from 3 to 64 corners
abbrev pub has_sides : List ℕ → Bool
has_sides face = nat_le 3 (length face) && nat_le (length face) 64

-- each corner is one of n places
abbrev pub has_places : ℕ → List ℕ → Bool
has_places n face = list_all (λ i. nat_lt i n) face

-- at most 1024 vertices, each within 1023, and at most 2048 faces, each of 3 to 64 of the vertices
pub record IsMesh (mesh : Mesh) : Type 0 where
  pub near : list_all is_near_place mesh.points ≡ true
  pub few_points : length mesh.points ≤ 1024
  pub few_faces : length mesh.faces ≤ 2048
  pub sides : list_all has_sides mesh.faces ≡ true
  pub places : list_all (has_places (length mesh.points)) mesh.faces ≡ true

abbrev pub ReadAreMeshes : Type 0
ReadAreMeshes = (text : List ℕ) (mesh : Mesh) → Off text mesh → IsMesh mesh

-- a text has at most one mesh
abbrev pub HasOneReading : Type 0
HasOneReading = (text : List ℕ) (m n : Mesh) → Off text m → Off text n → m ≡ n

-- a text has at most one first fault, and none where it has a mesh
abbrev pub HasOneFault : Type 0
HasOneFault = (text : List ℕ) (f g : OffFault) → FirstFault text f → FirstFault text g → f ≡ g

abbrev pub HasNoBoth : Type 0
HasNoBoth = (text : List ℕ) (m : Mesh) (f : OffFault) → Off text m → FirstFault text f → ⊥
