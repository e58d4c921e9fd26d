-- Meshes as they are read: places of space, and faces by the places that are their corners; and the edges of faces.
use Rattle.std.specs.Prelude.{ℕ, ◌+◌, Bool, not, ◌&&◌, ◌||◌, List, [], ◌∷◌, ◌++◌, map, length, pos, slice_get, unwrap_or}
use Rattle.std.specs.List.{filter}
use Rattle.std.specs.Ordering.{int_eq}
use Rattle.bc_num.specs.declared.v3.V3.{V3}
use Rattle.bc_solid.specs.Contours.{is_far}

-- the places, and each face as the places' numbers, which count from 0
pub record Mesh : Type 0 where
  pub points : List V3
  pub faces : List (List ℕ)

abbrev pub origin3 : V3
origin3 = record { x = pos 0; y = pos 0; z = pos 0 }

-- the place with a number
abbrev pub corner_at : List V3 → ℕ → V3
corner_at points i = unwrap_or (slice_get points i) origin3

abbrev pub corners_of : List V3 → List ℕ → List V3
corners_of points face = map (corner_at points) face

-- of each face the coordinates of its corners
abbrev pub faces_of : Mesh → List (List V3)
faces_of mesh = map (corners_of mesh.points) mesh.faces

-- all three are coordinates of an input
abbrev pub is_near_place : V3 → Bool
is_near_place v = not (is_far v.x) && (not (is_far v.y) && not (is_far v.z))

-- how many corners the faces have in all
abbrev pub corner_count : {A : Type 0} → List (List A) → ℕ
corner_count [] = 0
corner_count (face ∷ faces) = length face + corner_count faces

-- ---- edges

pub record Edge3 : Type 0 where
  pub from : V3
  pub to : V3

-- from a through the places to z
abbrev pub path : V3 → List V3 → V3 → List Edge3
path a [] z = record { from = a; to = z } ∷ []
path a (b ∷ cs) z = record { from = a; to = b } ∷ path b cs z

-- round a face: from each corner to the next, and from the last to the first
abbrev pub edges : List V3 → List Edge3
edges [] = []
edges (a ∷ cs) = path a cs a

-- those of all faces, in order
abbrev pub all_edges : List (List V3) → List Edge3
all_edges [] = []
all_edges (cs ∷ rest) = edges cs ++ all_edges rest

abbrev pub is_same3 : V3 → V3 → Bool
is_same3 a b = int_eq a.x b.x && (int_eq a.y b.y && int_eq a.z b.z)

-- the two edges have the same ends, in one order or the other
abbrev pub joins : Edge3 → Edge3 → Bool
joins k e = is_same3 k.from e.from && is_same3 k.to e.to || is_same3 k.from e.to && is_same3 k.to e.from

-- how often a pair of ends occurs, in either order
abbrev pub occurrences : Edge3 → List Edge3 → ℕ
occurrences k es = length (filter (joins k) es)
