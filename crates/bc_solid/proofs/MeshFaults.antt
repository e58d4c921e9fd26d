-- What the first fault of a face, and an edge that is odd, say of a mesh: it is then not closed.
use Rattle.std.proofs.Common.{◌≡◌, ℕ, ◌+◌, ◌<◌, ◌%◌, List, map, length, take, get_or, arith, refl, sym, ap, ◌∙◌, subst}
use Rattle.std.specs.Prelude.{All, slice_get, Some, option_map}
use Rattle.std.proofs.lemmas.List.{take-map}
use Rattle.std.proofs.lemmas.List.Elements.{All-weaker, All-take, All-same, All-map}
use Rattle.std.proofs.lemmas.Option.{slice_get-map, slice_get_read}
use Rattle.bc_num.specs.declared.v3.V3.{V3}
use Rattle.bc_solid.specs.declared.mesh_fault.MeshFault.{MeshFault}
use Rattle.bc_solid.specs.declared.mesh_fault.MeshFault.TheVariants.{TwinCorner, FlatFace, BentFace, OddEdge, Memory}
use Rattle.bc_solid.specs.Meshes.{all_edges, occurrences, corners_of}
use Rattle.bc_solid.specs.Facets.{Facet, outlines, IsOnPlane, AreOnPlane, IsSoundFace, IsClosedMesh, IsFacet}
use Rattle.bc_solid.specs.MeshFaults.{IsFaceFault, IsMeshFault}
use Rattle.bc_solid.proofs.Lists.{all_at}
use Rattle.bc_solid.proofs.Outlines.{twin_not_apart}
use Rattle.bc_solid.proofs.FacePlanes.{spanned_wide}

-- ---- faces without a fault

facet_sound : (f : Facet) → IsFacet f → IsSoundFace f.corners
facet_sound f h = record { apart = h.apart; wide = spanned_wide f.corners f.plane h.spanned; flat = (f.plane, h.flat) }

pub all_sound : (fs : List Facet) → All IsFacet fs → All IsSoundFace (outlines fs)
all_sound fs a = All-map IsSoundFace (λ (f : Facet). f.corners) fs (All-weaker IsFacet (λ f. IsSoundFace f.corners) (λ f h. facet_sound f h) fs a)

-- ---- the first face with a fault

face_fault : (faces : List (List V3)) (n : ℕ) (cs : List V3) (f : MeshFault) → slice_get faces n ≡ Some cs → All IsSoundFace (take n faces) → IsFaceFault n cs f → IsMeshFault faces f
face_fault faces n cs (TwinCorner face place) e a h = (n, cs, e, a, h)
face_fault faces n cs (FlatFace face) e a h = (n, cs, e, a, h)
face_fault faces n cs (BentFace face place) e a h = (n, cs, e, a, h)
face_fault faces n cs (OddEdge x y count) e a h = absurd h
face_fault faces n cs Memory e a h = absurd h

-- the faces before i are kept in their planes, and the one at i is at fault
pub first_face_fault : (points : List V3) (faces : List (List ℕ)) (kept : List Facet) (i n : ℕ) (face : List ℕ) (cs : List V3) (f : MeshFault)
    → i < length faces → face ≡ get_or faces i face → cs ≡ corners_of points face → n ≡ i
    → outlines kept ≡ map (corners_of points) (take i faces) → All IsFacet kept → IsFaceFault n cs f → IsMeshFault (map (corners_of points) faces) f
first_face_fault points faces kept i n face cs f l at is e h a k =
    face_fault (map (corners_of points) faces) i cs f
    (slice_get-map (corners_of points) faces i ∙ ap (option_map (corners_of points)) (slice_get_read faces (length faces) i face refl l at) ∙ ap (λ (vs : List V3). Some vs) (sym is))
    (All-same IsSoundFace (take i (map (corners_of points) faces)) (outlines kept) (take-map (corners_of points) i faces ∙ sym h) (all_sound kept a))
    (subst (λ m. IsFaceFault m cs f) e k)

-- ---- a mesh with a fault is not closed

part_on_plane : (cs : List V3) (k : ℕ) → AreOnPlane cs → AreOnPlane (take k cs)
part_on_plane cs k p = (p.0, All-take (IsOnPlane p.0) k cs p.1)

odd_even : (m n : ℕ) → m ≡ n → n % 2 ≡ 1 → m % 2 ≡ 0 → ⊥
odd_even m n e f g = omega arith

pub not_closed : (faces : List (List V3)) (f : MeshFault) → IsMeshFault faces f → IsClosedMesh faces → ⊥
not_closed faces (TwinCorner face place) (n, cs, e, a, (i, t)) c = twin_not_apart cs place t.is (all_at IsSoundFace faces n cs c.sound e).apart
not_closed faces (FlatFace face) (n, cs, e, a, (i, apart, o)) c = (all_at IsSoundFace faces n cs c.sound e).wide o
not_closed faces (BentFace face place) (n, cs, e, a, (i, apart, o, b)) c = b.here (part_on_plane cs (place + 1) (all_at IsSoundFace faces n cs c.sound e).flat)
not_closed faces (OddEdge x y count) (a, o) c = odd_even (occurrences o.edge (all_edges faces)) count o.count o.odd (c.even o.edge)
not_closed faces Memory h c = h
