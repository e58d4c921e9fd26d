-- Faces as they are kept, one after the other; and the solid that they are once all edges are counted.
use Rattle.std.proofs.Common.{◌≡◌, ◌≢◌, ℕ, zero, suc, ◌+◌, ◌<◌, ◌≤◌, ◌%◌, ◌^◌, List, [], ◌∷◌, ◌++◌, map, length, take, get_or, arith, refl, sym, ap, ◌∙◌, subst, length-append}
use Rattle.std.specs.Prelude.{All, slice_get, Some}
use Rattle.std.specs.Map.{keys_of}
use Rattle.std.proofs.lemmas.List.{map-append, length-map}
use Rattle.std.proofs.lemmas.List.Elements.{All-nil, All-cons, All-head, All-tail, All-push, All-append, All-same}
use Rattle.std.proofs.lemmas.Option.{slice_get_read, same_Some}
use Rattle.bc_num.specs.declared.v3.V3.{V3}
use Rattle.bc_solid.specs.declared.edge.Edge.{Edge}
use Rattle.bc_solid.specs.declared.solid.Facet.{Facet as Stored}
use Rattle.bc_solid.specs.Meshes.{edges, all_edges, corner_count, corner_at, corners_of}
use Rattle.bc_solid.specs.Facets.{Facet, facet_of, outlines, IsClosedMesh, IsFacet, IsSolid, IsSoundFace, AreEven}
use Rattle.bc_solid.specs.EdgeTables.{edge_of, count_of, IsEdgeTable, IsFirstOdd}
use Rattle.bc_solid.specs.MeshFaults.{IsFirstOddEdge}
use Rattle.bc_solid.proofs.Lists.{front_more}
use Rattle.bc_solid.proofs.Rounds.{length-edges}
use Rattle.bc_solid.proofs.EdgeTables.{all_even, first_odd_edge}
use Rattle.bc_solid.proofs.MeshFaults.{all_sound}

-- ---- counts

outline_count : (points : List V3) (faces : List (List ℕ)) → corner_count (map (corners_of points) faces) ≡ corner_count faces
outline_count points [] = refl
outline_count points (face ∷ faces) = (λ i. length-map face (corner_at points) i + outline_count points faces i)

-- a face has at most as many corners as all have
face_count : (faces : List (List ℕ)) (i : ℕ) (face : List ℕ) → slice_get faces i ≡ Some face → length face ≤ corner_count faces
face_count [] i face e = cc
face_count (f ∷ fs) zero face e = let l = ap length (same_Some f face e) in omega (arith, l)
face_count (f ∷ fs) (suc i) face e = let l = face_count fs i face e in omega (arith, l)

pub few_corners : (points : List V3) (faces : List (List ℕ)) (i : ℕ) (face : List ℕ) (cs : List V3) → i < length faces → face ≡ get_or faces i face → cs ≡ corners_of points face
    → length cs ≤ corner_count faces
few_corners points faces i face cs l at is =
    let n = face_count faces i face (slice_get_read faces (length faces) i face refl l at) in
    let m = ap length is ∙ length-map face (corner_at points) in
    omega (arith, n, m)

-- ---- one more face

pub count_more : (old new : List Stored) (x : Stored) (i : ℕ) → length old ≡ i → new ≡ old ++ x ∷ [] → length new ≡ i + 1
count_more old new x i h e = ap length e ∙ length-append old (x ∷ []) ∙ ap (λ n. n + 1) h

pub outlines_more : (points : List V3) (faces : List (List ℕ)) (old new : List Stored) (x : Stored) (i : ℕ) (face : List ℕ) (cs : List V3)
    → i < length faces → face ≡ get_or faces i face → cs ≡ corners_of points face → x.corners ≡ cs → outlines (map facet_of old) ≡ map (corners_of points) (take i faces) → new ≡ old ++ x ∷ []
    → outlines (map facet_of new) ≡ map (corners_of points) (take (i + 1) faces)
outlines_more points faces old new x i face cs l at is c h e =
    ap (λ (fs : List Stored). outlines (map facet_of fs)) e
    ∙ ap outlines (map-append facet_of old (x ∷ []))
    ∙ map-append (λ (f : Facet). f.corners) (map facet_of old) (facet_of x ∷ [])
    ∙ ap (λ (css : List (List V3)). css ++ x.corners ∷ []) h
    ∙ ap (λ (vs : List V3). map (corners_of points) (take i faces) ++ vs ∷ []) (c ∙ is)
    ∙ sym (map-append (corners_of points) (take i faces) (face ∷ []))
    ∙ ap (map (corners_of points)) (sym (front_more faces i face (slice_get_read faces (length faces) i face refl l at)))

pub facets_more : (old new : List Stored) (x : Stored) → All IsFacet (map facet_of old) → IsFacet (facet_of x) → new ≡ old ++ x ∷ [] → All IsFacet (map facet_of new)
facets_more old new x a h e =
    All-same IsFacet (map facet_of new) (map facet_of old ++ facet_of x ∷ []) (ap (map facet_of) e ∙ map-append facet_of old (x ∷ [])) (All-push IsFacet (map facet_of old) (facet_of x) a h)

-- ---- all faces are kept, with the outlines that the mesh has

length-all_edges : (css : List (List V3)) → length (all_edges css) ≡ corner_count css
length-all_edges [] = refl
length-all_edges (cs ∷ rest) = length-append (edges cs) (all_edges rest) ∙ (λ i. length-edges cs i + length-all_edges rest i)

apart_edges : (fs : List Facet) → All IsFacet fs → All (λ e. e.from ≢ e.to) (all_edges (outlines fs))
apart_edges [] a = All-nil (λ e. e.from ≢ e.to)
apart_edges (f ∷ fs) a =
    All-append (λ e. e.from ≢ e.to) (edges f.corners) (all_edges (outlines fs)) (All-head IsFacet f fs a).apart (apart_edges fs (All-tail IsFacet f fs a))

unmapped : {X Y : Type 0} (P : Y → Type 0) (f : X → Y) (xs : List X) → All P (map f xs) → All (λ x. P (f x)) xs
unmapped P f [] a = All-nil (λ x. P (f x))
unmapped P f (x ∷ xs) a = All-cons (λ x. P (f x)) x xs (All-head P (f x) (map f xs) a) (unmapped P f xs (All-tail P (f x) (map f xs) a))

pub same_faces : (ps qs : List V3) (fs gs : List (List ℕ)) → ps ≡ qs → fs ≡ gs → map (corners_of ps) fs ≡ map (corners_of qs) gs
same_faces ps qs fs gs e f = λ i. map (corners_of (e i)) (f i)

module _ (fs : List Facet) (faces : List (List V3)) (es : List Edge) (a : All IsFacet fs) (h : outlines fs ≡ faces) (k : map edge_of es ≡ all_edges (outlines fs)) where
  pub apart : All (λ e. e.from ≢ e.to) es
  apart = unmapped (λ e. e.from ≢ e.to) edge_of es (All-same (λ e. e.from ≢ e.to) (map edge_of es) (all_edges (outlines fs)) k (apart_edges fs a))

  edge_count : length es ≡ corner_count faces
  edge_count = sym (length-map es edge_of) ∙ ap length k ∙ length-all_edges (outlines fs) ∙ ap corner_count h

  pub few_edges : corner_count faces ≤ 2 ^ 20 → length es ≤ 2 ^ 20
  few_edges l = let n = edge_count in omega (arith, n, l)

  counted : (entries : List (Edge × ℕ)) → IsEdgeTable (map edge_of es) entries → IsEdgeTable (all_edges faces) entries
  counted entries t = subst (λ xs. IsEdgeTable xs entries) (k ∙ ap all_edges h) t

  pub odd_edge : (entries : List (Edge × ℕ)) (r : Edge × ℕ) → IsEdgeTable (map edge_of es) entries → IsFirstOdd entries r → IsFirstOddEdge (all_edges faces) r.0.from r.0.to r.1
  odd_edge entries r t o = first_odd_edge (all_edges faces) entries (counted entries t) r o

  pub closed : (entries : List (Edge × ℕ)) → IsEdgeTable (map edge_of es) entries → All (λ k. count_of k entries % 2 ≡ 0) (keys_of entries) → IsClosedMesh faces
  closed entries t e = record { sound = subst (λ css. All IsSoundFace css) h (all_sound fs a); even = all_even (all_edges faces) entries (counted entries t) e }

  pub solid : (entries : List (Edge × ℕ)) → IsEdgeTable (map edge_of es) entries → All (λ k. count_of k entries % 2 ≡ 0) (keys_of entries) → length fs ≤ 2 ^ 20 → corner_count faces ≤ 2 ^ 20 → IsSolid fs
  solid entries t e few_faces few_corners = record {
    facets = a;
    even = subst AreEven (sym h) (closed entries t e).even;
    few_faces = few_faces;
    few_corners = subst (λ css. corner_count css ≤ 2 ^ 20) (sym h) few_corners;
  }

-- ---- sizes

pub few_outlines : (points : List V3) (faces : List (List ℕ)) → corner_count faces ≤ 2 ^ 20 → corner_count (map (corners_of points) faces) ≤ 2 ^ 20
few_outlines points faces l = let g = outline_count points faces in omega (arith, g, l)

pub few_facets : (fs : List Facet) (points : List V3) (faces : List (List ℕ)) → outlines fs ≡ map (corners_of points) faces → length faces ≤ 2 ^ 20 → length fs ≤ 2 ^ 20
few_facets fs points faces e l =
    let g = sym (length-map fs (λ (f : Facet). f.corners)) ∙ ap length e ∙ length-map faces (corners_of points) in
    omega (arith, g, l)
