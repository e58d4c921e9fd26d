-- What a table of faces says of them, and they of it: which planes it has, with origins that lie on them, and on
-- which sides of the faces' planes points are.
use Rattle.std.proofs.Common.{◌≡◌, ◌≢◌, ℕ, zero, suc, ◌+◌, ◌<◌, [], ◌∷◌, ◌++◌, List, Bool, true, length, take, get_or, refl, sym, ap, ◌∙◌, subst}
use Rattle.std.specs.Prelude.{◌↔◌, slice_get, Some, Contains, filter, All}
use Rattle.std.specs.Cmp.{IsEquivalence}
use Rattle.std.specs.List.{AllZip}
use Rattle.std.proofs.lemmas.List.Elements.{All-nil, All-contains}
use Rattle.std.proofs.lemmas.Option.{slice_get-get_or, same_Some}
use lib.IntN.{ℤ, pos, negsuc}
use Rattle.bc_num.specs.declared.v3.V3.{V3}
use Rattle.bc_num.specs.declared.p3.P3.{P3}
use Rattle.bc_num.specs.Sizes.{AreCoords3}
use Rattle.bc_space.specs.declared.plane3.Plane3.{Plane3}
use Rattle.bc_space.specs.declared.side.Side.{Side}
use Rattle.bc_space.specs.declared.side.Side.TheVariants.{Below, On, Above}
use Rattle.bc_space.specs.Sides.{side_of_value}
use Rattle.bc_space.specs.Planes.{plane_value, plane_side, IsSizedPlane}
use Rattle.bc_solid.specs.Facets.{Facet, IsFacet, IsSolid, IsOnPlane, IsOff3, AreAlike3}
use Rattle.bc_natural.specs.Noted.{with_new}
use Rattle.bc_natural.specs.Planes.{Planes, planes_of, IsPlaneOf, is_same_plane, ArePlanes, ArePlanesSized, plane_mask}
use Rattle.bc_solid.proofs.Facets.{facet_at}
use Rattle.bc_natural.proofs.FirstSeen.{IsTableOf, contains_at, all_with, laws_by_key, table_nil, table_more, table_has, table_from, table_same}
use Rattle.bc_natural.proofs.Lists.{front_more, place_has}
use Rattle.bc_natural.proofs.Masks.{same_bits}
use Rattle.bc_natural.proofs.SamePlanes.{same_plane, plane_same}
use Rattle.bc_natural.proofs.Table.{contains_mapped, entry_at}

-- ---- the table as one of all faces

abbrev pub same_plane_entry : Plane3 × V3 → Plane3 × V3 → Bool
same_plane_entry g h = is_same_plane g.0 h.0

abbrev each_face : Facet → Bool
each_face f = true

filter_each : (fs : List Facet) → filter each_face fs ≡ fs
filter_each [] = refl
filter_each (f ∷ fs) = ap (λ gs. f ∷ gs) (filter_each fs)

abbrev IsFaceTable : List Facet → Planes → Type 0
IsFaceTable fs t = IsTableOf each_face IsPlaneOf same_plane_entry fs t

face_table : (fs : List Facet) (t : Planes) → ArePlanes fs t → IsFaceTable fs t
face_table fs t h = record { found = h.found; of = subst (λ gs. AllZip IsPlaneOf gs h.found) (sym (filter_each fs)) h.of_faces; is = h.planes }

planes_from_table : (fs : List Facet) (t : Planes) → IsFaceTable fs t → ArePlanes fs t
planes_from_table fs t h = record { found = h.found; of_faces = subst (λ gs. AllZip IsPlaneOf gs h.found) (filter_each fs) h.of; planes = h.is }

plane_laws : IsEquivalence same_plane_entry
plane_laws = laws_by_key same_plane_entry (λ g. g.0) (λ g h. (same_plane g.0 h.0, plane_same g.0 h.0))

-- ---- one more face

pub planes_nil : (t : Planes) → t ≡ [] → ArePlanes [] t
planes_nil t e = subst (ArePlanes []) (sym e) (planes_from_table [] [] (table_nil each_face IsPlaneOf same_plane_entry))

pub planes_more : (fs : List Facet) (i : ℕ) (h : Plane3) (o : V3) (t u : Planes) → i < length fs
    → ((f : Facet) → slice_get fs i ≡ Some f → h ≡ f.plane) → ((f : Facet) → slice_get fs i ≡ Some f → slice_get f.corners 0 ≡ Some o)
    → ArePlanes (take i fs) t → u ≡ with_new same_plane_entry t (h, o) → ArePlanes (take (i + 1) fs) u
planes_more fs i h o t u l plane origin k e =
    let f = place_has fs i l in
    let of : IsPlaneOf f.0 (h, o) = record { plane = plane f.0 f.1; origin = origin f.0 f.1 } in
    subst (λ gs. ArePlanes gs u) (sym (front_more fs i f.0 f.1))
    (subst (ArePlanes (take i fs ++ f.0 ∷ [])) (sym e)
    (planes_from_table (take i fs ++ f.0 ∷ []) (with_new same_plane_entry t (h, o)) (table_more each_face IsPlaneOf same_plane_entry plane_laws (take i fs) t f.0 (h, o) (face_table (take i fs) t k) refl of)))

-- ---- sizes

pub planes_sized_nil : (t : Planes) → t ≡ [] → ArePlanesSized t
planes_sized_nil t e = subst ArePlanesSized (sym e) (record { planes = All-nil (λ (g : Plane3 × V3). IsSizedPlane g.0); origins = All-nil (λ (g : Plane3 × V3). AreCoords3 g.1) })

pub planes_sized_more : (fs : List Facet) (i : ℕ) (h : Plane3) (o : V3) (t u : Planes) → IsSolid fs → i < length fs
    → ((f : Facet) → slice_get fs i ≡ Some f → h ≡ f.plane) → AreCoords3 o
    → ArePlanesSized t → u ≡ with_new same_plane_entry t (h, o) → ArePlanesSized u
planes_sized_more fs i h o t u solid l plane near s e =
    let f = place_has fs i l in
    let sized : IsSizedPlane h = subst IsSizedPlane (sym (plane f.0 f.1)) (facet_at fs i f.0 solid f.1).sized in
    subst ArePlanesSized (sym e) (record {
      planes = all_with same_plane_entry (λ (g : Plane3 × V3). IsSizedPlane g.0) t (h, o) s.planes sized;
      origins = all_with same_plane_entry (λ (g : Plane3 × V3). AreCoords3 g.1) t (h, o) s.origins near;
    })

-- ---- planes

-- the table has the plane of each face
pub plane_in_table : (fs : List Facet) (t : Planes) → ArePlanes fs t → (f : Facet) → Contains fs f → Contains (planes_of t) f.plane
plane_in_table fs t h f m =
    let r = table_has each_face IsPlaneOf same_plane_entry plane_laws fs t f (face_table fs t h) m refl in
    subst (Contains (planes_of t)) (sym (same_plane r.0.0 r.2.0 r.4) ∙ r.1.plane) (contains_mapped (λ g. g.0) t r.2 r.3)

-- each of its planes, with its origin, is that of a face
pub plane_from_face : (fs : List Facet) (t : Planes) → ArePlanes fs t → (i : ℕ) (entry : Plane3 × V3) → slice_get t i ≡ Some entry → (f : Facet) × Contains fs f × IsPlaneOf f entry
plane_from_face fs t h i entry k =
    let r = table_from each_face IsPlaneOf same_plane_entry fs t i entry (face_table fs t h) k in
    (r.0, r.1, r.3)

-- what holds of the planes of all faces holds of those of the table
pub planes_have : (P : Plane3 → Type 0) (fs : List Facet) (t : Planes) → ArePlanes fs t → All (λ f. P f.plane) fs → All P (planes_of t)
planes_have P fs t h a i d l =
    let g = entry_at t i (get_or (planes_of t) i d) (slice_get-get_or (planes_of t) i d l) in
    let r = plane_from_face fs t h i g.0 g.1 in
    subst P (sym r.2.plane ∙ g.2) (All-contains (λ (f : Facet). P f.plane) fs r.0 a r.1)

-- and the other way round
pub faces_have : (P : Plane3 → Type 0) (fs : List Facet) (t : Planes) → ArePlanes fs t → All P (planes_of t) → All (λ f. P f.plane) fs
faces_have P fs t h a i d l =
    let f = get_or fs i d in
    All-contains P (planes_of t) f.plane a (plane_in_table fs t h f (contains_at fs i f (slice_get-get_or fs i d l)))

-- ---- origins

-- each origin is on its plane
pub origins_on : (fs : List Facet) (t : Planes) → ArePlanes fs t → All IsFacet fs → All (λ e. IsOnPlane e.0 e.1) t
origins_on fs t h a i d l =
    let e = get_or t i d in
    let r = plane_from_face fs t h i e (slice_get-get_or t i d l) in
    let f : IsFacet r.0 = All-contains IsFacet fs r.0 a r.1 in
    subst (λ (g : Plane3). IsOnPlane g e.1) (sym r.2.plane)
    (All-contains (IsOnPlane r.0.plane) r.0.corners e.1 f.flat (contains_at r.0.corners 0 e.1 r.2.origin))

-- ---- sides

off_side : (z : ℤ) → z ≢ pos 0 → side_of_value z ≢ On
off_side (pos zero) h e = h refl
off_side (pos (suc n)) h e = cc
off_side (negsuc n) h e = cc

off_value : (z : ℤ) → side_of_value z ≢ On → z ≢ pos 0
off_value z h e = h (ap side_of_value e)

-- a point on no plane of a face is on no plane of the table
pub off_planes : (fs : List Facet) (t : Planes) (p : P3) → ArePlanes fs t → IsOff3 fs p → All (λ h. plane_side h p ≢ On) (planes_of t)
off_planes fs t p h off = planes_have (λ g. plane_side g p ≢ On) fs t h (λ i d l. off_side (plane_value (get_or fs i d).plane p) (off i d l))

-- and the other way round
pub off_faces : (fs : List Facet) (t : Planes) (p : P3) → ArePlanes fs t → All (λ h. plane_side h p ≢ On) (planes_of t) → IsOff3 fs p
off_faces fs t p h off i d l = off_value (plane_value (get_or fs i d).plane p) (faces_have (λ g. plane_side g p ≢ On) fs t h off i d l)

same_sides : (s u : Side) → s ≢ On → u ≢ On → (s ≡ Above) ↔ (u ≡ Above) → s ≡ u
same_sides Below Below h k e = refl
same_sides Below On h k e = absurd (k refl)
same_sides Below Above h k e = e.1 refl
same_sides On u h k e = absurd (h refl)
same_sides Above Below h k e = sym (e.0 refl)
same_sides Above On h k e = absurd (k refl)
same_sides Above Above h k e = refl

-- points on no plane, with equal masks, are on the same sides
pub alike_by_mask : (fs : List Facet) (t : Planes) (p q : P3) → ArePlanes fs t → IsOff3 fs p → IsOff3 fs q → plane_mask t p ≡ plane_mask t q → AreAlike3 fs p q
alike_by_mask fs t p q h off_p off_q e =
    faces_have (λ g. plane_side g p ≡ plane_side g q) fs t h
    (λ i d l.
    let g = get_or (planes_of t) i d in
    same_sides (plane_side g p) (plane_side g q) (off_planes fs t p h off_p i d l) (off_planes fs t q h off_q i d l)
    (same_bits plane_side (planes_of t) p q e i g (slice_get-get_or (planes_of t) i d l)))

-- ---- faces have one table

one_plane_entry : (f : Facet) (g h : Plane3 × V3) → IsPlaneOf f g → IsPlaneOf f h → g ≡ h
one_plane_entry f g h p q = pair g h (p.plane ∙ sym q.plane) (same_Some g.1 h.1 (sym p.origin ∙ q.origin))
  where
    pair : (g h : Plane3 × V3) → g.0 ≡ h.0 → g.1 ≡ h.1 → g ≡ h
    pair g h e f = λ i. (e i, f i)

pub one_plane_table : (fs : List Facet) (t u : Planes) → ArePlanes fs t → ArePlanes fs u → t ≡ u
one_plane_table fs t u h k = table_same each_face IsPlaneOf same_plane_entry one_plane_entry fs t u (face_table fs t h) (face_table fs u k)
