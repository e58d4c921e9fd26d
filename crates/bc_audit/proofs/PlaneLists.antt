-- Lists of planes, each once: how they grow, and what they have.
use Rattle.std.proofs.Common.{◌≡◌, ℕ, zero, suc, ◌+◌, ◌<◌, Bool, true, List, [], ◌∷◌, ◌++◌, length, take, map, Some, refl, sym, ap, ◌∙◌, subst, arith, append_assoc}
use Rattle.std.specs.Prelude.{slice_get, filter, Result, Ok, Err, OnOk}
use Rattle.std.specs.List.{All, AllZip, Contains}
use Rattle.std.proofs.lemmas.List.Elements.{All-nil, All-cons, All-head, All-tail, All-contains}
use Rattle.std.proofs.lemmas.List.{append-nil, map-append}
use Rattle.std.proofs.lemmas.Option.{slice_get-get_or}
use Rattle.std.specs.Cmp.{IsEquivalence}
use Rattle.bc_space.specs.declared.plane3.Plane3.{Plane3}
use Rattle.bc_space.specs.Planes.{IsSizedPlane}
use Rattle.bc_solid.specs.Facets.{Facet, IsSolid}
use Rattle.bc_natural.specs.Distinct.{distinct}
use Rattle.bc_natural.specs.Noted.{with_new}
use Rattle.bc_natural.specs.Planes.{is_same_plane}
use Rattle.bc_natural.proofs.FirstSeen.{IsTableOf, laws_by_key, partner, table_more, table_has, table_from, table_same}
use Rattle.bc_natural.proofs.Lists.{front_more, place_has}
use Rattle.bc_natural.proofs.SamePlanes.{same_plane, plane_same}
use Rattle.bc_natural.proofs.Table.{contains_mapped}
use Rattle.bc_tree.specs.declared.frame.Frame3.{Frame3}
use Rattle.bc_tree.specs.Shape.{Shape}
use Rattle.bc_audit.specs.SlabPlanes.{IsSlabPlane, slabs, ArePlanesWith, HasAdded}

-- ---- growing

abbrev each : Plane3 → Bool
each h = true

abbrev Is : Plane3 → Plane3 → Type 0
Is g h = g ≡ h

filter_each : (hs : List Plane3) → filter each hs ≡ hs
filter_each [] = refl
filter_each (h ∷ hs) = ap (λ gs. h ∷ gs) (filter_each hs)

zip_is : (hs : List Plane3) → AllZip Is hs hs
zip_is [] = tt
zip_is (h ∷ hs) = (refl, zip_is hs)

-- the distinct ones as a table of all
table : (hs : List Plane3) → IsTableOf each Is is_same_plane hs (distinct is_same_plane hs)
table hs = record { found = hs; of = subst (λ gs. AllZip Is gs hs) (sym (filter_each hs)) (zip_is hs); is = refl }

laws : IsEquivalence is_same_plane
laws = laws_by_key is_same_plane (λ h. h) (λ g h. (same_plane g h, plane_same g h))

-- one more plane
distinct_more : (hs : List Plane3) (h : Plane3) → distinct is_same_plane (hs ++ h ∷ []) ≡ with_new is_same_plane (distinct is_same_plane hs) h
distinct_more hs h =
    table_same each Is is_same_plane (λ e x y p q. sym p ∙ q) (hs ++ h ∷ []) (distinct is_same_plane (hs ++ h ∷ [])) (with_new is_same_plane (distinct is_same_plane hs) h)
    (table (hs ++ h ∷ [])) (table_more each Is is_same_plane laws hs (distinct is_same_plane hs) h h (table hs) refl refl)

-- one more face
pub faces_more : (fs : List Facet) (i : ℕ) (h : Plane3) (old new : List Plane3) → i < length fs → ((f : Facet) → slice_get fs i ≡ Some f → h ≡ f.plane)
    → old ≡ distinct is_same_plane (map (λ (f : Facet). f.plane) (take i fs)) → new ≡ with_new is_same_plane old h
    → new ≡ distinct is_same_plane (map (λ (f : Facet). f.plane) (take (i + 1) fs))
faces_more fs i h old new l plane k e =
    let f = place_has fs i l in
    let front = take i fs in
    let more : map (λ (f : Facet). f.plane) (take (i + 1) fs) ≡ map (λ (f : Facet). f.plane) front ++ h ∷ [] =
    ap (map (λ (f : Facet). f.plane)) (front_more fs i f.0 f.1) ∙ map-append (λ (f : Facet). f.plane) front (f.0 ∷ []) ∙ ap (λ g. map (λ (f : Facet). f.plane) front ++ g ∷ []) (sym (plane f.0 f.1)) in
    e ∙ ap (λ hs. with_new is_same_plane hs h) k ∙ sym (distinct_more (map (λ (f : Facet). f.plane) front) h) ∙ ap (distinct is_same_plane) (sym more)

-- ---- the planes of slabs

pub added_none : (old : List Plane3) → HasAdded [] old old
added_none old = record {
  found = [];
  of_slabs = tt;
  sized = All-nil IsSizedPlane;
  are = λ seen e. e ∙ ap (distinct is_same_plane) (sym (append-nil seen));
}

pub added_one : (f : Frame3) (h : Plane3) (old new : List Plane3) → IsSlabPlane f h → IsSizedPlane h → new ≡ with_new is_same_plane old h → HasAdded (f ∷ []) old new
added_one f h old new plane sized e = record {
  found = h ∷ [];
  of_slabs = (plane, tt);
  sized = All-cons IsSizedPlane h [] sized (All-nil IsSizedPlane);
  are = λ seen k. e ∙ ap (λ hs. with_new is_same_plane hs h) k ∙ sym (distinct_more seen h);
}

zip_join : {X Y : Type 0} (R : X → Y → Type 0) (xs us : List X) (ys vs : List Y) → AllZip R xs ys → AllZip R us vs → AllZip R (xs ++ us) (ys ++ vs)
zip_join R [] us [] vs h k = k
zip_join R [] us (y ∷ ys) vs h k = absurd h
zip_join R (x ∷ xs) us [] vs h k = absurd h
zip_join R (x ∷ xs) us (y ∷ ys) vs h k = (h.0, zip_join R xs us ys vs h.1 k)

join : {X : Type 0} (P : X → Type 0) (xs ys : List X) → All P xs → All P ys → All P (xs ++ ys)
join P [] ys h k = k
join P (x ∷ xs) ys h k = All-cons P x (xs ++ ys) (All-head P x xs h) (join P xs ys (All-tail P x xs h) k)

pub added_both : (fs gs : List Frame3) (old now new : List Plane3) → HasAdded fs old now → HasAdded gs now new → HasAdded (fs ++ gs) old new
added_both fs gs old now new h k = record {
  found = h.found ++ k.found;
  of_slabs = zip_join IsSlabPlane fs gs h.found k.found h.of_slabs k.of_slabs;
  sized = join IsSizedPlane h.found k.found h.sized k.sized;
  are = λ seen e. k.are (seen ++ h.found) (h.are seen e) ∙ ap (distinct is_same_plane) (append_assoc seen h.found k.found);
}

-- what follows where a call succeeded
pub then_ok : {T E : Type 0} (r : Result T E) (P Q : Type 0) → (P → Q) → OnOk r P → OnOk r Q
then_ok (Ok x) P Q f h = f h
then_ok (Err e) P Q f h = h

-- ---- having

-- what is in the list is among those seen
pub seen_has : (hs : List Plane3) (h : Plane3) → Contains hs h → Contains (distinct is_same_plane hs) h
seen_has hs h m =
    let r = table_has each Is is_same_plane laws hs (distinct is_same_plane hs) h (table hs) m refl in
    subst (Contains (distinct is_same_plane hs)) (sym (r.1 ∙ same_plane r.0 r.2 r.4)) r.3

-- and what holds of all in the list holds of all seen
pub seen_all : (P : Plane3 → Type 0) (hs : List Plane3) → All P hs → All P (distinct is_same_plane hs)
seen_all P hs a i d l =
    let seen = distinct is_same_plane hs in
    let r = table_from each Is is_same_plane hs seen i _ (table hs) (slice_get-get_or seen i d l) in
    subst P r.3 (All-contains P hs r.0 a r.1)

contains_left : {X : Type 0} (xs ys : List X) (x : X) → Contains xs x → Contains (xs ++ ys) x
contains_left [] ys x (k, l, e) = absurd (omega arith)
contains_left (z ∷ zs) ys x (zero, l, e) = (0, omega arith, e)
contains_left (z ∷ zs) ys x (suc k, l, e) = let r = contains_left zs ys x (k, omega arith, e) in (suc r.0, omega (arith, r.1), r.2)

contains_right : {X : Type 0} (xs ys : List X) (x : X) → Contains ys x → Contains (xs ++ ys) x
contains_right [] ys x m = m
contains_right (z ∷ zs) ys x m = let r = contains_right zs ys x m in (suc r.0, omega (arith, r.1), r.2)

-- ---- the planes of a mesh and of the slabs of a tree

module _ (fs : List Facet) (s : Shape) (planes : List Plane3) (h : ArePlanesWith fs s planes) where
  -- the plane of each face is there
  pub face_there : (f : Facet) → Contains fs f → Contains planes f.plane
  face_there f m =
      subst (λ gs. Contains gs f.plane) (sym h.are)
      (seen_has (map (λ (f : Facet). f.plane) fs ++ h.found) f.plane
      (contains_left (map (λ (f : Facet). f.plane) fs) h.found f.plane (contains_mapped (λ (f : Facet). f.plane) fs f m)))

  -- the plane of each slab is there
  pub slab_there : (f : Frame3) → Contains (slabs s) f → (g : Plane3) × IsSlabPlane f g × Contains planes g
  slab_there f m =
      let r = partner IsSlabPlane (slabs s) h.found f h.of_slabs m in
      (r.0, r.2, subst (λ gs. Contains gs r.0) (sym h.are) (seen_has (map (λ (f : Facet). f.plane) fs ++ h.found) r.0 (contains_right (map (λ (f : Facet). f.plane) fs) h.found r.0 r.1)))

  -- what holds of the planes of all faces and of all planes of slabs holds of all
  pub planes_all : (P : Plane3 → Type 0) → All (λ f. P f.plane) fs → ((f : Frame3) (g : Plane3) → Contains (slabs s) f → IsSlabPlane f g → P g) → All P planes
  planes_all P faces of =
      subst (All P) (sym h.are)
      (seen_all P (map (λ (f : Facet). f.plane) fs ++ h.found) (join P (map (λ (f : Facet). f.plane) fs) h.found (mapped fs faces) (zipped (slabs s) h.found h.of_slabs of)))
    where
      mapped : (gs : List Facet) → All (λ f. P f.plane) gs → All P (map (λ (f : Facet). f.plane) gs)
      mapped [] a = All-nil P
      mapped (g ∷ gs) a = All-cons P g.plane (map (λ (f : Facet). f.plane) gs) (All-head (λ f. P f.plane) g gs a) (mapped gs (All-tail (λ f. P f.plane) g gs a))

      zipped : (us : List Frame3) (vs : List Plane3) → AllZip IsSlabPlane us vs → ((f : Frame3) (g : Plane3) → Contains us f → IsSlabPlane f g → P g) → All P vs
      zipped [] [] z k = All-nil P
      zipped [] (v ∷ vs) z k = absurd z
      zipped (u ∷ us) [] z k = absurd z
      zipped (u ∷ us) (v ∷ vs) z k =
          All-cons P v vs (k u v (0, omega arith, refl) z.0) (zipped us vs z.1 (λ f g m. k f g (let (i, l, e) = m in (suc i, omega arith, e))))

-- ---- made in two steps

mapped_sized : (fs : List Facet) → All (λ f. IsSizedPlane f.plane) fs → All IsSizedPlane (map (λ (f : Facet). f.plane) fs)
mapped_sized [] a = All-nil IsSizedPlane
mapped_sized (f ∷ fs) a =
    All-cons IsSizedPlane f.plane (map (λ (f : Facet). f.plane) fs) (All-head (λ f. IsSizedPlane f.plane) f fs a) (mapped_sized fs (All-tail (λ f. IsSizedPlane f.plane) f fs a))

pub made : (fs : List Facet) (s : Shape) (some all : List Plane3) → some ≡ distinct is_same_plane (map (λ f. f.plane) fs) → HasAdded (slabs s) some all → ArePlanesWith fs s all
made fs s some all e k = record { found = k.found; of_slabs = k.of_slabs; are = k.are (map (λ (f : Facet). f.plane) fs) e }

pub made_sized : (fs : List Facet) (s : Shape) (some all : List Plane3) → IsSolid fs → some ≡ distinct is_same_plane (map (λ f. f.plane) fs) → HasAdded (slabs s) some all → All IsSizedPlane all
made_sized fs s some all solid e k =
    let faces : All (λ (f : Facet). IsSizedPlane f.plane) fs = λ i d l. (solid.facets i d l).sized in
    subst (All IsSizedPlane) (sym (k.are (map (λ (f : Facet). f.plane) fs) e))
    (seen_all IsSizedPlane (map (λ (f : Facet). f.plane) fs ++ k.found) (join IsSizedPlane (map (λ (f : Facet). f.plane) fs) k.found (mapped_sized fs faces) k.sized))
