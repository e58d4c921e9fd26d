-- What the checks of a solid say of one face and of one corner.
use Rattle.std.proofs.Common.{◌≡◌, ℕ, ◌<◌, List, length, slice_get, Some, inl, inr, arith, sym, subst}
use Rattle.std.proofs.lemmas.List.Elements.{All-contains}
use Rattle.std.proofs.lemmas.Option.{slice_get_cases, slice_get_within, get_or_from_slice_get}
use Rattle.std.specs.Prelude.{Contains}
use Rattle.bc_num.specs.declared.v3.V3.{V3}
use Rattle.bc_num.specs.Sizes.{AreCoords3}
use Rattle.bc_space.specs.declared.plane3.Plane3.{Plane3}
use Rattle.bc_space.specs.Planes.{IsSizedPlane}
use Rattle.bc_solid.specs.Facets.{Facet, IsFacet, IsSolid}

has_at : {X : Type 0} (xs : List X) (i : ℕ) (x : X) → slice_get xs i ≡ Some x → Contains xs x
has_at xs i x e = (i, slice_get_within xs i x e, get_or_from_slice_get xs i x x e)

element_at : {X : Type 0} (xs : List X) (i : ℕ) → i < length xs → (x : X) × (slice_get xs i ≡ Some x)
element_at xs i l =
    elim (slice_get_cases xs i).1 [
      | inl r ↦ (r.0, r.2)
      | inr r ↦ absurd (let m = r.0 in omega arith)
    ]

-- what is known of each face
pub facet_at : (fs : List Facet) (f : ℕ) (facet : Facet) → IsSolid fs → slice_get fs f ≡ Some facet → IsFacet facet
facet_at fs f facet s e = All-contains IsFacet fs facet s.facets (has_at fs f facet e)

-- each face has corners
pub some_corner : (fs : List Facet) (f : ℕ) (facet : Facet) → IsSolid fs → slice_get fs f ≡ Some facet → 0 < length facet.corners
some_corner fs f facet s e = let m = (facet_at fs f facet s e).spanned.has_one in let l = m.1 in omega arith

-- and they are near
pub corner_near : (fs : List Facet) (f i : ℕ) (v : V3) → IsSolid fs → f < length fs → ((facet : Facet) → slice_get fs f ≡ Some facet → slice_get facet.corners i ≡ Some v) → AreCoords3 v
corner_near fs f i v s l e =
    let r = element_at fs f l in
    All-contains AreCoords3 r.0.corners v (facet_at fs f r.0 s r.1).near (has_at r.0.corners i v (e r.0 r.1))

-- its plane has numbers of the size of a plane through three places
pub plane_sized : (fs : List Facet) (f : ℕ) (h : Plane3) → IsSolid fs → f < length fs → ((facet : Facet) → slice_get fs f ≡ Some facet → h ≡ facet.plane) → IsSizedPlane h
plane_sized fs f h s l e =
    let r = element_at fs f l in
    subst IsSizedPlane (sym (e r.0 r.1)) (facet_at fs f r.0 s r.1).sized
