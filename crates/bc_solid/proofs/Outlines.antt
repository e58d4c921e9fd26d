-- The corners of faces by their coordinates: they are near, and whether one is the same as the next.
use Rattle.std.proofs.Common.{◌≡◌, ◌≢◌, ℕ, zero, suc, ◌+◌, ◌<◌, ◌≤◌, true, false, not, ◌&&◌, List, [], ◌∷◌, ◌++◌, map, length, take, get_or, arith, refl, sym, ap, ◌∙◌, subst}
use Rattle.std.specs.Prelude.{All, slice_get, Some}
use Rattle.std.specs.List.{list_all}
use Rattle.std.proofs.lemmas.Bool.{and_parts, not-true, both_ways}
use Rattle.std.proofs.lemmas.List.{take_more, map-append}
use Rattle.std.proofs.lemmas.List.Elements.{All-nil, All-cons}
use Rattle.std.proofs.lemmas.Option.{slice_get-get_or, slice_get_within, unwrap_or-slice_get, same_Some}
use Rattle.bc_num.specs.declared.v3.V3.{V3}
use Rattle.bc_num.specs.Sizes.{AreCoords3}
use Rattle.bc_solid.specs.Contours.{is_far}
use Rattle.bc_solid.specs.Meshes.{Edge3, edges, corners_of, corner_at, is_near_place, is_same3, origin3}
use Rattle.bc_solid.specs.MeshFaults.{IsTwin, HasNoTwins}
use Rattle.bc_solid.proofs.ContourChecks.{near}
use Rattle.bc_solid.proofs.Lists.{all_at}
use Rattle.bc_solid.proofs.Rounds.{length-edges}
use Rattle.bc_solid.proofs.Joins.{same_yes}

-- ---- corners

pub corners_more : (points : List V3) (face : List ℕ) (cs new : List V3) (i : ℕ) → i < length face → cs ≡ corners_of points (take i face)
    → new ≡ cs ++ get_or points (get_or face i 0) origin3 ∷ [] → new ≡ corners_of points (take (i + 1) face)
corners_more points face cs new i l e f =
    f ∙ ap (λ (xs : List V3). xs ++ get_or points (get_or face i 0) origin3 ∷ []) e
    ∙ ap (λ (v : V3). corners_of points (take i face) ++ v ∷ []) (sym (unwrap_or-slice_get points (get_or face i 0) origin3))
    ∙ sym (map-append (corner_at points) (take i face) (get_or face i 0 ∷ []))
    ∙ ap (map (corner_at points)) (sym (take_more face i 0 l))

near_place : (v : V3) → is_near_place v ≡ true → AreCoords3 v
near_place v h =
    let p = and_parts (not (is_far v.x)) (not (is_far v.y) && not (is_far v.z)) h in
    let q = and_parts (not (is_far v.y)) (not (is_far v.z)) p.1 in
    record { x_near = near v.x (not-true (is_far v.x) p.0); y_near = near v.y (not-true (is_far v.y) q.0); z_near = near v.z (not-true (is_far v.z) q.1) }

near_corner : (points : List V3) (i : ℕ) → list_all is_near_place points ≡ true → AreCoords3 (corner_at points i)
near_corner [] i h = near_place origin3 refl
near_corner (p ∷ ps) zero h = near_place p (and_parts (is_near_place p) (list_all is_near_place ps) h).0
near_corner (p ∷ ps) (suc i) h = near_corner ps i (and_parts (is_near_place p) (list_all is_near_place ps) h).1

pub near_corners : (points : List V3) (face : List ℕ) → list_all is_near_place points ≡ true → All AreCoords3 (corners_of points face)
near_corners points [] h = All-nil AreCoords3
near_corners points (i ∷ is) h = All-cons AreCoords3 (corner_at points i) (corners_of points is) (near_corner points i h) (near_corners points is h)

-- ---- twins

pub not_twin : (cs : List V3) (k : ℕ) (e : Edge3) → slice_get (edges cs) k ≡ Some e → is_same3 e.from e.to ≡ false → IsTwin cs k → ⊥
not_twin cs k e h f t =
    absurd (both_ways (is_same3 e.from e.to) f (same_yes e.from e.to (subst (λ (x : Edge3). x.from ≡ x.to) (same_Some t.0 e (sym t.1 ∙ h)) t.2)))

pub apart_of : (cs : List V3) (n : ℕ) → length cs ≤ n → ((j : ℕ) → j < n → IsTwin cs j → ⊥) → HasNoTwins cs
apart_of cs n l h = λ k d w e.
    h k (omega (arith, w, length-edges cs, l)) (get_or (edges cs) k d, slice_get-get_or (edges cs) k d w, e)

-- a twin is within the face
pub twin_within : (cs : List V3) (k : ℕ) → IsTwin cs k → k < length cs
twin_within cs k t = let w = slice_get_within (edges cs) k t.0 t.1 in omega (arith, w, length-edges cs)

pub twin_not_apart : (cs : List V3) (k : ℕ) → IsTwin cs k → HasNoTwins cs → ⊥
twin_not_apart cs k t a = all_at (λ e. e.from ≢ e.to) (edges cs) k t.0 a t.1 t.2
