-- The plane of a face, and the faults of faces that have none.
use Rattle.std.proofs.Common.{◌≡◌, ◌≢◌, ℕ, ◌+◌, ◌<◌, List, [], ◌∷◌, length, get_or, arith, refl, sym, ap, ◌∙◌, subst}
use Rattle.std.specs.Prelude.{All, slice_get, Some}
use Rattle.std.proofs.lemmas.List.Elements.{All-nil, All-cons, All-head, All-weaker, All-contains}
use Rattle.std.proofs.lemmas.Option.{slice_get_within, same_Some}
use native.Mathlib.Decide.{dec_lt}
use Rattle.bc_num.specs.declared.v3.V3.{V3}
use Rattle.bc_space.specs.declared.plane3.Plane3.{Plane3}
use Rattle.bc_space.specs.Planes.{IsSizedPlane}
use Rattle.bc_space.specs.PlanesThrough.{AreCollinear}
use Rattle.bc_solid.specs.Meshes.{path}
use Rattle.bc_solid.specs.Facets.{IsOnPlane, AreOnLine, IsSpanned}
use Rattle.bc_solid.specs.FacePlanes.{IsFirstPlane, IsFirstOff, IsPlaneOfCorners}
use Rattle.bc_solid.specs.MeshFaults.{HasNoTwins, IsBend}
use Rattle.bc_solid.proofs.Lists.{contains_at, all_before}
use Rattle.bc_solid.proofs.Collinear.{three_on_line, itself_on_line}
use Rattle.bc_solid.proofs.Coplanar.{line_on_plane, on_one_plane}

-- ---- faces on one line

-- the first two corners of a face differ
first_apart : (cs : List V3) (d : V3) → 1 < length cs → HasNoTwins cs → get_or cs 0 d ≢ get_or cs 1 d
first_apart [] d l h = absurd (omega arith)
first_apart (a ∷ []) d l h = absurd (omega arith)
first_apart (a ∷ b ∷ cs) d l h = All-head (λ e. e.from ≢ e.to) (record { from = a; to = b }) (path b cs a) h

pub flat_face : (cs : List V3) (d : V3) → 1 < length cs → HasNoTwins cs → All (AreCollinear (get_or cs 0 d) (get_or cs 1 d)) cs → AreOnLine cs
flat_face cs d l apart h =
    All-weaker (AreCollinear (get_or cs 0 d) (get_or cs 1 d)) (λ p. All (λ q. All (AreCollinear p q) cs) cs)
    (λ p hp. All-weaker (AreCollinear (get_or cs 0 d) (get_or cs 1 d)) (λ q. All (AreCollinear p q) cs)
    (λ q hq. All-weaker (AreCollinear (get_or cs 0 d) (get_or cs 1 d)) (AreCollinear p q)
    (λ r hr. three_on_line (get_or cs 0 d) (get_or cs 1 d) (first_apart cs d l apart) p q r hp hq hr) cs h) cs h) cs h

pub short_face : (cs : List V3) → length cs < 2 → AreOnLine cs
short_face [] l = All-nil (λ a. All (λ b. All (AreCollinear a b) []) [])
short_face (a ∷ []) l =
    All-cons (λ p. All (λ q. All (AreCollinear p q) (a ∷ [])) (a ∷ [])) a []
    (All-cons (λ q. All (AreCollinear a q) (a ∷ [])) a [] (All-cons (AreCollinear a a) a [] (itself_on_line a) (All-nil (AreCollinear a a))) (All-nil (λ q. All (AreCollinear a q) (a ∷ []))))
    (All-nil (λ p. All (λ q. All (AreCollinear p q) (a ∷ [])) (a ∷ [])))
short_face (a ∷ b ∷ cs) l = absurd (omega arith)

-- a face with three corners that are not on one line is not on one line
pub spanned_wide : (cs : List V3) (h : Plane3) → IsSpanned h cs → AreOnLine cs → ⊥
spanned_wide cs h s o =
    s.wide
    (All-contains (AreCollinear s.one s.two) cs s.three
    (All-contains (λ q. All (AreCollinear s.one q) cs) cs s.two (All-contains (λ p. All (λ q. All (AreCollinear p q) cs) cs) cs s.one o s.has_one) s.has_two) s.has_three)

-- ---- the plane of the first two corners and the first that is not on their line

first_at : (cs : List V3) (d : V3) → 1 < length cs → slice_get cs 0 ≡ Some (get_or cs 0 d)
first_at [] d l = absurd (omega arith)
first_at (a ∷ cs) d l = refl

second_at : (cs : List V3) (d : V3) → 1 < length cs → slice_get cs 1 ≡ Some (get_or cs 1 d)
second_at [] d l = absurd (omega arith)
second_at (a ∷ []) d l = absurd (omega arith)
second_at (a ∷ b ∷ cs) d l = refl

module _ (cs : List V3) (d : V3) (l : 1 < length cs) (h : Plane3) (f : IsFirstPlane (get_or cs 0 d) (get_or cs 1 d) cs h) where
  pub spanned : IsSpanned h cs
  spanned = record {
    one = get_or cs 0 d;
    two = get_or cs 1 d;
    three = f.third;
    has_one = contains_at cs 0 (get_or cs 0 d) (first_at cs d l);
    has_two = contains_at cs 1 (get_or cs 1 d) (second_at cs d l);
    has_three = contains_at cs f.at f.third f.is;
    wide = f.wide;
    through = f.through;
  }

  pub plane_of : All (IsOnPlane h) cs → IsSizedPlane h → IsPlaneOfCorners cs h
  plane_of a s = record { spanned = spanned; flat = a; sized = s }

  pub not_flat : AreOnLine cs → ⊥
  not_flat o = spanned_wide cs h spanned o

  module _ (apart : HasNoTwins cs) (k : ℕ) (o : IsFirstOff h cs k) where
    -- the corners before the third and the third itself are on the plane
    behind : f.at < k
    behind =
        elim (dec_lt f.at k) [
          | yes y ↦ y
          | no n ↦
              elim (dec_lt k f.at) [
                | yes y ↦
                    absurd (o.off (line_on_plane (get_or cs 0 d) (get_or cs 1 d) o.corner h (first_apart cs d l apart) f.through.on_a f.through.on_b
                    (all_before (AreCollinear (get_or cs 0 d) (get_or cs 1 d)) cs f.at k o.corner f.narrow o.is y)))
                | no m ↦
                    let e : k ≡ f.at = omega (arith, n, m) in
                    absurd (o.off (subst (IsOnPlane h) (same_Some f.third o.corner (sym f.is ∙ ap (slice_get cs) (sym e) ∙ o.is)) f.through.on_c))
              ]
        ]

    -- and so are the first and the second
    late : 1 < k
    late =
        elim (dec_lt 1 k) [
          | yes y ↦ y
          | no n ↦
              let e : k ≡ 1 = omega (arith, n, behind) in
              absurd (o.off (subst (IsOnPlane h) (same_Some (get_or cs 1 d) o.corner (sym (second_at cs d l) ∙ ap (slice_get cs) (sym e) ∙ o.is)) f.through.on_b))
        ]

    pub bend : IsBend cs k
    bend = record {
      before = (h, o.before);
      here = λ p.
          let g = p.0 in
          o.off (on_one_plane (get_or cs 0 d) (get_or cs 1 d) f.third o.corner h g f.through
          (all_before (IsOnPlane g) cs (k + 1) 0 (get_or cs 0 d) p.1 (first_at cs d l) (omega (arith, late)))
          (all_before (IsOnPlane g) cs (k + 1) 1 (get_or cs 1 d) p.1 (second_at cs d l) (omega (arith, late)))
          (all_before (IsOnPlane g) cs (k + 1) f.at f.third p.1 f.is (omega (arith, behind)))
          (all_before (IsOnPlane g) cs (k + 1) k o.corner p.1 o.is (omega arith)));
      within = slice_get_within cs k o.corner o.is;
    }
