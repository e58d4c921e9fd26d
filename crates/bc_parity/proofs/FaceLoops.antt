-- A walk over faces by their indices: what is counted, and whether a point is on a plane.
use Rattle.std.proofs.Common.{◌≡◌, ℕ, ◌+◌, ◌≤◌, ◌<◌, Bool, true, false, ◌||◌, List, [], ◌∷◌, length, drop, slice_get, Some, sym, ◌∙◌, ap}
use Rattle.std.specs.Prelude.{All, Any, IsTrue, ◌↔◌, pos}
use Rattle.std.specs.List.{list_any}
use Rattle.std.specs.Ordering.{int_eq}
use Rattle.std.proofs.lemmas.List.Elements.{All-cons, All-nil, All-head, All-tail}
use Rattle.std.proofs.lemmas.List.Folds.{Any-from_list_any, list_any-from_Any, list_any_none}
use Rattle.std.proofs.lemmas.Bool.{false_from_ne_true, or_left, or_parts, true≢false}
use Rattle.bc_num.specs.declared.p3.P3.{P3}
use Rattle.bc_space.specs.declared.plane3.Plane3.{Plane3}
use Rattle.bc_space.specs.Planes.{plane_value}
use Rattle.bc_solid.specs.Facets.{Facet, IsOff3}
use Rattle.bc_parity.specs.Parity.{xor}
use Rattle.bc_parity.specs.Sums.{odd}
use Rattle.bc_parity.proofs.Orders.{eq_yes, eq_is}
use Rattle.bc_parity.proofs.Loops.{none, next, one_more}
use Rattle.bc_parity.proofs.Places.{Found, known_at}

-- a step, where the element is known by its place
pub counted_at : {X : Type 0} (f : X → Bool) (o n b r : Bool) (es : List X) (i : ℕ) → i < length es → ((e : X) → slice_get es i ≡ Some e → b ≡ f e) → n ≡ xor o b
    → xor o (odd f (drop i es)) ≡ r → xor n (odd f (drop (i + 1) es)) ≡ r
counted_at f o n b r es i l h m k =
    let e : Found (λ x. b ≡ f x) es i = known_at (λ x. b ≡ f x) es i l h in
    one_more f o n b r es i e.element e.at e.holds m k

-- ---- whether p is on the plane of a face

abbrev pub is_on_face : P3 → Facet → Bool
is_on_face p f = int_eq (plane_value f.plane p) (pos 0)

same_plane : (p : P3) (h k : Plane3) (b : Bool) → h ≡ k → b ≡ int_eq (plane_value h p) (pos 0) → b ≡ int_eq (plane_value k p) (pos 0)
same_plane p h k b e g = g ∙ ap (λ j. int_eq (plane_value j p) (pos 0)) e

left_on : (p : P3) (fs : List Facet) (i : ℕ) (h : Plane3) (b : Bool) → i < length fs → ((f : Facet) → slice_get fs i ≡ Some f → h ≡ f.plane) → b ≡ int_eq (plane_value h p) (pos 0)
    → (b || list_any (is_on_face p) (drop (i + 1) fs)) ≡ list_any (is_on_face p) (drop i fs)
left_on p fs i h b l k e =
    let f : Found (λ g. h ≡ g.plane) fs i = known_at (λ g. h ≡ g.plane) fs i l k in
    ap (λ x. x || list_any (is_on_face p) (drop (i + 1) fs)) (same_plane p h f.element.plane b f.holds e)
    ∙ ap (list_any (is_on_face p)) (sym (next fs i f.element f.at))

pub hit : (p : P3) (fs : List Facet) (i : ℕ) (h : Plane3) (b r : Bool) → i < length fs → ((f : Facet) → slice_get fs i ≡ Some f → h ≡ f.plane) → b ≡ int_eq (plane_value h p) (pos 0)
    → b ≡ true → list_any (is_on_face p) (drop i fs) ≡ r → true ≡ r
hit p fs i h b r l k e y inv = ap (λ x. x || list_any (is_on_face p) (drop (i + 1) fs)) (sym y) ∙ left_on p fs i h b l k e ∙ inv

pub missed : (p : P3) (fs : List Facet) (i : ℕ) (h : Plane3) (b r : Bool) → i < length fs → ((f : Facet) → slice_get fs i ≡ Some f → h ≡ f.plane) → b ≡ int_eq (plane_value h p) (pos 0)
    → b ≡ false → list_any (is_on_face p) (drop i fs) ≡ r → list_any (is_on_face p) (drop (i + 1) fs) ≡ r
missed p fs i h b r l k e n inv = ap (λ x. x || list_any (is_on_face p) (drop (i + 1) fs)) (sym n) ∙ left_on p fs i h b l k e ∙ inv

pub nowhere : (p : P3) (fs : List Facet) (i : ℕ) (r : Bool) → length fs ≤ i → list_any (is_on_face p) (drop i fs) ≡ r → false ≡ r
nowhere p fs i r h inv = ap (list_any (is_on_face p)) (sym (none fs i h)) ∙ inv

-- ---- what an answer says

pub on_answer : (fs : List Facet) (p : P3) (r : Bool) → r ≡ list_any (is_on_face p) fs → IsTrue r ↔ Any (λ f. plane_value f.plane p ≡ pos 0) fs
on_answer fs p r e = (
  λ t. let h = Any-from_list_any (is_on_face p) fs (sym e ∙ t) in (h.0, h.1, h.2, h.3, eq_is (plane_value h.1.plane p) (pos 0) h.4),
  λ a. e ∙ list_any-from_Any (is_on_face p) fs (a.0, a.1, a.2, a.3, eq_yes (plane_value a.1.plane p) (pos 0) a.4),
)

off_all : (fs : List Facet) (p : P3) → list_any (is_on_face p) fs ≡ false → IsOff3 fs p
off_all [] p e = All-nil (λ (f : Facet). plane_value f.plane p ≡ pos 0 → ⊥)
off_all (f ∷ fs) p e =
    All-cons (λ (g : Facet). plane_value g.plane p ≡ pos 0 → ⊥) f fs
    (λ k. true≢false (sym (or_left (is_on_face p f) (list_any (is_on_face p) fs) (eq_yes (plane_value f.plane p) (pos 0) k)) ∙ e))
    (off_all fs p (or_parts (is_on_face p f) (list_any (is_on_face p) fs) e).1)

off_is : (fs : List Facet) (p : P3) → IsOff3 fs p → list_any (is_on_face p) fs ≡ false
off_is fs p a =
    list_any_none (is_on_face p) fs (each fs a)
  where
    each : (gs : List Facet) → IsOff3 gs p → All (λ g. is_on_face p g ≡ false) gs
    each [] h = All-nil (λ (g : Facet). is_on_face p g ≡ false)
    each (g ∷ gs) h =
        All-cons (λ (k : Facet). is_on_face p k ≡ false) g gs
        (false_from_ne_true (is_on_face p g) (λ q. All-head (λ (k : Facet). plane_value k.plane p ≡ pos 0 → ⊥) g gs h (eq_is (plane_value g.plane p) (pos 0) q)))
        (each gs (All-tail (λ (k : Facet). plane_value k.plane p ≡ pos 0 → ⊥) g gs h))

pub off_answer : (fs : List Facet) (p : P3) (r : Bool) → r ≡ list_any (is_on_face p) fs → (r ≡ false) ↔ IsOff3 fs p
off_answer fs p r e = (λ f. off_all fs p (sym e ∙ f), λ a. e ∙ off_is fs p a)
