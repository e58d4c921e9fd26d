-- The cell law of closed meshes: whether two points on one side of each face cross differently is told by edges that occur
-- evenly.
use Rattle.std.proofs.Common.{◌≡◌, Bool, true, false, not, ◌&&◌, ◌||◌, inl, inr, List, [], ◌∷◌, ◌++◌, arith, refl, sym, ◌∙◌, ap, subst}
use Rattle.std.proofs.lemmas.Int.{ints, by_lt_z}
use Rattle.std.proofs.lemmas.Bool.{false_from_ne_true, true≢false, cases_Bool}
use Rattle.std.specs.Prelude.{All, slice_index_or, int_lt}
use Rattle.std.specs.Ordering.{int_eq}
use Rattle.std.proofs.lemmas.List.Elements.{All-nil, All-cons, All-head, All-tail}
use lib.IntN.{ℤ, pos, ◌-ℤ◌, ◌*ℤ◌, neg_ℤ}
use lib.Signed.{◌<ℤ◌}
use Rattle.bc_algebra.proofs.Ring.{ring, quotes}
use Rattle.bc_num.specs.declared.v2.V2.{V2}
use Rattle.bc_num.specs.declared.v3.V3.{V3}
use Rattle.bc_num.specs.declared.p2.P2.{P2}
use Rattle.bc_num.specs.declared.p3.P3.{P3}
use Rattle.bc_num.specs.Measures.{turn}
use Rattle.bc_space.specs.declared.plane3.Plane3.{Plane3}
use Rattle.bc_space.specs.Planes.{plane_value}
use Rattle.bc_solid.specs.Meshes.{Edge3, path, edges, all_edges, joins}
use Rattle.bc_solid.specs.Facets.{Facet, outlines, IsOnPlane}
use Rattle.bc_parity.specs.Parity.{xor}
use Rattle.bc_parity.specs.Sums.{odd}
use Rattle.bc_parity.specs.Crossings.{has_passed, is_above_line, is_crossed}
use Rattle.bc_parity.specs.Faces.{shadow, shadow_point, rises, is_above_or_on, is_edge_crossed, is_over, is_face_crossed, is_odd3_at}
use Rattle.bc_parity.specs.FaceLaws.{IsThrough}
use Rattle.bc_parity.proofs.Orders.{eq_yes, eq_is}
use Rattle.bc_parity.proofs.Signs.{not_zero-left, same_sign, same_sign-scaled}
use Rattle.bc_parity.proofs.Xors.{xor_same, xor_through, xor_false, xor_comm, xor_zero, and_xor, and_false, odd-append, odd-xor, odd-and, odd-same}
use Rattle.bc_parity.proofs.Segments.{same_cases}
use Rattle.bc_parity.proofs.Turns.{turn_back}
use Rattle.bc_parity.proofs.Edges.{is_under, edge_lemma}
use Rattle.bc_solid.proofs.Joins.{flipped, joins-cases}
use Rattle.bc_parity.proofs.Joins.{IsSymmetric}
use Rattle.bc_parity.proofs.Marks.{Marked, marked, passes, odd-marked, list_law}
use Rattle.bc_parity.proofs.Planes.{turn_of, IsUpright}
use Rattle.bc_parity.proofs.Middles.{IsOneSideOf, exchanged, IsLevel, level_between}

-- ---- an edge, seen from p and q

-- exactly one of the ends is between the columns of p and q and below the line through them
abbrev pub ends : P3 → P3 → Edge3 → Bool
ends p q e = xor (is_under (shadow_point p) (shadow_point q) (shadow e.from)) (is_under (shadow_point p) (shadow_point q) (shadow e.to))

-- exactly one of p and q crosses the edge
abbrev pub change : P3 → P3 → Edge3 → Bool
change p q e = xor (is_edge_crossed e p) (is_edge_crossed e q)

-- the two differ
abbrev pub fails : P3 → P3 → Edge3 → Bool
fails p q e = xor (change p q e) (ends p q e)

-- off the line the rule for ties says nothing
pub or_on : (a b : V2) (p : P2) → (turn a b p ≡ pos 0 → ⊥) → is_above_or_on a b p ≡ is_above_line a b p
or_on a b p n =
    ap (λ x. is_above_line a b p || (x && not (rises a b))) (false_from_ne_true (int_eq (turn a b p) (pos 0)) (λ q. n (eq_is (turn a b p) (pos 0) q)))
    ∙ or_false (is_above_line a b p)
  where
    or_false : (b : Bool) → (b || false) ≡ b
    or_false true = refl
    or_false false = refl

no_tie : (e : Edge3) (p : P3) → (turn_of e p ≡ pos 0 → ⊥) → is_edge_crossed e p ≡ is_crossed (shadow e.from) (shadow e.to) (shadow_point p)
no_tie e p n =
    ap (λ b. xor (has_passed (shadow e.from) (shadow_point p)) (has_passed (shadow e.to) (shadow_point p)) && b) (or_on (shadow e.from) (shadow e.to) (shadow_point p) n)

-- an edge over one place
upright : (e : Edge3) (p q : P3) → IsUpright e → fails p q e ≡ false
upright e p q h =
    ap (λ b. xor b (ends p q e)) (ap (λ b. xor b (is_edge_crossed e q)) (none e p h) ∙ none e q h)
    ∙ ap (λ v. xor (is_under (shadow_point p) (shadow_point q) (shadow e.from)) (is_under (shadow_point p) (shadow_point q) v)) (sym h)
    ∙ xor_same (is_under (shadow_point p) (shadow_point q) (shadow e.from))
  where
    none : (e : Edge3) (p : P3) → IsUpright e → is_edge_crossed e p ≡ false
    none e p h =
        ap (λ v. xor (has_passed (shadow e.from) (shadow_point p)) (has_passed v (shadow_point p)) && is_above_or_on (shadow e.from) (shadow e.to) (shadow_point p)) (sym h)
        ∙ ap (λ b. b && is_above_or_on (shadow e.from) (shadow e.to) (shadow_point p)) (xor_same (has_passed (shadow e.from) (shadow_point p)))

on_one_side : (e : Edge3) (p q : P3) → pos 0 <ℤ (turn_of e p *ℤ turn_of e q) → fails p q e ≡ false
on_one_side e p q h =
    ap (λ b. xor (xor b (is_edge_crossed e q)) (ends p q e)) (no_tie e p (not_zero-left (turn_of e p) (turn_of e q) h))
    ∙ ap (λ b. xor (xor (is_crossed (shadow e.from) (shadow e.to) (shadow_point p)) b) (ends p q e))
    (no_tie e q (not_zero-left (turn_of e q) (turn_of e p) (exchanged (turn_of e p) (turn_of e q) h)))
    ∙ ap (λ b. xor b (ends p q e)) (edge_lemma (shadow e.from) (shadow e.to) (shadow_point p) (shadow_point q) h)
    ∙ xor_same (ends p q e)

pub clash : (b : Bool) → b ≡ true → b ≡ false → ⊥
clash b h k = true≢false (sym h ∙ k)

-- where the two differ, p is above all face planes through the edge or below all
fails-level : (e : Edge3) (p q : P3) → fails p q e ≡ true → IsLevel p q e
fails-level e p q h =
    elim (same_cases (shadow e.from) (shadow e.to)) [
      | inl x ↦ absurd (clash (fails p q e) h (upright e p q x.0))
      | inr n ↦
          by_lt_z (pos 0) (turn_of e p *ℤ turn_of e q)
          (λ l. absurd (clash (fails p q e) h (on_one_side e p q l)))
          (λ l. level_between e p q n.0 l)
    ]

-- the order of the ends does not matter
pub crossed-flipped : (e : Edge3) (p : P3) → is_edge_crossed (flipped e) p ≡ is_edge_crossed e p
crossed-flipped e p =
    ap (λ b. b && is_above_or_on (shadow e.to) (shadow e.from) (shadow_point p)) (xor_comm (has_passed (shadow e.to) (shadow_point p)) (has_passed (shadow e.from) (shadow_point p)))
    ∙ ap (λ b. xor (has_passed (shadow e.from) (shadow_point p)) (has_passed (shadow e.to) (shadow_point p)) && b)
    (ap (λ z. int_lt (pos 0) z || (int_eq (turn_of (flipped e) p) (pos 0) && not (rises (shadow e.to) (shadow e.from)))) (above e p)
    ∙ ap (λ b. is_above_line (shadow e.from) (shadow e.to) (shadow_point p) || (b && not (rises (shadow e.to) (shadow e.from))))
    (zero (turn_of (flipped e) p) (turn_of e p) (turn_back (shadow e.from) (shadow e.to) (shadow_point p)))
    ∙ ap (λ z. is_above_line (shadow e.from) (shadow e.to) (shadow_point p) || (int_eq (turn_of e p) (pos 0) && not (int_lt (pos 0) z))) (slope e))
  where
    above : (e : Edge3) (p : P3) → (e.from.x -ℤ e.to.x) *ℤ turn_of (flipped e) p ≡ (e.to.x -ℤ e.from.x) *ℤ turn_of e p
    above e p = ring (e.from.x ∷ e.from.y ∷ e.to.x ∷ e.to.y ∷ p.x ∷ p.y ∷ p.w ∷ []) (search quotes depth 30) refl

    slope : (e : Edge3) → (e.from.x -ℤ e.to.x) *ℤ (e.from.y -ℤ e.to.y) ≡ (e.to.x -ℤ e.from.x) *ℤ (e.to.y -ℤ e.from.y)
    slope e = ring (e.from.x ∷ e.from.y ∷ e.to.x ∷ e.to.y ∷ []) (search quotes depth 30) refl

    zero : (a b : ℤ) → a ≡ neg_ℤ b → int_eq a (pos 0) ≡ int_eq b (pos 0)
    zero a b h =
        elim (cases_Bool (int_eq b (pos 0))) [
          | inl x ↦ let k : b ≡ pos 0 = eq_is b (pos 0) x in eq_yes a (pos 0) (omega (arith, ints)) ∙ sym x
          | inr x ↦
              elim (cases_Bool (int_eq a (pos 0))) [
                | inl y ↦ let k : a ≡ pos 0 = eq_is a (pos 0) y in absurd (clash (int_eq b (pos 0)) (eq_yes b (pos 0) (omega (arith, ints))) x)
                | inr y ↦ y ∙ sym x
              ]
        ]

fails-symmetric : (p q : P3) → IsSymmetric (fails p q)
fails-symmetric p q e =
    ap (λ b. xor (xor b (is_edge_crossed (flipped e) q)) (ends p q (flipped e))) (crossed-flipped e p)
    ∙ ap (λ b. xor (xor (is_edge_crossed e p) b) (ends p q (flipped e))) (crossed-flipped e q)
    ∙ ap (xor (change p q e)) (xor_comm (is_under (shadow_point p) (shadow_point q) (shadow e.to)) (is_under (shadow_point p) (shadow_point q) (shadow e.from)))

-- ---- a face

along : (g : V3 → Bool) (a : V3) (cs : List V3) (z : V3) → odd (λ e. xor (g e.from) (g e.to)) (path a cs z) ≡ xor (g a) (g z)
along g a [] z = xor_false (xor (g a) (g z))
along g a (b ∷ cs) z = ap (xor (xor (g a) (g b))) (along g b cs z) ∙ xor_through (g a) (g b) (g z)

-- what speaks of one end alone is even round a face
pub round : (g : V3 → Bool) (cs : List V3) → odd (λ e. xor (g e.from) (g e.to)) (edges cs) ≡ false
round g [] = refl
round g (a ∷ cs) = along g a cs a ∙ xor_same (g a)

-- p and q on one side of a face: exactly one of them crosses it where they are over it, and its edges are told oddly
face_step : (f : Facet) (p q : P3) → IsOneSideOf f.plane p q → xor (is_face_crossed f p) (is_face_crossed f q) ≡ (is_over f.plane p && odd (fails p q) (edges f.corners))
face_step f p q h =
    ap (λ b. xor (is_face_crossed f p) (b && odd (λ e. is_edge_crossed e q) (edges f.corners))) (sym (same_sign-scaled f.plane.c (plane_value f.plane p) (plane_value f.plane q) h))
    ∙ sym (and_xor (is_over f.plane p) (odd (λ e. is_edge_crossed e p) (edges f.corners)) (odd (λ e. is_edge_crossed e q) (edges f.corners)))
    ∙ ap (λ b. is_over f.plane p && b)
    (sym (odd-xor (λ e. is_edge_crossed e p) (λ e. is_edge_crossed e q) (edges f.corners))
    ∙ sym (xor_false (odd (change p q) (edges f.corners)))
    ∙ ap (xor (odd (change p q) (edges f.corners))) (sym (round (λ v. is_under (shadow_point p) (shadow_point q) (shadow v)) f.corners))
    ∙ sym (odd-xor (change p q) (ends p q) (edges f.corners)))

-- ---- the marked edges of a mesh: those of the faces that p is over

abbrev marks : P3 → List Facet → List Marked
marks p [] = []
marks p (f ∷ fs) = marked (is_over f.plane p) (edges f.corners) ++ marks p fs

odd-marks : (test : Edge3 → Bool) (p : P3) (fs : List Facet) → odd (passes test) (marks p fs) ≡ odd (λ f. is_over f.plane p && odd test (edges f.corners)) fs
odd-marks test p [] = refl
odd-marks test p (f ∷ fs) =
    odd-append (passes test) (marked (is_over f.plane p) (edges f.corners)) (marks p fs)
    ∙ ap (λ b. xor b (odd (passes test) (marks p fs))) (odd-marked test (is_over f.plane p) (edges f.corners))
    ∙ ap (xor (is_over f.plane p && odd test (edges f.corners))) (odd-marks test p fs)

pub odd-all_edges : (test : Edge3 → Bool) (fs : List Facet) → odd (λ f. odd test (edges f.corners)) fs ≡ odd test (all_edges (outlines fs))
odd-all_edges test [] = refl
odd-all_edges test (f ∷ fs) = ap (xor (odd test (edges f.corners))) (odd-all_edges test fs) ∙ sym (odd-append test (edges f.corners) (all_edges (outlines fs)))

-- an odd number is not none
pub found : {A : Type 0} (test : A → Bool) (Q : A → Type 0) (xs : List A) → All Q xs → odd test xs ≡ true → (x : A) × (test x ≡ true) × Q x
found test Q [] h k = absurd (clash false k refl)
found test Q (x ∷ xs) h k =
    elim (cases_Bool (test x)) [
      | inl y ↦ (x, y, All-head Q x xs h)
      | inr y ↦ found test Q xs (All-tail Q x xs h) (sym (ap (λ b. xor b (odd test xs)) y) ∙ k)
    ]

-- what holds of the corners holds of the ends of the edges
path-each : (P : V3 → Type 0) (a : V3) (cs : List V3) (z : V3) → P a → All P cs → P z → All (λ e. P e.from × P e.to) (path a cs z)
path-each P a [] z h k l = All-cons (λ (e : Edge3). P e.from × P e.to) (record { from = a; to = z }) [] (h, l) (All-nil (λ (e : Edge3). P e.from × P e.to))
path-each P a (b ∷ cs) z h k l =
    All-cons (λ (e : Edge3). P e.from × P e.to) (record { from = a; to = b }) (path b cs z) (h, All-head P b cs k)
    (path-each P b cs z (All-head P b cs k) (All-tail P b cs k) l)

pub edges-each : (P : V3 → Type 0) (cs : List V3) → All P cs → All (λ e. P e.from × P e.to) (edges cs)
edges-each P [] h = All-nil (λ (e : Edge3). P e.from × P e.to)
edges-each P (a ∷ cs) h = path-each P a cs a (All-head P a cs h) (All-tail P a cs h) (All-head P a cs h)

joins-through : (h : Plane3) (k e : Edge3) → joins k e ≡ true → IsThrough h e → IsThrough h k
joins-through h k e j t =
    elim (joins-cases k e j) [
      | inl x ↦ subst (IsThrough h) x t
      | inr x ↦ let g : IsThrough h (flipped k) = subst (IsThrough h) x t in (g.1, g.0)
    ]

when_left : (m n b : Bool) → (b ≡ true → m ≡ n) → (m && b) ≡ (n && b)
when_left m n true h = ap (λ x. x && true) (h refl)
when_left m n false h = and_false m ∙ sym (and_false n)

-- the corners of each face are on its plane, and each pair of ends occurs evenly
pub record IsFlatAndEven (fs : List Facet) : Type 0 where
  pub flat : All (λ f. All (IsOnPlane f.plane) f.corners) fs
  pub even : (k : Edge3) → odd (joins k) (all_edges (outlines fs)) ≡ false

-- where p is above all planes through an edge or below all, its marks are all its occurrences, or none
even_marks : (fs : List Facet) (p q : P3) → IsFlatAndEven fs → All (λ f. IsOneSideOf f.plane p q) fs → (k : Edge3) → IsLevel p q k → odd (passes (joins k)) (marks p fs) ≡ false
even_marks fs p q mesh sides k l =
    odd-marks (joins k) p fs
    ∙ odd-same (λ f. is_over f.plane p && odd (joins k) (edges f.corners)) (λ f. int_lt (pos 0) l.height && odd (joins k) (edges f.corners)) fs
    (λ i d b.
    let f = slice_index_or fs i d in
    when_left (is_over f.plane p) (int_lt (pos 0) l.height) (odd (joins k) (edges f.corners))
    (λ o. at f (mesh.flat i d b) (sides i d b) o))
    ∙ odd-and (int_lt (pos 0) l.height) (λ f. odd (joins k) (edges f.corners)) fs
    ∙ ap (λ b. int_lt (pos 0) l.height && b) (odd-all_edges (joins k) fs ∙ mesh.even k)
    ∙ and_false (int_lt (pos 0) l.height)
  where
    at : (f : Facet) → All (IsOnPlane f.plane) f.corners → IsOneSideOf f.plane p q → odd (joins k) (edges f.corners) ≡ true → is_over f.plane p ≡ int_lt (pos 0) l.height
    at f h s o =
        let e : (e : Edge3) × (joins k e ≡ true) × IsThrough f.plane e = found (joins k) (IsThrough f.plane) (edges f.corners) (edges-each (IsOnPlane f.plane) f.corners h) o in
        same_sign (f.plane.c *ℤ plane_value f.plane p) l.height (l.is f.plane (joins-through f.plane k e.0 e.1 e.2) s)

pub same_parity : (fs : List Facet) (p q : P3) → IsFlatAndEven fs → All (λ f. IsOneSideOf f.plane p q) fs → is_odd3_at fs p ≡ is_odd3_at fs q
same_parity fs p q mesh sides =
    xor_zero (is_odd3_at fs p) (is_odd3_at fs q)
    (sym (odd-xor (λ f. is_face_crossed f p) (λ f. is_face_crossed f q) fs)
    ∙ odd-same (λ f. xor (is_face_crossed f p) (is_face_crossed f q)) (λ f. is_over f.plane p && odd (fails p q) (edges f.corners)) fs
    (λ i d b. face_step (slice_index_or fs i d) p q (sides i d b))
    ∙ sym (odd-marks (fails p q) p fs)
    ∙ list_law (fails p q) (marks p fs) (fails-symmetric p q) (λ k h. even_marks fs p q mesh sides k (fails-level k p q h)))
