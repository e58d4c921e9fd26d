-- A slab has one canonical plane, so a mesh and a tree have one list of planes.
use Rattle.std.proofs.Common.{◌≡◌, true, ◌&&◌, List, [], ◌∷◌, ◌++◌, map, refl, sym, ap, ◌∙◌, inl, inr, arith}
use Rattle.std.specs.List.{All, AllZip}
use Rattle.std.specs.Ordering.{int_eq}
use Rattle.std.proofs.lemmas.Int.{ints}
use Rattle.std.proofs.lemmas.Bool.{and_parts}
use Rattle.std.proofs.lemmas.Bool.Decides.{Decides-int_eq}
use Rattle.std.proofs.lemmas.List.Elements.{All-head, All-tail}
use lib.IntN.{ℤ, neg_ℤ}
use Rattle.bc_num.specs.declared.v3.V3.{V3}
use Rattle.bc_num.specs.Directions3.{IsLeading3}
use Rattle.bc_space.specs.declared.plane3.Plane3.{Plane3}
use Rattle.bc_space.proofs.SamePlanes.{plane3_same}
use Rattle.bc_solid.specs.Facets.{Facet}
use Rattle.bc_natural.specs.Distinct.{distinct}
use Rattle.bc_natural.specs.Planes.{is_same_plane}
use Rattle.bc_tree.specs.declared.frame.Frame3.{Frame3}
use Rattle.bc_tree.specs.Leaves.{IsFrame3}
use Rattle.bc_audit.specs.SlabPlanes.{IsSlabPlane, slabs, OnePlaneList}
use Rattle.bc_audit.specs.Told.{offset, is_plane, is_facing, is_turned}
use Rattle.bc_audit.proofs.Sides.{one_of}

record Numbers (h : Plane3) (a b c d : ℤ) : Type 0 where
  a_is : h.a ≡ a
  b_is : h.b ≡ b
  c_is : h.c ≡ c
  d_is : h.d ≡ d

numbers : (h : Plane3) (a b c d : ℤ) → is_plane h a b c d ≡ true → Numbers h a b c d
numbers h a b c d e =
    let p = and_parts (int_eq h.a a) (int_eq h.b b && (int_eq h.c c && int_eq h.d d)) e in
    let q = and_parts (int_eq h.b b) (int_eq h.c c && int_eq h.d d) p.1 in
    let r = and_parts (int_eq h.c c) (int_eq h.d d) q.1 in
    record {
      a_is = (Decides-int_eq h.a a).0 p.0;
      b_is = (Decides-int_eq h.b b).0 q.0;
      c_is = (Decides-int_eq h.c c).0 r.0;
      d_is = (Decides-int_eq h.d d).0 r.1;
    }

same_numbers : (g h : Plane3) (a b c d : ℤ) → Numbers g a b c d → Numbers h a b c d → g ≡ h
same_numbers g h a b c d m n = plane3_same g h (m.a_is ∙ sym n.a_is) (m.b_is ∙ sym n.b_is) (m.c_is ∙ sym n.c_is) (m.d_is ∙ sym n.d_is)

-- of a vector and the opposite one only one leads
one_leads : (v u : V3) → u.x ≡ neg_ℤ v.x → u.y ≡ neg_ℤ v.y → u.z ≡ neg_ℤ v.z → IsLeading3 v → IsLeading3 u → ⊥
one_leads v u e f g (inl h) (inl k) = absurd (omega (arith, ints))
one_leads v u e f g (inl h) (inr k) = let z = k.0 in absurd (omega (arith, ints))
one_leads v u e f g (inr h) (inl k) = let z = h.0 in absurd (omega (arith, ints))
one_leads v u e f g (inr (h, inl i)) (inr (k, inl j)) = absurd (omega (arith, ints))
one_leads v u e f g (inr (h, inl i)) (inr (k, inr j)) = let z = j.0 in absurd (omega (arith, ints))
one_leads v u e f g (inr (h, inr i)) (inr (k, inl j)) = let z = i.0 in absurd (omega (arith, ints))
one_leads v u e f g (inr (h, inr i)) (inr (k, inr j)) = let z = i.1 in let w = j.1 in absurd (omega (arith, ints))

apart : (f : Frame3) (g h : Plane3) → IsSlabPlane f g → IsSlabPlane f h → is_facing f g ≡ true → is_turned f h ≡ true → ⊥
apart f g h p q s t =
    let m = numbers g f.n.x f.n.y f.n.z (offset f) s in
    let n = numbers h (neg_ℤ f.n.x) (neg_ℤ f.n.y) (neg_ℤ f.n.z) (neg_ℤ (offset f)) t in
    one_leads p.direction q.direction
    (sym q.a_is ∙ n.a_is ∙ ap neg_ℤ (sym m.a_is ∙ p.a_is)) (sym q.b_is ∙ n.b_is ∙ ap neg_ℤ (sym m.b_is ∙ p.b_is)) (sym q.c_is ∙ n.c_is ∙ ap neg_ℤ (sym m.c_is ∙ p.c_is))
    p.primitive.leading q.primitive.leading

pub one_plane : (f : Frame3) (g h : Plane3) → IsFrame3 f → IsSlabPlane f g → IsSlabPlane f h → g ≡ h
one_plane f g h frame p q =
    elim (one_of f g frame.primitive p) [
      | inl s ↦
          elim (one_of f h frame.primitive q) [
            | inl t ↦ same_numbers g h f.n.x f.n.y f.n.z (offset f) (numbers g f.n.x f.n.y f.n.z (offset f) s) (numbers h f.n.x f.n.y f.n.z (offset f) t)
            | inr t ↦ absurd (apart f g h p q s t)
          ]
      | inr s ↦
          elim (one_of f h frame.primitive q) [
            | inl t ↦ absurd (apart f h g q p t s)
            | inr t ↦
                same_numbers g h (neg_ℤ f.n.x) (neg_ℤ f.n.y) (neg_ℤ f.n.z) (neg_ℤ (offset f))
                (numbers g (neg_ℤ f.n.x) (neg_ℤ f.n.y) (neg_ℤ f.n.z) (neg_ℤ (offset f)) s) (numbers h (neg_ℤ f.n.x) (neg_ℤ f.n.y) (neg_ℤ f.n.z) (neg_ℤ (offset f)) t)
          ]
    ]

all_planes : (fs : List Frame3) (gs hs : List Plane3) → All IsFrame3 fs → AllZip IsSlabPlane fs gs → AllZip IsSlabPlane fs hs → gs ≡ hs
all_planes [] [] [] a h k = refl
all_planes [] [] (y ∷ ys) a h k = absurd k
all_planes [] (x ∷ xs) hs a h k = absurd h
all_planes (f ∷ fs) [] hs a h k = absurd h
all_planes (f ∷ fs) (x ∷ xs) [] a h k = absurd k
all_planes (f ∷ fs) (x ∷ xs) (y ∷ ys) a h k =
    ap (λ z. z ∷ xs) (one_plane f x y (All-head IsFrame3 f fs a) h.0 k.0) ∙ ap (λ zs. y ∷ zs) (all_planes fs xs ys (All-tail IsFrame3 f fs a) h.1 k.1)

pub one_list : OnePlaneList
one_list fs s t u frames h k =
    h.are ∙ ap (λ found. distinct is_same_plane (map (λ (f : Facet). f.plane) fs ++ found)) (all_planes (slabs s) h.found k.found frames h.of_slabs k.of_slabs) ∙ sym k.are
