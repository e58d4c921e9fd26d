-- The line of an element and the disc of an arc are told by the element, and the tests of the table find equal ones.
use Rattle.std.proofs.Common.{◌≡◌, inl, inr, true, ◌&&◌, [], ◌∷◌, arith, refl, sym, ap, ◌∙◌}
use Rattle.std.specs.Ordering.{int_eq}
use Rattle.std.proofs.lemmas.Int.{ints}
use Rattle.std.proofs.lemmas.Bool.{and_from, and_parts}
use Rattle.std.proofs.lemmas.Bool.Decides.{Decides-int_eq}
use lib.IntN.{ℤ, pos, ◌-ℤ◌, ◌+ℤ◌, ◌*ℤ◌, neg_ℤ}
use Rattle.bc_algebra.proofs.Ring.{ring, quotes, by_two}
use Rattle.bc_algebra.proofs.Order.{zero_factor}
use Rattle.bc_num.specs.declared.v2.V2.{V2}
use Rattle.bc_num.specs.declared.disc2.Disc2.{Disc2}
use Rattle.bc_num.specs.Directions.{IsPrimitiveOf2}
use Rattle.bc_num.specs.Measures.{is_same}
use Rattle.bc_num.proofs.Combining.{primitive_same}
use Rattle.bc_num.proofs.Same.{v2_same, disc2_same}
use Rattle.bc_space.specs.declared.line2.Line2.{Line2}
use Rattle.bc_space.specs.LinesThrough.{IsLineThrough, from_to}
use Rattle.bc_space.proofs.SameLines.{line2_same}
use Rattle.bc_solid.specs.declared.element.Element.{Element}
use Rattle.bc_solid.specs.declared.element.Element.TheVariants.{Edge, Arc}
use Rattle.bc_solid.specs.Closed.{start_of, end_of}
use Rattle.bc_natural.specs.Curves.{IsLineOf, IsDiscOf, is_same_line, is_same_disc}

-- ---- tests

pub same_place : (a b : V2) → is_same a b ≡ true → a ≡ b
same_place a b h =
    let p = and_parts (int_eq a.x b.x) (int_eq a.y b.y) h in
    v2_same a b ((Decides-int_eq a.x b.x).0 p.0) ((Decides-int_eq a.y b.y).0 p.1)

pub place_same : (a b : V2) → a ≡ b → is_same a b ≡ true
place_same a b h = and_from (int_eq a.x b.x) (int_eq a.y b.y) ((Decides-int_eq a.x b.x).1 (ap (λ (t : V2). t.x) h)) ((Decides-int_eq a.y b.y).1 (ap (λ (t : V2). t.y) h))

pub same_line : (g h : Line2) → is_same_line g h ≡ true → g ≡ h
same_line g h e =
    let p = and_parts (int_eq g.a h.a) (int_eq g.b h.b && int_eq g.d h.d) e in
    let q = and_parts (int_eq g.b h.b) (int_eq g.d h.d) p.1 in
    line2_same g h ((Decides-int_eq g.a h.a).0 p.0) ((Decides-int_eq g.b h.b).0 q.0) ((Decides-int_eq g.d h.d).0 q.1)

pub line_same : (g h : Line2) → g ≡ h → is_same_line g h ≡ true
line_same g h e =
    and_from (int_eq g.a h.a) (int_eq g.b h.b && int_eq g.d h.d) ((Decides-int_eq g.a h.a).1 (ap (λ (t : Line2). t.a) e))
    (and_from (int_eq g.b h.b) (int_eq g.d h.d) ((Decides-int_eq g.b h.b).1 (ap (λ (t : Line2). t.b) e)) ((Decides-int_eq g.d h.d).1 (ap (λ (t : Line2). t.d) e)))

pub same_disc : (d e : Disc2) → is_same_disc d e ≡ true → d ≡ e
same_disc d e h =
    let p = and_parts (is_same d.c e.c) (int_eq d.r2 e.r2) h in
    disc2_same d e (same_place d.c e.c p.0) ((Decides-int_eq d.r2 e.r2).0 p.1)

pub disc_same : (d e : Disc2) → d ≡ e → is_same_disc d e ≡ true
disc_same d e h = and_from (is_same d.c e.c) (int_eq d.r2 e.r2) (place_same d.c e.c (ap (λ (t : Disc2). t.c) h)) ((Decides-int_eq d.r2 e.r2).1 (ap (λ (t : Disc2). t.r2) h))

-- ---- one line

-- primitive vectors of one vector are along one line
one_way : (v u w : V2) → IsPrimitiveOf2 v u → IsPrimitiveOf2 v w → u.x *ℤ w.y ≡ u.y *ℤ w.x
one_way v u w h k =
    let x : h.times *ℤ u.x ≡ k.times *ℤ w.x = sym h.along_x ∙ k.along_x in
    let y : h.times *ℤ u.y ≡ k.times *ℤ w.y = sym h.along_y ∙ k.along_y in
    elim (zero_factor h.times (u.x *ℤ w.y -ℤ u.y *ℤ w.x) (crossed h.times k.times u.x u.y w.x w.y x y)) [
      | inl z ↦ absurd (h.some z)
      | inr z ↦ level (u.x *ℤ w.y) (u.y *ℤ w.x) z
    ]
  where
    crossed : (t s ux uy wx wy : ℤ) → t *ℤ ux ≡ s *ℤ wx → t *ℤ uy ≡ s *ℤ wy → t *ℤ (ux *ℤ wy -ℤ uy *ℤ wx) ≡ pos 0
    crossed t s ux uy wx wy e f = by_two wy (neg_ℤ wx) e f (ring (t ∷ s ∷ ux ∷ uy ∷ wx ∷ wy ∷ []) (search quotes depth 30) refl)

    level : (x y : ℤ) → x -ℤ y ≡ pos 0 → x ≡ y
    level x y e = omega (arith, ints)

-- two places have one canonical line
pub one_line : (a b : V2) (l m : Line2) → IsLineThrough a b l → IsLineThrough a b m → l ≡ m
one_line a b l m h k =
    let u : h.direction ≡ k.direction = primitive_same h.direction k.direction h.primitive.primitive k.primitive.primitive h.primitive.leading k.primitive.leading
    (one_way (from_to a b) h.direction k.direction h.primitive k.primitive) in
    let ea : l.a ≡ m.a = h.a_is ∙ ap (λ (v : V2). neg_ℤ v.y) u ∙ sym k.a_is in
    let eb : l.b ≡ m.b = h.b_is ∙ ap (λ (v : V2). v.x) u ∙ sym k.b_is in
    line2_same l m ea eb (h.d_is ∙ ap (λ (z : ℤ). z *ℤ a.x +ℤ l.b *ℤ a.y) ea ∙ ap (λ (z : ℤ). m.a *ℤ a.x +ℤ z *ℤ a.y) eb ∙ sym k.d_is)

pub one_entry : (e : Element) (g h : Line2 × V2) → IsLineOf e g → IsLineOf e h → g ≡ h
one_entry e g h p q = pair g h (one_line (start_of e) (end_of e) g.0 h.0 p.line q.line) (p.origin ∙ sym q.origin)
  where
    pair : (g h : Line2 × V2) → g.0 ≡ h.0 → g.1 ≡ h.1 → g ≡ h
    pair g h e f = λ i. (e i, f i)

pub one_disc : (e : Element) (d f : Disc2) → IsDiscOf e d → IsDiscOf e f → d ≡ f
one_disc (Edge a b) d f h k = absurd h
one_disc (Arc a b c ccw) d f h k = disc2_same d f (h.0 ∙ sym k.0) (h.1 ∙ sym k.1)
