-- Spans along the three axes of space, and the box that they give.
use Rattle.std.proofs.Common.{◌≡◌, ℕ, ◌+◌, ◌<◌, ◌≤◌, List, [], ◌∷◌, length, take, arith, sym, subst}
use Rattle.std.specs.Prelude.{slice_get, Some, Any, All}
use Rattle.std.proofs.lemmas.Int.{ints}
use Rattle.std.proofs.lemmas.List.Elements.{All-contains}
use lib.IntN.{ℤ, pos, ◌+ℤ◌, ◌-ℤ◌}
use Rattle.bc_algebra.specs.Within.{IsWithin}
use Rattle.bc_num.specs.declared.v3.V3.{V3}
use Rattle.bc_num.specs.declared.box3.Box3.{Box3}
use Rattle.bc_num.specs.Sizes.{AreCoords3}
use Rattle.bc_solid.specs.Boxes.{IsLeast, IsGreatest}
use Rattle.bc_solid.specs.Boxes3.{along_x, along_y, along_z, IsCoordinate, IsBoxOf3}
use Rattle.bc_solid.specs.Facets.{Facet, IsFacet}
use Rattle.bc_natural.specs.declared.span.Extent3.{Extent3}
use Rattle.bc_natural.specs.Spans.{AreSpans, AreHulls}
use Rattle.bc_natural.specs.Planes.{IsNearBox3}
use Rattle.bc_natural.proofs.Spans2.{span_first, span_more, span_all}

-- ---- of whatever numbers come from

module _ {E : Type 0} (R : E → (V3 → ℤ) → ℤ → Type 0) where
  pub spans_first : (es : List E) (e : E) (s : Extent3) → slice_get es 0 ≡ Some e → AreSpans (R e) s → AreSpans (λ along v. Any (λ e. R e along v) (take 1 es)) s
  spans_first es e s h k = record {
    x = span_first (λ e. R e along_x) es e s.x h k.x;
    y = span_first (λ e. R e along_y) es e s.y h k.y;
    z = span_first (λ e. R e along_z) es e s.z h k.z;
  }

  pub spans_more : (es : List E) (i : ℕ) (e : E) (s t u : Extent3) → slice_get es i ≡ Some e → AreSpans (λ along v. Any (λ e. R e along v) (take i es)) s → AreSpans (R e) t → AreHulls s t u
      → AreSpans (λ along v. Any (λ e. R e along v) (take (i + 1) es)) u
  spans_more es i e s t u h k j l = record {
    x = span_more (λ e. R e along_x) es i e s.x t.x u.x h k.x j.x l.x;
    y = span_more (λ e. R e along_y) es i e s.y t.y u.y h k.y j.y l.y;
    z = span_more (λ e. R e along_z) es i e s.z t.z u.z h k.z j.z l.z;
  }

  pub spans_all : (es : List E) (i : ℕ) (s : Extent3) → length es ≤ i → AreSpans (λ along v. Any (λ e. R e along v) (take i es)) s → AreSpans (λ along v. Any (λ e. R e along v) es) s
  spans_all es i s h k = record {
    x = span_all (λ e. R e along_x) es i s.x h k.x;
    y = span_all (λ e. R e along_y) es i s.y h k.y;
    z = span_all (λ e. R e along_z) es i s.z h k.z;
  }

-- ---- the box

pub box3_of_spans : (fs : List Facet) (e : Extent3) (b : Box3) → 0 < length fs → AreSpans (λ along v. IsCoordinate along fs v) e
    → b.x0 +ℤ pos 1 ≡ e.x.low → b.y0 +ℤ pos 1 ≡ e.y.low → b.z0 +ℤ pos 1 ≡ e.z.low
    → b.x1 -ℤ pos 1 ≡ e.x.high → b.y1 -ℤ pos 1 ≡ e.y.high → b.z1 -ℤ pos 1 ≡ e.z.high → IsBoxOf3 fs b
box3_of_spans [] e b l h x0 y0 z0 x1 y1 z1 = absurd (omega arith)
box3_of_spans (f ∷ fs) e b l h x0 y0 z0 x1 y1 z1 = record {
  x_least = subst (IsLeast (IsCoordinate along_x (f ∷ fs))) (sym x0) h.x.least;
  x_greatest = subst (IsGreatest (IsCoordinate along_x (f ∷ fs))) (sym x1) h.x.greatest;
  y_least = subst (IsLeast (IsCoordinate along_y (f ∷ fs))) (sym y0) h.y.least;
  y_greatest = subst (IsGreatest (IsCoordinate along_y (f ∷ fs))) (sym y1) h.y.greatest;
  z_least = subst (IsLeast (IsCoordinate along_z (f ∷ fs))) (sym z0) h.z.least;
  z_greatest = subst (IsGreatest (IsCoordinate along_z (f ∷ fs))) (sym z1) h.z.greatest;
}

-- coordinates of near corners are near
coordinate_near : (along : V3 → ℤ) → ((v : V3) → AreCoords3 v → IsWithin 1023 (along v)) → (fs : List Facet) → All IsFacet fs → (z : ℤ) → IsCoordinate along fs z → IsWithin 1023 z
coordinate_near along near fs a z (k, f, l, e, (j, v, m, g, is)) =
    let facet : IsFacet f = All-contains IsFacet fs f a (k, l, e) in
    subst (IsWithin 1023) (sym is) (near v (All-contains AreCoords3 f.corners v facet.near (j, m, g)))

low_near : (z : ℤ) → IsWithin 1023 (z +ℤ pos 1) → IsWithin 1024 z
low_near z h = let w = h.within in record { within = omega (arith, ints) }

high_near : (z : ℤ) → IsWithin 1023 (z -ℤ pos 1) → IsWithin 1024 z
high_near z h = let w = h.within in record { within = omega (arith, ints) }

unit_near : (z : ℤ) (one : ℤ) → IsWithin 1024 one → z ≡ one → IsWithin 1024 z
unit_near z one h e = subst (IsWithin 1024) (sym e) h

-- the box of near faces is near
pub box3_near : (fs : List Facet) (b : Box3) → All IsFacet fs → IsBoxOf3 fs b → IsNearBox3 b
box3_near [] b a h = record {
  x0_near = unit_near b.x0 _ (record { within = omega arith }) h.x_least;
  y0_near = unit_near b.y0 _ (record { within = omega arith }) h.y_least;
  z0_near = unit_near b.z0 _ (record { within = omega arith }) h.z_least;
  x1_near = unit_near b.x1 _ (record { within = omega arith }) h.x_greatest;
  y1_near = unit_near b.y1 _ (record { within = omega arith }) h.y_greatest;
  z1_near = unit_near b.z1 _ (record { within = omega arith }) h.z_greatest;
}
box3_near (f ∷ fs) b a h = record {
  x0_near = low_near b.x0 (coordinate_near along_x (λ v n. n.x_near) (f ∷ fs) a (b.x0 +ℤ pos 1) h.x_least.is);
  y0_near = low_near b.y0 (coordinate_near along_y (λ v n. n.y_near) (f ∷ fs) a (b.y0 +ℤ pos 1) h.y_least.is);
  z0_near = low_near b.z0 (coordinate_near along_z (λ v n. n.z_near) (f ∷ fs) a (b.z0 +ℤ pos 1) h.z_least.is);
  x1_near = high_near b.x1 (coordinate_near along_x (λ v n. n.x_near) (f ∷ fs) a (b.x1 -ℤ pos 1) h.x_greatest.is);
  y1_near = high_near b.y1 (coordinate_near along_y (λ v n. n.y_near) (f ∷ fs) a (b.y1 -ℤ pos 1) h.y_greatest.is);
  z1_near = high_near b.z1 (coordinate_near along_z (λ v n. n.z_near) (f ∷ fs) a (b.z1 -ℤ pos 1) h.z_greatest.is);
}
