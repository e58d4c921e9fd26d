-- Bounds of the numbers of planes, lines and discs of a boundary: those of its faces, chords and arcs.
use Rattle.std.proofs.Common.{◌≡◌, ◌≤◌, Bool, not, List, [], ◌∷◌, length, arith, refl, ap}
use Rattle.std.specs.Prelude.{filter}
use Rattle.std.proofs.lemmas.List.{length-map}
use Rattle.std.proofs.lemmas.List.Filters.{length-filter_both}
use Rattle.std.proofs.lemmas.Slice.Zip.{AllZip-long}
use Rattle.bc_num.specs.declared.v2.V2.{V2}
use Rattle.bc_num.specs.declared.v3.V3.{V3}
use Rattle.bc_space.specs.declared.line2.Line2.{Line2}
use Rattle.bc_space.specs.declared.plane3.Plane3.{Plane3}
use Rattle.bc_solid.specs.declared.element.Element.{Element}
use Rattle.bc_solid.specs.Facets.{Facet, outlines}
use Rattle.bc_natural.specs.Distinct.{distinct}
use Rattle.bc_natural.specs.Planes.{Planes, IsPlaneOf, is_same_plane, ArePlanes}
use Rattle.bc_natural.specs.Curves.{Curves, AreCurves, has_line, is_arc, IsLineOf, IsDiscOf, is_same_line, is_same_disc}

length-distinct-le : {X : Type 0} (same : X → X → Bool) (xs : List X) → length (distinct same xs) ≤ length xs
length-distinct-le same [] = omega arith
length-distinct-le same (x ∷ xs) =
    let f = length-filter_both (λ y. not (same x y)) (λ y. not (not (same x y))) (λ y. refl) (distinct same xs) in
    let d = length-distinct-le same xs in
    omega (arith, f, d)

-- a mesh has no more planes than faces
pub few_planes : (fs : List Facet) (t : Planes) (faces : List (List V3)) → outlines fs ≡ faces → ArePlanes fs t → length t ≤ length faces
few_planes fs t faces e h =
    let d = length-distinct-le (λ (g h : Plane3 × V3). is_same_plane g.0 h.0) h.found in
    let z = AllZip-long IsPlaneOf fs h.found h.of_faces in
    let m = length-map fs (λ (f : Facet). f.corners) in
    let s = ap length h.planes in
    let o = ap length e in
    omega (arith, d, z, m, s, o)

-- contours have no more lines than elements with a chord
pub few_lines : (es : List Element) (t : Curves) → AreCurves es t → length t.lines ≤ length (filter has_line es)
few_lines es t h =
    let d = length-distinct-le (λ (g h : Line2 × V2). is_same_line g.0 h.0) h.found in
    let z = AllZip-long IsLineOf (filter has_line es) h.found h.of_lines in
    let s = ap length h.lines in
    omega (arith, d, z, s)

-- and no more discs than arcs
pub few_discs : (es : List Element) (t : Curves) → AreCurves es t → length t.discs ≤ length (filter is_arc es)
few_discs es t h =
    let d = length-distinct-le is_same_disc h.seen in
    let z = AllZip-long IsDiscOf (filter is_arc es) h.seen h.of_discs in
    let s = ap length h.discs in
    omega (arith, d, z, s)
