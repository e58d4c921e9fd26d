use Rattle.std.proofs.Common.{◌≡◌, take, slice_get, Some}
use Rattle.bc_solid.specs.Facets.{Facet}
use Rattle.bc_natural.specs.Spans.{AreSpans, IsAlong}
use Rattle.bc_natural.proofs.bounds3.face_extent.Given as goal

abbrev pub invariant-loop-i : goal.invariant-loop-i
invariant-loop-i l = (facet : Facet) → slice_get l.s l.f ≡ Some facet → AreSpans (IsAlong (take l.i facet.corners)) l.all
