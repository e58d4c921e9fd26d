use Rattle.std.proofs.Common.{take}
use Rattle.bc_solid.specs.Boxes3.{IsCoordinate}
use Rattle.bc_natural.specs.Spans.{AreSpans}
use Rattle.bc_natural.proofs.bounds3.solid_extent.Given as goal

abbrev pub invariant-loop-f : goal.invariant-loop-f
invariant-loop-f l = AreSpans (λ along z. IsCoordinate along (take l.f l.s) z) l.all
