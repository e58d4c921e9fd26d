use Rattle.std.proofs.Common.{take}
use Rattle.std.specs.Prelude.{Any}
use Rattle.bc_solid.specs.Boxes.{IsXOf, IsYOf}
use Rattle.bc_natural.specs.Spans.{IsSpan}
use Rattle.bc_natural.proofs.bounds2.whole_extent.Given as goal

abbrev pub invariant-loop-i : goal.invariant-loop-i
invariant-loop-i l = record {
  x : IsSpan (λ z. Any (λ e. IsXOf e z) (take l.i l.s)) l.all.x;
  y : IsSpan (λ z. Any (λ e. IsYOf e z) (take l.i l.s)) l.all.y;
}
