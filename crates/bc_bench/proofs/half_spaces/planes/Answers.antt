use Rattle.std.proofs.Common.{sym, subst, arith}
use Rattle.std.specs.List.{All}
use Rattle.std.proofs.lemmas.List.Elements.{All-push}
use Rattle.std.proofs.lemmas.List.{length_push}
use Rattle.bc_space.specs.Planes.{IsSizedPlane}
use Rattle.bc_bench.proofs.half_spaces.planes.Goals as goal

pub loop-i-preserved : goal.loop-i-preserved
loop-i-preserved c =
    let e = c.in_ok-push.ensures.ok in
    (rw (e, length_push) (omega arith), subst (λ hs. All IsSizedPlane hs) (sym e) (All-push IsSizedPlane _ _ c.loop-i.invariant.1 c.plane.ensures))
