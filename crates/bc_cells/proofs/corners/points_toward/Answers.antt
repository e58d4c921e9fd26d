use Rattle.std.proofs.Common.{◌≡◌, ◌+◌, take, IsTrue, false, rules, sym, subst, ◌∙◌}
use Rattle.bc_cells.specs.Constraints.{Toward}
use Rattle.bc_cells.specs.Gathers.{Selects}
use Rattle.bc_cells.proofs.Gather.{selects_none, selects_more, selects_skip, selects_whole}
use Rattle.bc_cells.proofs.corners.points_toward.Goals as goal
use Rattle.bc_cells.proofs.corners.points_toward.Goals.{then-is_toward+in_ok-push, else-is_toward}

pub loop-c-init : goal.loop-c-init
loop-c-init g c = selects_none c.args.points.now c.new-kept.result (λ p. Toward c.args.side (g.S.Half.HalfSpace.side_of c.args.h.now p)) c.new-kept.ensures

pub loop-c-preserved : goal.loop-c-preserved
loop-c-preserved g c =
    elim c.if-is_toward.branch [
      | then-is_toward+in_ok-push w ↦
          let yes : Toward c.args.side c.side.result = c.is_toward.ensures.0 (search rules) in
          subst (λ ys. Selects (take (c.loop-c.c-index + 1) c.args.points.now) ys (λ p. Toward c.args.side (g.S.Half.HalfSpace.side_of c.args.h.now p))) (sym (w.kept-is ∙ w.in_ok-push.ensures.ok))
          (selects_more c.args.points.now c.loop-c.kept c.loop-c.c-index c.c-item.result (λ p. Toward c.args.side (g.S.Half.HalfSpace.side_of c.args.h.now p)) c.loop-c-test.true c.c-item.is c.loop-c.invariant (rw c.side.ensures at yes))
      | else-is_toward w ↦
          subst (λ ys. Selects (take (c.loop-c.c-index + 1) c.args.points.now) ys (λ p. Toward c.args.side (g.S.Half.HalfSpace.side_of c.args.h.now p))) (sym w.kept-is)
          (selects_skip c.args.points.now c.loop-c.kept c.loop-c.c-index c.c-item.result (λ p. Toward c.args.side (g.S.Half.HalfSpace.side_of c.args.h.now p)) c.loop-c-test.true c.c-item.is c.loop-c.invariant
          (λ t. let yes : Toward c.args.side c.side.result = rw c.side.ensures t in let on : IsTrue c.is_toward.result = c.is_toward.ensures.1 yes in let off : c.is_toward.result ≡ false = w.if-is_toward.false in search rules))
    ]

pub returns : goal.returns
returns g c = selects_whole c.args.points.now c.loop-c.kept c.loop-c.c-index (λ p. Toward c.args.side (g.S.Half.HalfSpace.side_of c.args.h.now p)) c.loop-c-test.false c.loop-c.invariant
