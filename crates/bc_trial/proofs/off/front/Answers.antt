use Rattle.std.proofs.Common.{◌∷◌, [], ◌++◌, ◌+◌, ◌-◌, List, ℕ, arith, sym, ap, ◌∙◌}
use Rattle.bc_trial.proofs.Rows.{range-next}
use Rattle.bc_trial.proofs.off.front.Goals as goal

pub loop-i-preserved : goal.loop-i-preserved
loop-i-preserved c =
    let i = c.loop-i.i in
    let first = c.args.first in
    c.in_ok-push-2.ensures.items ∙ ap (λ (xs : List ℕ). xs ++ i ∷ []) c.loop-i.invariant
    ∙ ap (λ (xs : List ℕ). c.args.m ∷ xs) (sym (range-next first (i - first) i (i + 1 - first) (omega (arith, c.loop-i.auto.i)) (omega (arith, c.loop-i.auto.i))))
