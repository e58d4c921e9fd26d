use Rattle.std.proofs.Common.{[], ◌∷◌, ◌++◌, sym, ap, ◌∙◌}
use Rattle.std.proofs.lemmas.List.{map_more}
use Rattle.bc_audit.proofs.holds.everywhere.Goals as goal

pub loop-mask-preserved : goal.loop-mask-preserved
loop-mask-preserved c =
    c.in_ok-push.ensures.items ∙ ap (λ bs. bs ++ c.args.holds ∷ []) c.loop-mask.invariant
    ∙ sym (map_more (λ m. c.args.holds) c.args.masks.now c.loop-mask._mask-index 0 c.loop-mask-test.true)
