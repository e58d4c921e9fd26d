use Rattle.std.proofs.Common.{◌≡◌, Some, None, sym, ap, ◌∙◌}
use Rattle.bc_factor.specs.Literals.{the_literal, the_choice}
use Rattle.bc_factor.specs.Shared.{most_shared, with_literal, other_than}
use Rattle.bc_factor.proofs.Trees.{others_fewer, group_made, rest_made}
use Rattle.bc_factor.proofs.build.+levels.Goals as goal

pub grouped_trees-loop-literal-smaller : goal.grouped_trees-loop-literal-smaller
grouped_trees-loop-literal-smaller t c =
    let is : most_shared c.loop-literal.rest.items ≡ Some (the_literal c.in-Some.literal) = ap most_shared (sym c.deref.ensures.value) ∙ sym c.most_shared_of.ensures ∙ ap the_choice c.in-Some.is in
    let others = c.in_ok-shared.ensures.others ∙ ap (other_than (the_literal c.in-Some.literal)) c.deref-in-Some.ensures.value in
    rw others (others_fewer (the_literal c.in-Some.literal) c.loop-literal.rest.items is)

pub grouped_trees-loop-literal-preserved : goal.grouped_trees-loop-literal-preserved
grouped_trees-loop-literal-preserved t c =
    let is : most_shared c.loop-literal.rest.items ≡ Some (the_literal c.in-Some.literal) = ap most_shared (sym c.deref.ensures.value) ∙ sym c.most_shared_of.ensures ∙ ap the_choice c.in-Some.is in
    let shared = c.in_ok-shared.ensures.shared ∙ ap (with_literal (the_literal c.in-Some.literal)) c.deref-in-Some.ensures.value in
    let others = c.in_ok-shared.ensures.others ∙ ap (other_than (the_literal c.in-Some.literal)) c.deref-in-Some.ensures.value in
    group_made c.args.block c.args.literals.now c.args.levels (the_literal c.in-Some.literal) _ _ _ c.deref-in-Some-2.result.now _ c.loop-literal.rest.items _ is (c.deref-in-Some-2.ensures.value ∙ shared) others c.in_ok-group_of.ensures c.in_ok-push.ensures.ok c.loop-literal.invariant

pub grouped_trees-returns : goal.grouped_trees-returns
grouped_trees-returns t c =
    let none : most_shared c.loop-literal.rest.items ≡ None = ap most_shared (sym c.deref.ensures.value) ∙ sym c.most_shared_of.ensures ∙ ap the_choice c.in_default.is in
    rest_made c.args.block c.args.literals.now c.args.levels _ _ c.loop-literal.rest.items _ none (rw (sym c.deref-2.ensures.value) c.in_ok-add_plain.ensures) c.loop-literal.invariant
