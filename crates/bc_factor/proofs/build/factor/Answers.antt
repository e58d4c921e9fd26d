use Rattle.std.proofs.Common.{◌≤◌, ◌<◌, sym, ap, ◌∙◌, subst, map}
use Rattle.bc_tree.specs.Shape.{depth}
use Rattle.bc_tree.specs.Spells.{IsAllowed}
use Rattle.bc_tree.specs.Cuts.{cover_shape, product_of}
use Rattle.bc_factor.specs.Counts.{leaf_count}
use Rattle.bc_factor.specs.Meanings.{HoldAlike}
use Rattle.bc_factor.proofs.Meaning.{hold_alike}
use Rattle.bc_factor.proofs.Leaves.{factored_le, factored_lt, factored_depth}
use Rattle.bc_factor.proofs.Allowed.{factored_allowed}
use Rattle.bc_factor.proofs.Trees.{whole_shape}
use Rattle.bc_factor.proofs.build.factor.Goals as goal

pub returns-clause-meaning : goal.returns-clause-meaning
returns-clause-meaning c =
    let is = whole_shape c.args.block c.args.literals.now _ _ c.args.terms.now c.in_ok-trees_of.ensures (c.in_ok-products.ensures ∙ ap (map product_of) c.as_slice.ensures) in
    subst (λ s. HoldAlike s (cover_shape c.args.block c.args.literals.now c.args.terms.now)) (sym is) (hold_alike c.args.block c.args.literals.now c.args.terms.now)

pub returns-clause-leaves : goal.returns-clause-leaves
returns-clause-leaves c =
    let is = whole_shape c.args.block c.args.literals.now _ _ c.args.terms.now c.in_ok-trees_of.ensures (c.in_ok-products.ensures ∙ ap (map product_of) c.as_slice.ensures) in
    subst (λ s. leaf_count s ≤ leaf_count (cover_shape c.args.block c.args.literals.now c.args.terms.now)) (sym is) (factored_le c.args.block c.args.literals.now c.args.terms.now)

pub returns-clause-fewer : goal.returns-clause-fewer
returns-clause-fewer c share =
    let is = whole_shape c.args.block c.args.literals.now _ _ c.args.terms.now c.in_ok-trees_of.ensures (c.in_ok-products.ensures ∙ ap (map product_of) c.as_slice.ensures) in
    subst (λ s. leaf_count s < leaf_count (cover_shape c.args.block c.args.literals.now c.args.terms.now)) (sym is) (factored_lt c.args.block c.args.literals.now c.args.terms.now c.requires.below share)

pub returns-clause-nested : goal.returns-clause-nested
returns-clause-nested c =
    let is = whole_shape c.args.block c.args.literals.now _ _ c.args.terms.now c.in_ok-trees_of.ensures (c.in_ok-products.ensures ∙ ap (map product_of) c.as_slice.ensures) in
    subst (λ s. depth s ≤ 63) (sym is) (factored_depth c.args.block c.args.literals.now c.args.terms.now)

pub returns-clause-allowed : goal.returns-clause-allowed
returns-clause-allowed c kinds =
    let is = whole_shape c.args.block c.args.literals.now _ _ c.args.terms.now c.in_ok-trees_of.ensures (c.in_ok-products.ensures ∙ ap (map product_of) c.as_slice.ensures) in
    subst IsAllowed (sym is) (factored_allowed c.args.block c.args.literals.now c.args.terms.now kinds)
