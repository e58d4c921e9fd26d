use Rattle.std.proofs.Common.{sym, ◌∙◌, subst}
use Rattle.bc_solid.specs.Closed.{IsProfile}
use Rattle.bc_solid.proofs.Joined.{profile_joined, two_put}
use Rattle.bc_solid.proofs.join.join_profiles.Goals as goal

pub invariant_of-result : goal.invariant_of-result
invariant_of-result c =
    let a = subst IsProfile c.a.view_is c.a.invariant in
    let b = subst IsProfile c.b.view_is c.b.invariant in
    let is = two_put c.args.a.now c.args.b.now c.in_ok-add_elements-2.ensures c.in_ok-add_elements.ensures c.new-items.ensures (c.as_slice.ensures ∙ c.a.view_is) (c.as_slice-2.ensures ∙ c.b.view_is) in
    subst IsProfile (sym is) (profile_joined c.args.a.now c.args.b.now a b c.requires)
