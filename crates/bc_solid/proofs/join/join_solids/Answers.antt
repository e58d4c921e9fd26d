use Rattle.std.proofs.Common.{sym, ap, ◌∙◌, subst, map}
use Rattle.bc_solid.specs.Facets.{IsSolid}
use Rattle.bc_solid.specs.Facets.{facet_of}
use Rattle.bc_solid.proofs.Joined.{solid_joined, two_put}
use Rattle.bc_solid.proofs.join.join_solids.Goals as goal

pub invariant_of-result : goal.invariant_of-result
invariant_of-result c =
    let a = subst IsSolid c.a.view_is c.a.invariant in
    let b = subst IsSolid c.b.view_is c.b.invariant in
    let is = two_put c.args.a.now c.args.b.now c.in_ok-add_facets-2.ensures c.in_ok-add_facets.ensures (ap (map facet_of) c.new-facets.ensures)
    (ap (map facet_of) c.as_slice.ensures ∙ c.a.view_is) (ap (map facet_of) c.as_slice-2.ensures ∙ c.b.view_is) in
    subst IsSolid (sym is) (solid_joined c.args.a.now c.args.b.now a b c.requires.faces c.requires.corners)
