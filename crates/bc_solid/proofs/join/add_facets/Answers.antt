use Rattle.std.proofs.Common.{◌∙◌}
use Rattle.bc_solid.specs.Facets.{facet_of}
use Rattle.bc_solid.proofs.Joined.{copied}
use Rattle.bc_solid.proofs.join.add_facets.Goals as goal

pub loop-facet-preserved : goal.loop-facet-preserved
loop-facet-preserved c =
    copied facet_of c.args.all.now c.loop-facet.all c.push.new.self c.args.facets.now c.loop-facet.facet-index c.facet-item.result _ c.loop-facet-test.true c.facet-item.is c.in_ok-push.ensures.ok
    (λ i. record { plane = c.facet-item.result.plane; corners = (c.in_ok-corners.ensures ∙ c.as_slice.ensures) i }) c.loop-facet.invariant
