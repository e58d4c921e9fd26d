use Rattle.std.proofs.Common.{slice_get, ◌∙◌, ap}
use Rattle.bc_solid.specs.Facets.{Facet as AFacet}
use Rattle.bc_solid.proofs.Facets.{plane_sized}
use Rattle.bc_solid.proofs.Solids.{same_at}
use Rattle.bc_solid.proofs.solid.Solid.plane.Goals as goal

pub returns-clause-sized : goal.returns-clause-sized
returns-clause-sized c =
    plane_sized c.args.self.now c.args.f c.get.result.now.plane c.law.ensures c.requires
    (λ facet e. ap (λ (g : AFacet). g.plane) (same_at c.self.inside.facets c.args.f c.get.result.now facet c.get.ensures (ap (λ fs. slice_get fs c.args.f) c.self.view_is ∙ e)))
