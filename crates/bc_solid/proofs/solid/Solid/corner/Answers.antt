use Rattle.std.proofs.Common.{◌≡◌, slice_get, Some, sym, ◌∙◌, ap, subst}
use Rattle.bc_solid.specs.Facets.{Facet as AFacet}
use Rattle.bc_solid.proofs.Facets.{corner_near}
use Rattle.bc_solid.proofs.Solids.{seen_at, same_at}
use Rattle.bc_solid.proofs.solid.Solid.corner.Goals as goal

pub get-requires-2 : goal.get-requires-2
get-requires-2 c = c.requires.place _ (ap (λ fs. slice_get fs c.args.f) (sym c.self.view_is) ∙ seen_at c.self.inside.facets c.args.f c.get.result.now c.get.ensures)

pub returns-clause-at : goal.returns-clause-at
returns-clause-at c = λ facet e.
    subst (λ (g : AFacet). slice_get g.corners c.args.i ≡ Some c.get-2.result.now)
    (same_at c.self.inside.facets c.args.f c.get.result.now facet c.get.ensures (ap (λ fs. slice_get fs c.args.f) c.self.view_is ∙ e))
    c.get-2.ensures

pub returns-clause-near : goal.returns-clause-near
returns-clause-near c = corner_near c.args.self.now c.args.f c.args.i c.get-2.result.now c.law.ensures c.requires.face (returns-clause-at c)
