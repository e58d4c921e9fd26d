use Rattle.bc_solid.proofs.Facets.{some_corner}
use Rattle.bc_natural.proofs.corners.first_corner.Goals as goal

pub corner-requires-clause-place : goal.corner-requires-clause-place
corner-requires-clause-place c = λ facet e. some_corner c.args.s.now c.args.f facet c.law.ensures e
