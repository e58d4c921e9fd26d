use Rattle.std.proofs.Common.{◌≡◌, ◌++◌, map, take}
use Rattle.bc_solid.specs.Facets.{facet_of}
use Rattle.bc_solid.proofs.join.add_facets.Given as goal

abbrev pub invariant-loop-facet : goal.invariant-loop-facet
invariant-loop-facet l = map facet_of l.all ≡ map facet_of l.initial.all ++ map facet_of (take l.facet-index l.facets)
