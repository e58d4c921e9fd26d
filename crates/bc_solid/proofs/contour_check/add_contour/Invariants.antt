use Rattle.bc_solid.proofs.Walks.{IsPart}
use Rattle.bc_solid.proofs.contour_check.add_contour.Given as goal

abbrev pub invariant-loop-element : goal.invariant-loop-element
invariant-loop-element l = IsPart l.fn.items l.contour l.items l.element-index
