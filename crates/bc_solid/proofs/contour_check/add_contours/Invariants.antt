use Rattle.bc_solid.proofs.Walks.{IsPartOfAll}
use Rattle.bc_solid.proofs.contour_check.add_contours.Given as goal

abbrev pub invariant-loop-contour : goal.invariant-loop-contour
invariant-loop-contour l = IsPartOfAll l.contours l.items l.contour-index
