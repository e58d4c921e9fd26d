use Rattle.std.proofs.Common.{sym, subst}
use Rattle.std.specs.List.{All}
use Rattle.bc_cells.proofs.PartOf.{corners_fit}
use Rattle.bc_cells.proofs.Step.{among_vertices, among_off}
use Rattle.bc_cells.proofs.NewCorners.{among_new_of, crossings_fit}
use Rattle.bc_cells.proofs.parts.parts_of.Goals as goal

pub crossings-requires-clause-fits : goal.crossings-requires-clause-fits
crossings-requires-clause-fits g c =
    subst (λ cs. All g.S.Space.point_fits cs) (sym c.as_slice.ensures)
    (corners_fit _ _ g.met.S.Space.size g.met.S.Space.boxes.inner_fits c.args.earlier.now c.args.parent.now.inner c.args.parent.now.corners c.requires.sized (among_vertices c.args.earlier.now c.args.parent.now c.requires.parent))

pub points_inside-requires-clause-fits : goal.points_inside-requires-clause-fits
points_inside-requires-clause-fits g c = g.met.S.Space.boxes.inner_fits c.args.parent.now.inner c.requires.parent.cell.fits

pub points_inside-requires-clause-points : goal.points_inside-requires-clause-points
points_inside-requires-clause-points g c = crossings_fit g.met.S.Space.size g.met.S.Space.boxes.inner_fits c.args.earlier.now c.args.h.now c.as_slice.result.now c.in_ok-found.found c.as_slice-2.result.now c.requires.sized c.requires.half c.as_slice-2.ensures c.in_ok-found.ensures

pub part-requires-clause-fits : goal.part-requires-clause-fits
part-requires-clause-fits g c = c.requires.parent.cell.fits

pub part-requires-clause-off : goal.part-requires-clause-off
part-requires-clause-off g c = among_off c.args.earlier.now c.args.parent.now c.requires.parent

pub part-requires-clause-vertices : goal.part-requires-clause-vertices
part-requires-clause-vertices g c = among_vertices c.args.earlier.now c.args.parent.now c.requires.parent

pub part-requires-clause-new : goal.part-requires-clause-new
part-requires-clause-new g c = among_new_of g.met.S.Space.edge c.args.earlier.now c.args.parent.now c.requires.parent c.args.h.now c.as_slice.result.now c.in_ok-found.found c.as_slice-2.result.now c.in_ok-inside.inside c.as_slice-new.result.now
    c.as_slice.ensures c.as_slice-2.ensures c.as_slice-new.ensures c.in_ok-found.ensures c.in_ok-inside.ensures

pub part-requires-2-clause-fits : goal.part-requires-2-clause-fits
part-requires-2-clause-fits g c = c.requires.parent.cell.fits

pub part-requires-2-clause-off : goal.part-requires-2-clause-off
part-requires-2-clause-off g c = among_off c.args.earlier.now c.args.parent.now c.requires.parent

pub part-requires-2-clause-vertices : goal.part-requires-2-clause-vertices
part-requires-2-clause-vertices g c = among_vertices c.args.earlier.now c.args.parent.now c.requires.parent

pub part-requires-2-clause-new : goal.part-requires-2-clause-new
part-requires-2-clause-new g c = among_new_of g.met.S.Space.edge c.args.earlier.now c.args.parent.now c.requires.parent c.args.h.now c.as_slice.result.now c.in_ok-found.found c.as_slice-2.result.now c.in_ok-inside.inside c.as_slice-new.result.now
    c.as_slice.ensures c.as_slice-2.ensures c.as_slice-new.ensures c.in_ok-found.ensures c.in_ok-inside.ensures
