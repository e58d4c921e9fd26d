use Rattle.std.proofs.Common.{◌≡◌, ◌∷◌, [], length, map, rules, sym, subst}
use Rattle.std.proofs.lemmas.List.{nil_from_length}
use Rattle.std.specs.List.{All}
use Rattle.bc_cells.specs.Constraints.{facing, Toward}
use Rattle.bc_cells.specs.Gathers.{Selects}
use Rattle.bc_cells.proofs.Regions.{halves_facing}
use Rattle.bc_cells.proofs.PartOf.{part_corners, part_corners_old, corners_fit, new_fit, one_of}
use Rattle.bc_cells.proofs.parts.corners_of_part.Goals as goal

pub points_toward-requires-clause-fits : goal.points_toward-requires-clause-fits
points_toward-requires-clause-fits g c =
    subst (λ cs. All g.S.Space.point_fits cs) (sym c.as_slice.ensures)
    (corners_fit _ _ g.met.S.Space.size g.met.S.Space.boxes.inner_fits c.args.earlier.now c.args.parent.now.inner c.args.parent.now.corners c.requires.sized c.requires.vertices)

pub returns-then-is_empty : goal.returns-then-is_empty
returns-then-is_empty g c =
    let count : length c.args.new.now ≡ 0 = search rules in
    part_corners_old g.S.Half.HalfSpace.side_of g.S.Space.met g.S.Space.dimension c.args.earlier.now c.args.parent.now.inner c.args.h.now c.args.side c.args.parent.now.corners c.args.new.now c.in_ok-corners.corners
    c.requires.vertices c.requires.new (nil_from_length c.args.new.now count)
    (subst (λ cs. Selects cs c.in_ok-corners.corners (λ p. Toward c.args.side (g.S.Half.HalfSpace.side_of c.args.h.now p))) c.as_slice.ensures c.in_ok-corners.ensures)

pub gather-requires-clause-fits : goal.gather-requires-clause-fits
gather-requires-clause-fits g c =
    new_fit g.met.S.Space.size g.met.S.Space.boxes.inner_fits (map (facing g.S.Half.HalfSpace.side_of c.args.parent.now.inner) c.args.earlier.now) c.args.h.now c.args.parent.now.corners c.args.new.now
    (subst (λ hs. All g.S.Space.half_fits hs) (sym (halves_facing _ _ g.S.Half.HalfSpace.side_of c.args.parent.now.inner c.args.earlier.now)) c.requires.sized) c.requires.half c.requires.new

pub returns : goal.returns
returns g c =
    let last : c.as_slice-2.result.now ≡ record { half = c.args.h.now; side = c.args.side } ∷ [] = one_of c.as_slice-2.result.now c.push.new.self c.new-last.result (record { half = c.args.h.now; side = c.args.side }) c.as_slice-2.ensures c.in_ok-push.ensures.ok c.new-last.ensures in
    part_corners g.S.Half.HalfSpace.side_of g.S.Space.met g.S.Space.dimension c.args.earlier.now c.args.parent.now.inner c.args.h.now c.args.side c.args.parent.now.corners c.args.new.now c.in_ok-corners.corners c.gather.new.kept c.as_slice-2.result.now
    c.requires.vertices c.requires.new last
    (subst (λ cs. Selects cs c.in_ok-corners.corners (λ p. Toward c.args.side (g.S.Half.HalfSpace.side_of c.args.h.now p))) c.as_slice.ensures c.in_ok-corners.ensures)
    c.in_ok-gather.ensures.gathers c.in_ok-gather.ensures.once
