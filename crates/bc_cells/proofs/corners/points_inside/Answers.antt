use Rattle.std.proofs.Common.{◌≡◌, ◌∙◌, length, map, rules}
use Rattle.std.proofs.lemmas.List.{nil_from_length}
use Rattle.bc_cells.specs.Constraints.{IsInClosure, facing}
use Rattle.bc_cells.proofs.Gather.{none_kept}
use Rattle.bc_cells.proofs.PartOf.{facing_sized, inside_gathered}
use Rattle.bc_cells.proofs.corners.points_inside.Goals as goal

pub returns-then-is_empty : goal.returns-then-is_empty
returns-then-is_empty g c =
    let count : length c.args.points.now ≡ 0 = search rules in
    none_kept c.args.points.now c.new-kept.result (λ p. IsInClosure {S = g.row.S.Denot} {B = g.row.S-Bounds.Denot} g.S.Half.HalfSpace.side_of (map (facing g.S.Half.HalfSpace.side_of c.args.q.now) c.args.halves.now) p)
    (nil_from_length c.args.points.now count) c.new-kept.ensures

pub gather-requires-clause-sized : goal.gather-requires-clause-sized
gather-requires-clause-sized g c = facing_sized g.S.Space.half_fits g.S.Half.HalfSpace.side_of c.args.q.now c.args.halves.now c.as_slice.result.now (c.as_slice.ensures ∙ c.in_ok-constraints.ensures) c.requires.sized

pub returns : goal.returns
returns g c =
    inside_gathered g.S.Half.HalfSpace.side_of c.as_slice.result.now (map (facing g.S.Half.HalfSpace.side_of c.args.q.now) c.args.halves.now) c.args.points.now c.new-kept.result c.gather.new.kept (c.as_slice.ensures ∙ c.in_ok-constraints.ensures) c.new-kept.ensures c.in_ok-gather.ensures.gathers
