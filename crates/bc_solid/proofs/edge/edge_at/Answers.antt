use Rattle.std.proofs.Common.{ap, ◌∙◌, sym, get_or}
use Rattle.std.specs.Prelude.{Some}
use Rattle.bc_solid.specs.Meshes.{origin3}
use Rattle.bc_solid.proofs.Rounds.{next_edge, last_edge}
use Rattle.bc_solid.proofs.edge.edge_at.Goals as goal
use Rattle.bc_solid.proofs.edge.edge_at.Goals.{then-place-corners, else-place-corners}

pub returns : goal.returns
returns c =
    elim c.if-place-corners.branch [
      | then-place-corners w ↦
          next_edge c.args.corners.now origin3 c.args.place w.if-place-corners.true
          ∙ ap (λ j. Some (record { from = get_or c.args.corners.now c.args.place origin3; to = get_or c.args.corners.now j origin3 })) (sym w.next-is)
      | else-place-corners w ↦
          last_edge c.args.corners.now origin3 c.args.place c.requires w.if-place-corners.false
          ∙ ap (λ j. Some (record { from = get_or c.args.corners.now c.args.place origin3; to = get_or c.args.corners.now j origin3 })) (sym w.next-is)
    ]
