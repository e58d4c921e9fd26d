use Rattle.std.proofs.Common.{◌≡◌, ◌<◌, length, get_or, ap, ◌∙◌, sym, subst, arith}
use Rattle.bc_num.specs.Sizes.{IsLargePoint3}
use Rattle.bc_cells.specs.Cells.{Cell3}
use Rattle.bc_classify.proofs.CellWalks.{cell_inside, cell_outside}
use Rattle.bc_classify.proofs.classify_cells.classify3.Goals as goal
use Rattle.bc_classify.proofs.classify_cells.classify3.Goals.{then-odd3+in_ok-push, else-odd3+in_ok-push-2}

pub odd3-requires : goal.odd3-requires
odd3-requires c =
    let i = c.loop-cell.cell-index in
    let k = c.cell-item.result in
    let within : i < length c.args.cells.now = omega (arith, ap length c.as_slice-cell-items.ensures) in
    let at : k ≡ get_or c.args.cells.now i k = c.cell-item.is ∙ ap (λ cs. get_or cs i k) c.as_slice-cell-items.ensures in
    subst (λ (z : Cell3). IsLargePoint3 z.inner) (sym at) (c.requires i k within)

pub loop-cell-preserved : goal.loop-cell-preserved
loop-cell-preserved c =
    let i = c.loop-cell.cell-index in
    let k = c.cell-item.result in
    let within : i < length c.args.cells.now = omega (arith, ap length c.as_slice-cell-items.ensures) in
    let at : k ≡ get_or c.args.cells.now i k = c.cell-item.is ∙ ap (λ cs. get_or cs i k) c.as_slice-cell-items.ensures in
    elim c.if-odd3.branch [
      | then-odd3+in_ok-push w ↦
          cell_inside c.args.s.now c.args.cells.now i k within at (record { inside = c.loop-cell.inside; outside = c.loop-cell.outside }) (record { inside = c.if-odd3.inside; outside = c.if-odd3.outside }) c.loop-cell.invariant
          (sym c.odd3.ensures ∙ w.if-odd3.true) (w.inside-is ∙ w.in_ok-push.ensures.ok) w.outside-is
      | else-odd3+in_ok-push-2 w ↦
          cell_outside c.args.s.now c.args.cells.now i k within at (record { inside = c.loop-cell.inside; outside = c.loop-cell.outside }) (record { inside = c.if-odd3.inside; outside = c.if-odd3.outside }) c.loop-cell.invariant
          (sym c.odd3.ensures ∙ w.if-odd3.false) w.inside-is (w.outside-is ∙ w.in_ok-push-2.ensures.ok)
    ]
