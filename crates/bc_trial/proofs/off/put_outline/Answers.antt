use Rattle.std.proofs.Common.{◌+◌, ◌-◌, arith}
use Rattle.std.specs.List.{flat_map, range_with_len}
use Rattle.bc_trial.specs.Texts.{row, step}
use Rattle.bc_trial.proofs.Rows.{pieces_more, flat_map-range-next, step_lines}
use Rattle.bc_trial.proofs.off.put_outline.Goals as goal

pub loop-i-preserved : goal.loop-i-preserved
loop-i-preserved c =
    let i = c.loop-i.i in
    let steps = step c.args.y in
    let old = c.loop-i.text.items in
    let new = c.put_row-in-loop-i-2.new.text.items in
    pieces_more row c.put_row.new.text.items old new (flat_map steps (range_with_len 1 (i - 1))) (steps i) (flat_map steps (range_with_len 1 (i + 1 - 1)))
    (flat_map-range-next steps 1 (i - 1) i (i + 1 - 1) (omega (arith, c.loop-i.auto.i)) (omega (arith, c.loop-i.auto.i))) c.loop-i.invariant
    (step_lines c.args.y i old c.put_row-in-loop-i.new.text.items new c.in_ok-put_row-2.ensures c.in_ok-put_row-3.ensures)
