use Rattle.std.proofs.Common.{◌+◌, ◌∷◌, [], map, arith}
use Rattle.std.specs.List.{range_with_len}
use Rattle.bc_trial.specs.Texts.{row, side}
use Rattle.bc_trial.proofs.Rows.{pieces_more, map-range-next, side_line}
use Rattle.bc_trial.proofs.off.put_sides.Goals as goal

pub loop-k-preserved : goal.loop-k-preserved
loop-k-preserved c =
    let m = c.args.m in
    let k = c.loop-k.k in
    let old = c.loop-k.text.items in
    let new = c.put_row.new.text.items in
    pieces_more row c.args.text.now.items old new (map (side m) (range_with_len 0 k)) (side m k ∷ []) (map (side m) (range_with_len 0 (k + 1)))
    (map-range-next (side m) 0 k k (k + 1) (omega arith) (omega arith)) c.loop-k.invariant
    (side_line m k c.next-next.result old new c.next-next.ensures c.in_ok-put_row.ensures)
