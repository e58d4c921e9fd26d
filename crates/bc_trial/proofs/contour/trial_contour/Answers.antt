use Rattle.std.proofs.Common.{◌≡◌, ◌+◌, ℕ, List, ◌++◌, arith, ap, ◌∙◌}
use Rattle.std.specs.Prelude.{codes}
use Rattle.std.specs.List.{flat_map, range_with_len}
use Rattle.bc_trial.specs.Texts.{rectangle, hole, ended}
use Rattle.bc_trial.proofs.Rows.{pieces_more, flat_map-range-next, plate_text}
use Rattle.bc_trial.proofs.contour.trial_contour.Goals as goal

pub loop-i-preserved : goal.loop-i-preserved
loop-i-preserved c =
    let i = c.loop-i.i in
    pieces_more ended (flat_map ended (rectangle c.args.n)) c.loop-i.text.items c.put_hole.new.text.items (flat_map hole (range_with_len 0 i)) (hole i) (flat_map hole (range_with_len 0 (i + 1)))
    (flat_map-range-next hole 0 i i (i + 1) (omega arith) (omega arith)) c.loop-i.invariant c.in_ok-put_hole.ensures

pub returns : goal.returns
returns c =
    let n = c.args.n in
    let holes : ℕ → List ℕ = λ k. flat_map ended (rectangle n) ++ flat_map ended (flat_map hole (range_with_len 0 k)) in
    let all : c.loop-i.i ≡ n = omega (arith, c.loop-i.auto.i-end, c.loop-i-test.false) in
    plate_text (rectangle n) (flat_map hole (range_with_len 0 n)) c.from_vec.result
    (c.from_vec.ensures ∙ c.in_ok-put.ensures ∙ ap (λ (t : List ℕ). t ++ codes "M30\n") (c.loop-i.invariant ∙ ap holes all))
