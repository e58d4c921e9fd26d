use Rattle.std.proofs.Common.{◌≡◌, ◌≤◌, length, vec_len, rules, sym, ap, ◌∙◌, arith}
use Rattle.bc_cover.specs.Masks.{without_bit}
use Rattle.bc_notes.proofs.Stepping.{steps_kept, steps_as}
use Rattle.bc_notes.proofs.Letting.{only_bit}
use Rattle.bc_notes.proofs.outs.improve.Goals as goal
use Rattle.bc_notes.proofs.outs.improve.Goals.{else-take_out-eq0-via-then-take_out-eq0+else-i-len, else-take_out-eq0-via-else-take_out-eq0}

pub returns-then-i-len-clause-each : goal.returns-then-i-len-clause-each
returns-then-i-len-clause-each c =
    let word = c.args.missing in
    let i = c.lowest_bit-i.result in
    steps_as (λ j. j ≡ i) (λ j. (c.args.other ≡ 0) × (without_bit word j ≡ 0)) c.args.spot.now c.args.bests.now.items c.improve_at.new.bests.items
    (λ j e. (c.if-other-ne0.false, ap (without_bit word) e ∙ (sym c.take_out.ensures ∙ c.if-take_out-eq0.true)))
    (λ j w. only_bit word i j c.lowest_bit-i.ensures.here w.1)
    c.improve_at.ensures.each

pub returns-else-take_out-eq0-clause-each : goal.returns-else-take_out-eq0-clause-each
returns-else-take_out-eq0-clause-each c =
    let word = c.args.missing in
    let i = c.lowest_bit-i.result in
    steps_kept (λ j. (c.args.other ≡ 0) × (without_bit word j ≡ 0)) c.args.spot.now c.args.bests.now.items
    (λ j l will.
    let e : j ≡ c.lowest_bit-i.result = only_bit word i j c.lowest_bit-i.ensures.here will.1 in
    elim c.else-take_out-eq0.branch [
      | else-take_out-eq0-via-then-take_out-eq0+else-i-len w ↦
          let len : w.len.result ≡ vec_len c.args.bests.now = w.len.ensures in
          let count : length c.args.bests.now.items ≡ vec_len c.args.bests.now = search rules in
          let past : w.len.result ≤ c.lowest_bit-i.result = w.if-i-len.false in
          absurd (omega (arith, e, l, len, past, count))
      | else-take_out-eq0-via-else-take_out-eq0 w ↦ absurd (w.if-take_out-eq0.false (c.take_out.ensures ∙ (ap (without_bit word) (sym e) ∙ will.1)))
    ])
