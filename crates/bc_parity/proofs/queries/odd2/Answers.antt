use Rattle.std.proofs.Common.{sym, ◌∙◌}
use Rattle.bc_parity.specs.Parity.{is_odd}
use Rattle.bc_parity.specs.Sums.{odd}
use Rattle.bc_parity.specs.Odd.{crossings_of}
use Rattle.bc_parity.proofs.Cells.{odd_in}
use Rattle.bc_parity.proofs.Loops.{counted, one_more, past_end}
use Rattle.bc_parity.proofs.queries.odd2.Goals as goal

pub loop-i-preserved : goal.loop-i-preserved
loop-i-preserved c =
    one_more (λ e. is_odd (crossings_of e c.args.p.now)) c.loop-i.odd c.exactly_one-odd.result c.crosses_oddly.result (odd (λ e. is_odd (crossings_of e c.args.p.now)) c.args.s.now) c.args.s.now c.loop-i.i c.element.result
    c.element.ensures.element c.crosses_oddly.ensures c.exactly_one-odd.ensures c.loop-i.invariant

pub returns : goal.returns
returns c =
    counted (λ e. is_odd (crossings_of e c.args.p.now)) c.loop-i.odd (odd (λ e. is_odd (crossings_of e c.args.p.now)) c.args.s.now) c.args.s.now c.loop-i.i
    (past_end c.args.s.now c.elements-i-end.result c.loop-i.i c.elements-i-end.ensures.count c.loop-i-test.false) c.loop-i.invariant
    ∙ sym (odd_in c.args.s.now c.args.p.now)
