use Rattle.bc_solid.specs.HalfSpaces.{half_spaces}
use Rattle.bc_parity.specs.OnEdge.{is_on_any}
use Rattle.bc_parity.proofs.Loops.{found, missed, nowhere, past_end}
use Rattle.bc_parity.proofs.OnEdge.{on_answer, off_answer}
use Rattle.bc_parity.proofs.queries.on_edge2.Goals as goal

pub loop-i-preserved : goal.loop-i-preserved
loop-i-preserved c =
    missed c.args.s.now c.loop-i.i c.element.result c.args.p.now (is_on_any (half_spaces c.args.s.now) c.args.p.now) c.touches.result
    c.element.ensures.element c.touches.ensures c.if-touches.false c.loop-i.invariant

pub returns-then-touches : goal.returns-then-touches
returns-then-touches c =
    let e = found c.args.s.now c.loop-i.i c.element.result c.args.p.now (is_on_any (half_spaces c.args.s.now) c.args.p.now) c.touches.result
    c.element.ensures.element c.touches.ensures c.if-touches.true c.loop-i.invariant in
    record { on = on_answer (half_spaces c.args.s.now) c.args.p.now _ e; off = off_answer (half_spaces c.args.s.now) c.args.p.now _ e }

pub returns : goal.returns
returns c =
    let e = nowhere c.args.s.now c.loop-i.i c.args.p.now (is_on_any (half_spaces c.args.s.now) c.args.p.now)
    (past_end c.args.s.now c.elements-i-end.result c.loop-i.i c.elements-i-end.ensures.count c.loop-i-test.false) c.loop-i.invariant in
    record { on = on_answer (half_spaces c.args.s.now) c.args.p.now _ e; off = off_answer (half_spaces c.args.s.now) c.args.p.now _ e }
