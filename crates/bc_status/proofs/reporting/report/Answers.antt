use Rattle.std.proofs.Common.{subst, rules}
use Rattle.bc_io.proofs.Grown.{all_put}
use Rattle.bc_status.specs.Reports.{line, Notes}
use Rattle.bc_status.proofs.Noted.{noted}
use Rattle.bc_status.proofs.reporting.report.Goals as goal

pub returns : goal.returns
returns g c =
    let whole = all_put c.new-pen.result c.put_line.new.pen c.finish.new.self c.args.notes.now (line c.args.status.now) c.finish.result c.new-pen.ensures.fresh c.put_line.ensures c.finish.ensures.text in
    let written = noted c.args.status.now _ _ c.finish.result _ _ whole.0 whole.1 in
    subst (λ k. Notes c.args.status.now (g.E.Sink.held c.args.notes.now) (g.E.Sink.held k) (g.E.Sink.faults c.args.notes.now) (g.E.Sink.faults k)) (search rules) written
