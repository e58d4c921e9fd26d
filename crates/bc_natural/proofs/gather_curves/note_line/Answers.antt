use Rattle.bc_natural.proofs.Gathering.{adds_line, sized_line, differ}
use Rattle.bc_natural.proofs.gather_curves.note_line.Goals as goal

pub returns-in-Some-clause-line : goal.returns-in-Some-clause-line
returns-in-Some-clause-line c =
    adds_line c.add_line.result c.args.a c.args.b c.in-Some.line c.args.table.now c.add_line.new.self
    (differ c.args.a c.args.b (λ e. let f = c.in-Some.ensures.none.1 e in cc)) c.in-Some.ensures.line c.add_line.ensures.lines c.add_line.ensures.discs

pub returns-in-Some-clause-sized : goal.returns-in-Some-clause-sized
returns-in-Some-clause-sized c =
    sized_line c.add_line.result c.args.table.now c.add_line.new.self c.in-Some.line c.args.a c.requires.sized c.in-Some.ensures.sized c.requires.a_near
    c.add_line.ensures.lines c.add_line.ensures.discs
