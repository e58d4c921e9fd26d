use Rattle.bc_natural.proofs.Gathering.{adds_disc, sized_disc}
use Rattle.bc_natural.proofs.gather_curves.note_disc.Goals as goal

pub returns-clause-disc : goal.returns-clause-disc
returns-clause-disc c =
    adds_disc c.add_disc.result c.args.a c.args.c c.disc_round.result c.args.table.now c.add_disc.new.self c.disc_round.ensures.centre c.disc_round.ensures.radius
    c.add_disc.ensures.lines c.add_disc.ensures.discs

pub returns-clause-sized : goal.returns-clause-sized
returns-clause-sized c =
    sized_disc c.add_disc.result c.args.table.now c.add_disc.new.self c.disc_round.result c.requires.sized c.disc_round.ensures.sized
    c.add_disc.ensures.lines c.add_disc.ensures.discs
