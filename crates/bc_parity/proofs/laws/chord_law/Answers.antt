use Rattle.bc_parity.proofs.laws.chord_law.Goals as goal
use Rattle.bc_parity.proofs.Chords as chords

pub returns : goal.returns
returns c = chords.chord_law c.args.a c.args.b c.args.c c.args.ccw c.requires
