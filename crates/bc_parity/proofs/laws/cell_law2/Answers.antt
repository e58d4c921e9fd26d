use Rattle.bc_parity.proofs.laws.cell_law2.Goals as goal
use Rattle.bc_parity.proofs.Profiles as profiles

pub returns : goal.returns
returns c = profiles.cells c.args.s.now c.law.ensures
