use Rattle.bc_parity.proofs.laws.straight_cell_law.Goals as goal
use Rattle.bc_parity.proofs.Profiles as profiles

pub returns : goal.returns
returns c = profiles.straight_cells c.args.s.now c.law.ensures
