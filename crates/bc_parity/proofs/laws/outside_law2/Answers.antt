use Rattle.bc_parity.proofs.laws.outside_law2.Goals as goal
use Rattle.bc_parity.proofs.Profiles as profiles

pub returns : goal.returns
returns c = profiles.outside c.args.s.now c.law.ensures
