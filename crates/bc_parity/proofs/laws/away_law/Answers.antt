use Rattle.bc_parity.proofs.laws.away_law.Goals as goal
use Rattle.bc_parity.proofs.Profiles as profiles

pub returns : goal.returns
returns c = profiles.away c.args.s.now c.law.ensures
