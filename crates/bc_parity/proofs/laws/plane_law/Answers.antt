use Rattle.bc_parity.proofs.laws.plane_law.Goals as goal
use Rattle.bc_parity.proofs.Planes as planes

pub returns : goal.returns
returns c = planes.plane_law c.args.s.now
