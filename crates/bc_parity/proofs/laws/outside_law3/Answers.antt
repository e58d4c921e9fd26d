use Rattle.bc_parity.proofs.laws.outside_law3.Goals as goal
use Rattle.bc_parity.proofs.Meshes as meshes

pub returns : goal.returns
returns c = meshes.outsides c.args.s.now c.law.ensures
