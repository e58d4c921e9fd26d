use Rattle.bc_parity.proofs.laws.cell_law3.Goals as goal
use Rattle.bc_parity.proofs.Meshes as meshes

pub returns : goal.returns
returns c = meshes.cells c.args.s.now c.law.ensures
