use Rattle.bc_off.proofs.Kept.{read_are_meshes}
use Rattle.bc_off.proofs.laws.meshes_law.Goals as goal

pub returns : goal.returns
returns c = read_are_meshes
