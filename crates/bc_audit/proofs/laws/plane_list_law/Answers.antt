use Rattle.bc_audit.proofs.OnePlane.{one_list}
use Rattle.bc_audit.proofs.laws.plane_list_law.Goals as goal

pub returns : goal.returns
returns c = one_list
