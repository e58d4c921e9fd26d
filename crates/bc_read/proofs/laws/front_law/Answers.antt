use Rattle.bc_read.proofs.Continued.{front_goes_on}
use Rattle.bc_read.proofs.laws.front_law.Goals as goal

pub returns : goal.returns
returns c = front_goes_on
