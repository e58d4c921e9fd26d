use Rattle.bc_num.proofs.NumberFronts.{front_is_number, front_is_longest}
use Rattle.bc_num.proofs.laws.front_law.Goals as goal

pub returns : goal.returns
returns c = record { number = front_is_number; longest = front_is_longest }
