use Rattle.bc_pair.proofs.Unique.{one_split, no_split}
use Rattle.bc_pair.proofs.laws.split_law.Goals as goal

pub returns-clause-one : goal.returns-clause-one
returns-clause-one c = one_split

pub returns-clause-none : goal.returns-clause-none
returns-clause-none c = no_split
