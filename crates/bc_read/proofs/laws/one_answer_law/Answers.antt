use Rattle.bc_read.proofs.Seen.{has_tree_or_fault}
use Rattle.bc_read.proofs.Spelled.{fault_spells_none, has_one_fault}
use Rattle.bc_read.proofs.laws.one_answer_law.Goals as goal

pub returns-clause-either : goal.returns-clause-either
returns-clause-either c = has_tree_or_fault

pub returns-clause-both : goal.returns-clause-both
returns-clause-both c = fault_spells_none

pub returns-clause-fault : goal.returns-clause-fault
returns-clause-fault c = has_one_fault
