use Rattle.bc_audit.proofs.Outcomes.{one_box, one_outcome}
use Rattle.bc_audit.proofs.laws.outcome_law.Goals as goal

pub returns-clause-one_box : goal.returns-clause-one_box
returns-clause-one_box c = one_box

pub returns-clause-one_outcome : goal.returns-clause-one_outcome
returns-clause-one_outcome c = one_outcome
