use Rattle.bc_read.proofs.Upgrades.{flat_is_said, upgrade_keeps, upgrade_twice}
use Rattle.bc_read.proofs.laws.upgrade_law.Goals as goal

pub returns-clause-flat : goal.returns-clause-flat
returns-clause-flat c = flat_is_said

pub returns-clause-keeps : goal.returns-clause-keeps
returns-clause-keeps c = upgrade_keeps

pub returns-clause-twice : goal.returns-clause-twice
returns-clause-twice c = upgrade_twice
