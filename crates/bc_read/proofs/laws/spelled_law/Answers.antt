use Rattle.bc_read.proofs.Seen.{read_is_spelled}
use Rattle.bc_read.proofs.Spelled.{spelled_is_read}
use Rattle.bc_read.proofs.laws.spelled_law.Goals as goal

pub returns-clause-spelled : goal.returns-clause-spelled
returns-clause-spelled c = spelled_is_read

pub returns-clause-read : goal.returns-clause-read
returns-clause-read c = read_is_spelled
