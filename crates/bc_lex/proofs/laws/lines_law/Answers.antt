use Rattle.bc_lex.proofs.Nexts.{next_line_is_first}
use Rattle.bc_lex.proofs.laws.lines_law.Goals as goal

pub returns : goal.returns
returns c = next_line_is_first
