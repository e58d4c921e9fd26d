use Rattle.bc_lex.proofs.TokenStreams.{next_token_is_first, stream_is_tokens}
use Rattle.bc_lex.proofs.laws.tokens_law.Goals as goal

pub returns-clause-next : goal.returns-clause-next
returns-clause-next c = next_token_is_first

pub returns-clause-texts : goal.returns-clause-texts
returns-clause-texts c = stream_is_tokens
