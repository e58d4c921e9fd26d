-- The gap at the front of some bytes, as far as it was counted.
use Rattle.std.proofs.Common.{ℕ, ◌+◌, suc, List}
use Rattle.bc_lex.specs.Tokens.{free_length, free_behind_slash, free_in_comment}
use Rattle.bc_lex.specs.declared.tokens.Inside.{Inside}
use Rattle.bc_lex.specs.declared.tokens.Inside.TheVariants.{Nothing, Slash, Comment}

-- the whole gap, where n bytes of it came, and the bytes bs are left
abbrev pub free_with : ℕ → Inside → List ℕ → ℕ
free_with n Nothing bs = n + free_length bs
free_with n Slash bs = n + free_behind_slash bs
free_with n Comment bs = n + free_in_comment bs

-- how many bytes came
abbrev pub came : ℕ → Inside → ℕ
came n Nothing = n
came n Slash = suc n
came n Comment = n
