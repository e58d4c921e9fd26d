-- The tokens of a whole text with their places, and what ends them; and that the tokens that come one after another are
-- these.
use Rattle.std.specs.Prelude.{◌≡◌, ℕ, ◌+◌, nat_eq, List, [], ◌∷◌, drop, Option, Some, None, Result, Ok, Err, if◌then◌else◌}
use Rattle.bc_num.specs.Tokens.{Piece, bad, free, item, piece, behind, cons, tokens_of}
use Rattle.bc_lex.specs.Places.{TokenPlace}
use Rattle.bc_lex.specs.Tokens.{AToken, kind_of, next_token, after_token, text_start}

-- a place in a text without the text
pub record Spot : Type 0 where
  pub at : ℕ
  pub line : ℕ
  pub nth : ℕ

-- the tokens, one after another, and then the end behind `nth` tokens, or bytes that begin none, with the line and the
-- number that the token would have
pub data Stream : Type 0 where
  ended : ℕ → Stream
  broken : ℕ → ℕ → Stream
  token : AToken → Stream → Stream

-- the place behind a byte
abbrev pub over : Spot → ℕ → Spot
over p b = record p { at = p.at + 1; line = if nat_eq b 10 then p.line + 1 else p.line }

-- the place behind the first byte of a piece
abbrev pub past : Piece → Spot → ℕ → Spot
past (item bs) p b = over (record p { nth = p.nth + 1 }) b
past _ p b = over p b

abbrev pub begin : Piece → Spot → ℕ → Stream → Stream
begin bad p b more = broken p.line (p.nth + 1)
begin (free bs) p b more = more
begin (item bs) p b more = token (record { line = p.line; nth = p.nth + 1; from = p.at; kind = kind_of b; text = b ∷ bs }) more

-- the tokens from a place on, of which the first list is a front that belongs to what came before; it is taken off byte by
-- byte, so that each step goes on with the rest of the text, which is what a definition by recursion must do
abbrev pub stream_behind : List ℕ → Spot → List ℕ → Stream
stream_behind taken p [] = ended p.nth
stream_behind (x ∷ taken) p (b ∷ bs) = stream_behind taken (over p b) bs
stream_behind [] p (b ∷ bs) = begin (piece b bs) p b (stream_behind (behind (piece b bs)) (past (piece b bs) p b) bs)

abbrev pub stream_from : Spot → List ℕ → Stream
stream_from p bs = stream_behind [] p bs

-- what is left at a place
abbrev pub tokens_left : TokenPlace → Stream
tokens_left p = stream_from (record { at = p.at; line = p.line; nth = p.nth }) (drop p.at p.text)

-- the tokens of a text
abbrev pub stream : List ℕ → Stream
stream text = stream_from (record { at = 0; line = 1; nth = 0 }) text

abbrev pub token_then : Result (Option AToken) (ℕ × ℕ) → ℕ → Stream → Stream
token_then (Ok None) nth rest = ended nth
token_then (Ok (Some t)) nth rest = token t rest
token_then (Err e) nth rest = broken e.0 e.1

-- the next token is the first that is left, and behind it the others are left
abbrev pub NextTokenIsFirst : Type 0
NextTokenIsFirst = (p : TokenPlace) → tokens_left p ≡ token_then (next_token p) p.nth (tokens_left (after_token p))

-- at the start of a text all its tokens are left
abbrev pub AllTokensAreLeft : Type 0
AllTokensAreLeft = (text : List ℕ) → tokens_left (text_start text) ≡ stream text

-- the tokens' bytes; none where the text is broken
abbrev pub texts : Stream → Option (List (List ℕ))
texts (ended nth) = Some []
texts (broken line nth) = None
texts (token t rest) = cons t.text (texts rest)

-- their bytes are the tokens of the text
abbrev pub StreamIsTokens : Type 0
StreamIsTokens = (text : List ℕ) → texts (stream text) ≡ tokens_of text
