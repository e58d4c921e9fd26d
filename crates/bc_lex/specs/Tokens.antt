-- What the next token at a place of a CSG text is, and the place behind it.
use Rattle.std.specs.Prelude.{ℕ, suc, ◌+◌, ◌≤◌, Bool, nat_eq, List, [], ◌∷◌, length, take, drop, Option, Some, None, Result, Ok, Err, if◌then◌else◌}
use Rattle.bc_num.specs.Lines.{is_line_end}
use Rattle.bc_num.specs.Tokens.{is_letter, is_mark, is_blank, Piece, bad, free, item, piece}
use Rattle.bc_lex.specs.declared.gwords.BadAt.{BadAt}
use Rattle.bc_lex.specs.Places.{TokenPlace}
use Rattle.bc_lex.specs.declared.tokens.Kind.{Kind}
use Rattle.bc_lex.specs.declared.tokens.Kind.TheVariants.{Name, Number, Mark}
use Rattle.bc_lex.specs.declared.tokens.Front.{Front}
use Rattle.bc_lex.specs.declared.tokens.Front.TheVariants.{Nothing, Bad, Item}
use Rattle.bc_lex.specs.declared.tokens.Token.{Token}

-- `/`
abbrev pub is_slash : ℕ → Bool
is_slash b = nat_eq b 47

-- how many bytes of blanks and comments stand at the front: from the first byte on, behind a `/`, and inside a comment
abbrev mutual
  pub free_length : List ℕ → ℕ
  free_length [] = 0
  free_length (b ∷ bs) = if is_blank b then suc (free_length bs) else (if is_slash b then free_behind_slash bs else 0)

  pub free_behind_slash : List ℕ → ℕ
  free_behind_slash [] = 0
  free_behind_slash (b ∷ bs) = if is_slash b then suc (suc (free_in_comment bs)) else 0

  pub free_in_comment : List ℕ → ℕ
  free_in_comment [] = 0
  free_in_comment (b ∷ bs) = if is_line_end b then suc (free_length bs) else suc (free_in_comment bs)

-- how many lines end in some bytes
abbrev pub line_ends : List ℕ → ℕ
line_ends [] = 0
line_ends (b ∷ bs) = if is_line_end b then suc (line_ends bs) else line_ends bs

-- the kind of a token whose first byte is b
abbrev pub kind_of : ℕ → Kind
kind_of b = if is_letter b then Name else (if is_mark b then Mark else Number)

abbrev pub seen_as : Piece → ℕ → Front
seen_as bad b = Bad
seen_as (free bs) b = Bad
seen_as (item bs) b = Item (kind_of b) (suc (length bs))

-- what stands at the front of bytes that no gap begins: nothing, bytes that begin no token, or a token by its kind and length
abbrev pub found : List ℕ → Front
found [] = Nothing
found (b ∷ bs) = seen_as (piece b bs) b

-- what was found is within the bytes
abbrev pub FitsIn : Front → List ℕ → Type 0
FitsIn Nothing bytes = Unit {0}
FitsIn Bad bytes = 1 ≤ length bytes
FitsIn (Item k n) bytes = (1 ≤ n) × (n ≤ length bytes)

-- a token with its places: its line, its number in the text, and where it begins there
pub record AToken : Type 0 where
  pub line : ℕ
  pub nth : ℕ
  pub from : ℕ
  pub kind : Kind
  pub text : List ℕ

-- where the next token begins, and its line
abbrev pub start : TokenPlace → ℕ
start p = p.at + free_length (drop p.at p.text)

abbrev pub start_line : TokenPlace → ℕ
start_line p = p.line + line_ends (take (free_length (drop p.at p.text)) (drop p.at p.text))

abbrev pub next_at : TokenPlace → Front → Result (Option AToken) (ℕ × ℕ)
next_at p Nothing = Ok None
next_at p Bad = Err (start_line p, p.nth + 1)
next_at p (Item k n) = Ok (Some (record { line = start_line p; nth = p.nth + 1; from = start p; kind = k; text = take n (drop (start p) p.text) }))

-- the next token; none at the end of the text; the line and the token's number where the bytes begin no token
abbrev pub next_token : TokenPlace → Result (Option AToken) (ℕ × ℕ)
next_token p = next_at p (found (drop (start p) p.text))

abbrev pub after_at : TokenPlace → Front → TokenPlace
after_at p (Item k n) = record { text = p.text; at = start p + n; line = start_line p; nth = p.nth + 1 }
after_at p _ = p

-- the place behind the next token
abbrev pub after_token : TokenPlace → TokenPlace
after_token p = after_at p (found (drop (start p) p.text))

-- the place before a text's first token
abbrev pub text_start : List ℕ → TokenPlace
text_start text = record { text = text; at = 0; line = 1; nth = 0 }

abbrev pub atoken : Token → AToken
atoken t = record { line = t.line; nth = t.nth; from = t.from; kind = t.kind; text = t.text.now }

-- an answer of `next`
abbrev pub seen : Result (Option Token) BadAt → Result (Option AToken) (ℕ × ℕ)
seen (Ok None) = Ok None
seen (Ok (Some t)) = Ok (Some (atoken t))
seen (Err e) = Err (e.line, e.nth)
