-- Where the tokens of a text stand: in order, without overlap, and what stands between them.
use Rattle.std.specs.Prelude.{◌≡◌, ℕ, ◌+◌, Bool, true, false, ◌&&◌, List, [], ◌∷◌, ◌++◌, length, drop, Some, None, Ok, Err, if◌then◌else◌, codes}
use Rattle.bc_num.specs.Lines.{is_line_end}
use Rattle.bc_num.specs.Tokens.{is_blank, bad, piece, tokens_of}
use Rattle.bc_lex.specs.Places.{TokenPlace}
use Rattle.bc_lex.specs.Tokens.{AToken, is_slash, line_ends, next_token, after_token}

-- blanks and comments alone, each comment with the line end behind it: from the first byte on, behind a `/`, and inside a
-- comment
abbrev mutual
  pub is_free : List ℕ → Bool
  is_free [] = true
  is_free (b ∷ bs) = if is_blank b then is_free bs else (is_slash b && is_free_behind_slash bs)

  pub is_free_behind_slash : List ℕ → Bool
  is_free_behind_slash [] = false
  is_free_behind_slash (b ∷ bs) = is_slash b && is_free_in_comment bs

  pub is_free_in_comment : List ℕ → Bool
  is_free_in_comment [] = false
  is_free_in_comment (b ∷ bs) = if is_line_end b then is_free bs else is_free_in_comment bs

-- from p on the text has blanks and comments, the token, which begins at `from`, and what the place behind has
pub record TokenStands (p : TokenPlace) (t : AToken) : Type 0 where
  pub before : List ℕ
  pub bytes : drop p.at p.text ≡ before ++ (t.text ++ drop (after_token p).at p.text)
  pub is_before : is_free before ≡ true
  pub is_token : tokens_of t.text ≡ Some (t.text ∷ [])
  pub from : t.from ≡ p.at + length before
  pub behind : (after_token p).at ≡ t.from + length t.text
  pub line : t.line ≡ p.line + line_ends before
  pub nth : t.nth ≡ p.nth + 1
  pub line_behind : (after_token p).line ≡ t.line
  pub nth_behind : (after_token p).nth ≡ t.nth
  pub text : (after_token p).text ≡ p.text

abbrev pub TokensStandInOrder : Type 0
TokensStandInOrder = (p : TokenPlace) (t : AToken) → next_token p ≡ Ok (Some t) → TokenStands p t

-- no token comes exactly where blanks and comments alone are left, the last of which may lack its line end
abbrev pub TokensEnd : Type 0
TokensEnd = (p : TokenPlace) → next_token p ≡ Ok None → is_free (drop p.at p.text ++ codes "\n") ≡ true

-- from p on the text has blanks and comments, and bytes that begin no token
pub record TokensBreakAt (p : TokenPlace) (e : ℕ × ℕ) : Type 0 where
  pub before : List ℕ
  pub byte : ℕ
  pub rest : List ℕ
  pub bytes : drop p.at p.text ≡ before ++ byte ∷ rest
  pub is_before : is_free before ≡ true
  pub is_no_token : piece byte rest ≡ bad
  pub line : e.0 ≡ p.line + line_ends before
  pub nth : e.1 ≡ p.nth + 1

abbrev pub TokensBreak : Type 0
TokensBreak = (p : TokenPlace) (e : ℕ × ℕ) → next_token p ≡ Err e → TokensBreakAt p e

-- bytes that begin no token are answered again
abbrev pub TokensBreakAgain : Type 0
TokensBreakAgain = (p : TokenPlace) (e : ℕ × ℕ) → next_token p ≡ Err e → next_token (after_token p) ≡ Err e
