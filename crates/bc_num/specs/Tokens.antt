-- The tokens of CSG text, after the OpenSCAD language: names, numbers and marks. Blanks and comments are free between them.
use Rattle.std.specs.Prelude.{ℕ, Bool, not, ◌&&◌, ◌||◌, nat_eq, nat_le, List, [], ◌∷◌, Option, Some, None, if◌then◌else◌}

abbrev pub is_digit : ℕ → Bool
is_digit b = nat_le 48 b && nat_le b 57

abbrev pub is_letter : ℕ → Bool
is_letter b = (nat_le 65 b && nat_le b 90) || (nat_le 97 b && nat_le b 122)

-- a letter, a digit or `_`
abbrev pub is_word : ℕ → Bool
is_word b = is_letter b || (is_digit b || nat_eq b 95)

-- space, tab, CR and LF
abbrev pub is_blank : ℕ → Bool
is_blank b = nat_eq b 32 || (nat_eq b 9 || (nat_eq b 13 || nat_eq b 10))

-- ( ) { } [ ] , ; =
abbrev pub is_mark : ℕ → Bool
is_mark b = nat_eq b 40 || (nat_eq b 41 || (nat_eq b 123 || (nat_eq b 125 || (nat_eq b 91 || (nat_eq b 93 || (nat_eq b 44 || (nat_eq b 59 || nat_eq b 61)))))))

-- no LF
abbrev pub is_inline : ℕ → Bool
is_inline b = not (nat_eq b 10)

-- the longest front of the bytes of which each one passes
abbrev pub front : (ℕ → Bool) → List ℕ → List ℕ
front test [] = []
front test (b ∷ bs) = if test b then b ∷ front test bs else []

-- what begins at a byte: nothing that is allowed, something free, or a token;
-- the list is what belongs to it behind that byte
pub data Piece : Type 0 where
  bad : Piece
  free : List ℕ → Piece
  item : List ℕ → Piece

-- behind `-` there is a digit
abbrev pub after_minus : List ℕ → Piece
after_minus [] = bad
after_minus (d ∷ ds) = item (d ∷ ds)

-- behind `/` there is another one, and the comment goes on to the end of the line
abbrev pub after_slash : List ℕ → Piece
after_slash [] = bad
after_slash (b ∷ bs) = if nat_eq b 47 then free (b ∷ front is_inline bs) else bad

-- what begins at b, which is no digit
abbrev pub no_digit : ℕ → List ℕ → Piece
no_digit b bs =
    if nat_eq b 45 then after_minus (front is_digit bs)
    else (if is_letter b then item (front is_word bs)
    else (if is_mark b then item []
    else (if is_blank b then free []
    else (if nat_eq b 47 then after_slash bs
    else bad))))

-- what begins at b, which stands before bs
abbrev pub piece : ℕ → List ℕ → Piece
piece b bs = if is_digit b then item (front is_digit bs) else no_digit b bs

abbrev pub behind : Piece → List ℕ
behind bad = []
behind (free bs) = bs
behind (item bs) = bs

-- one token more in front
abbrev pub cons : List ℕ → Option (List (List ℕ)) → Option (List (List ℕ))
cons t None = None
cons t (Some ts) = Some (t ∷ ts)

-- the tokens of a text whose first byte is b: what begins there, and the tokens behind it
abbrev pub put_piece : Piece → ℕ → Option (List (List ℕ)) → Option (List (List ℕ))
put_piece bad b more = None
put_piece (free bs) b more = more
put_piece (item bs) b more = cons (b ∷ bs) more

-- the tokens of a text, of which the first list is a front that belongs to what came before. That front is taken off byte
-- by byte, so that each step goes on with the rest of the list, which is what a definition by recursion must do
abbrev pub tokens_behind : List ℕ → List ℕ → Option (List (List ℕ))
tokens_behind taken [] = Some []
tokens_behind (x ∷ taken) (b ∷ bs) = tokens_behind taken bs
tokens_behind [] (b ∷ bs) = put_piece (piece b bs) b (tokens_behind (behind (piece b bs)) bs)

-- the tokens of a text, each the longest that stands at its place; none where a byte begins no token
abbrev pub tokens_of : List ℕ → Option (List (List ℕ))
tokens_of bs = tokens_behind [] bs
