-- A walk over the lines of a text up to its first separator.
use Rattle.std.proofs.Common.{◌≡◌, ◌⊎◌, ℕ, ◌+◌, ◌≤◌, Bool, true, false, not, ◌&&◌, List, [], ◌∷◌, ◌++◌, length, take, drop, Some, None, if◌then◌else◌, refl, sym, ap, ◌∙◌, subst, inl, inr, arith, append_assoc}
use Rattle.std.specs.List.{All}
use Rattle.std.proofs.lemmas.List.{take-append-drop, length-append, length-take, length-drop, append-nil}
use Rattle.std.proofs.lemmas.List.Elements.{All-nil, All-push}
use Rattle.std.proofs.Math.Seq.{take-append-add}
use Rattle.bc_num.specs.Lines.{lines, is_line_end, put_before}
use Rattle.bc_lex.specs.Places.{LinePlace}
use Rattle.bc_lex.specs.Lines.{ALine, next_line, after_line, line_in}
use Rattle.bc_lex.specs.Left.{lines_left, line_then}
use Rattle.bc_lex.specs.Order.{is_one_line, LineStands, IsLineEnd}
use Rattle.bc_lex.proofs.Nexts.{next_line_is_first}
use Rattle.bc_lex.proofs.Orders.{lines_stand_in_order}
use Rattle.bc_pair.specs.Parts.{is_separator, HasNoSeparator, EndsLine, IsBehindLine, ArePartsOf}

-- ---- the lines of two texts, one behind the other

pub by_end : (b : ℕ) → (is_line_end b ≡ true) ⊎ (is_line_end b ≡ false)
by_end b = cases (is_line_end b)
  where
    cases : (t : Bool) → (t ≡ true) ⊎ (t ≡ false)
    cases true = inl refl
    cases false = inr refl

pub at_end : (b : ℕ) (bs : List ℕ) → is_line_end b ≡ true → lines (b ∷ bs) ≡ [] ∷ lines bs
at_end b bs h = ap (λ t. if t then [] ∷ lines bs else put_before b (lines bs)) h

pub no_end : (b : ℕ) (bs : List ℕ) → is_line_end b ≡ false → lines (b ∷ bs) ≡ put_before b (lines bs)
no_end b bs h = ap (λ t. if t then [] ∷ lines bs else put_before b (lines bs)) h

-- a whole line has a first line
pub some_line : (front : List ℕ) → (l : List ℕ) × (ls : List (List ℕ)) × (lines (front ++ 10 ∷ []) ≡ l ∷ ls)
some_line [] = ([], [], refl)
some_line (b ∷ bs) =
    elim (by_end b) [
      | inl t ↦ ([], lines (bs ++ 10 ∷ []), at_end b (bs ++ 10 ∷ []) t)
      | inr f ↦ let r = some_line bs in (b ∷ r.0, r.1, no_end b (bs ++ 10 ∷ []) f ∙ ap (put_before b) r.2)
    ]

before_joined : (b : ℕ) (ks ms : List (List ℕ)) (l : List ℕ) (ls : List (List ℕ)) → ks ≡ l ∷ ls → put_before b (ks ++ ms) ≡ put_before b ks ++ ms
before_joined b ks ms l ls e = rw e refl

joined_at : (front ys : List ℕ) → lines ((front ++ 10 ∷ []) ++ ys) ≡ lines (front ++ 10 ∷ []) ++ lines ys
joined_at [] ys = refl
joined_at (b ∷ bs) ys =
    elim (by_end b) [
      | inl t ↦ at_end b ((bs ++ 10 ∷ []) ++ ys) t ∙ ap (λ ls. [] ∷ ls) (joined_at bs ys) ∙ ap (λ ls. ls ++ lines ys) (sym (at_end b (bs ++ 10 ∷ []) t))
      | inr f ↦
          let r = some_line bs in
          no_end b ((bs ++ 10 ∷ []) ++ ys) f ∙ ap (put_before b) (joined_at bs ys) ∙ before_joined b (lines (bs ++ 10 ∷ [])) (lines ys) r.0 r.1 r.2
          ∙ ap (λ ls. ls ++ lines ys) (sym (no_end b (bs ++ 10 ∷ []) f))
    ]

pub lines_joined : (xs ys : List ℕ) → EndsLine xs → lines (xs ++ ys) ≡ lines xs ++ lines ys
lines_joined xs ys (inl e) = subst (λ zs. lines (zs ++ ys) ≡ lines zs ++ lines ys) (sym e) refl
lines_joined xs ys (inr (front, e)) = subst (λ zs. lines (zs ++ ys) ≡ lines zs ++ lines ys) (sym e) (joined_at front ys)

one_line : (bs : List ℕ) → is_one_line bs ≡ true → lines (bs ++ 10 ∷ []) ≡ bs ∷ []
one_line [] h = refl
one_line (b ∷ bs) h =
    elim (by_end b) [
      | inl t ↦ absurd (let n : false ≡ true = sym (ap (λ t. not t && is_one_line bs) t) ∙ h in cc)
      | inr f ↦ no_end b (bs ++ 10 ∷ []) f ∙ ap (put_before b) (one_line bs (sym (ap (λ t. not t && is_one_line bs) f) ∙ h))
    ]

-- ---- the walk

-- behind some lines: those that came, none of which separates, and those that are left
pub record Came (text : List ℕ) (at number : ℕ) : Type 0 where
  pub within : at ≤ length text
  pub past : List (List ℕ)
  pub whole : lines text ≡ past ++ lines (drop at text)
  pub none : All (λ l. is_separator l ≡ false) past
  pub count : length past ≡ number
  pub front : ((lines (take at text) ≡ past) × EndsLine (take at text)) ⊎ (drop at text ≡ [])

pub came_none : (text : List ℕ) → Came text 0 0
came_none text = record {
  within = omega arith;
  past = [];
  whole = refl;
  none = All-nil (λ l. is_separator l ≡ false);
  count = refl;
  front = inl (refl, inl refl);
}

none_left : (n : ℕ) (bs : List ℕ) (l : ALine) → line_in n bs ≡ Some l → bs ≡ [] → ⊥
none_left n [] l h e = cc
none_left n (b ∷ bs) l h e = cc

at_last : (n : ℕ) (bs : List ℕ) → line_in n bs ≡ None → bs ≡ []
at_last n [] h = refl
at_last n (b ∷ bs) h = cc

-- the front with one more line
longer : (text : List ℕ) (at n : ℕ) (xs rest : List ℕ) → at ≤ length text → drop at text ≡ xs ++ rest → n ≡ at + length xs → take n text ≡ take at text ++ xs
longer text at n xs rest h e m =
    let l : length (take at text) ≡ at = omega (arith, length-take at text) in
    let whole : text ≡ take at text ++ (xs ++ rest) = sym (take-append-drop at text) ∙ ap (λ zs. take at text ++ zs) e in
    let k : n ≡ length (take at text) + length xs = omega arith in
    ap (take n) whole ∙ ap (λ i. take i (take at text ++ (xs ++ rest))) k ∙ take-append-add (take at text) (xs ++ rest) (length xs)
    ∙ ap (λ zs. take at text ++ zs) (front_is xs rest)
  where
    front_is : (xs rest : List ℕ) → take (length xs) (xs ++ rest) ≡ xs
    front_is [] rest = refl
    front_is (x ∷ xs) rest = ap (λ zs. x ∷ zs) (front_is xs rest)

module _ (p : LinePlace) (l : ALine) (came : Came p.text p.at p.number) (h : next_line p ≡ Some l) where
  stands : LineStands p l
  stands = lines_stand_in_order p l h

  left : lines (drop p.at p.text) ≡ l.text ∷ lines (drop (after_line p).at (after_line p).text)
  left = next_line_is_first p ∙ ap (λ o. line_then o (lines_left (after_line p))) h

  begun : (lines (take p.at p.text) ≡ came.past) × EndsLine (take p.at p.text)
  begun =
      elim came.front [
        | inl f ↦ f
        | inr e ↦ absurd (none_left (p.number + 1) (drop p.at p.text) l h e)
      ]

  behind_at : (end rest : List ℕ) → IsLineEnd end rest → drop p.at p.text ≡ (l.text ++ end) ++ rest → rest ≡ drop (after_line p).at p.text → (after_line p).at ≡ p.at + length l.text + length end
      → ((lines (take (after_line p).at p.text) ≡ came.past ++ l.text ∷ []) × EndsLine (take (after_line p).at p.text)) ⊎ (drop (after_line p).at p.text ≡ [])
  behind_at end rest (inr e) bytes is at = inr (sym is ∙ e.1)
  behind_at end rest (inl e) bytes is at =
      let one : l.text ++ end ≡ l.text ++ 10 ∷ [] = ap (λ zs. l.text ++ zs) e in
      let more : take (after_line p).at p.text ≡ take p.at p.text ++ (l.text ++ 10 ∷ []) =
      longer p.text p.at (after_line p).at (l.text ++ end) rest came.within bytes (at ∙ omega (arith, length-append l.text end)) ∙ ap (λ zs. take p.at p.text ++ zs) one in
      inl (
        ap lines more ∙ lines_joined (take p.at p.text) (l.text ++ 10 ∷ []) begun.1 ∙ ap (λ ls. ls ++ lines (l.text ++ 10 ∷ [])) begun.0
            ∙ ap (λ ls. came.past ++ ls) (one_line l.text stands.is_one_line),
        inr (take p.at p.text ++ l.text, more ∙ sym (append_assoc (take p.at p.text) l.text (10 ∷ []))),
      )

  pub came_line : is_separator l.text ≡ false → Came p.text (after_line p).at (after_line p).number
  came_line sound = record {
    within =
        let len = ap length stands.bytes in
        let a = length-append (l.text ++ stands.end) (drop (after_line p).at p.text) in
        let b = length-append l.text stands.end in
        let c = length-drop p.at p.text in
        let d = length-drop (after_line p).at p.text in
        let e = stands.behind in
        let w = came.within in
        omega arith;
    past = came.past ++ l.text ∷ [];
    whole = came.whole ∙ ap (λ ls. came.past ++ ls) (left ∙ ap (λ (t : List ℕ). l.text ∷ lines (drop (after_line p).at t)) stands.text)
        ∙ sym (append_assoc came.past (l.text ∷ []) (lines (drop (after_line p).at p.text)));
    none = All-push (λ l. is_separator l ≡ false) came.past l.text came.none sound;
    count = let e = length-append came.past (l.text ∷ []) in let n = came.count in let m = stands.number_behind in omega arith;
    front = behind_at stands.end (drop (after_line p).at p.text) stands.is_end stands.bytes refl stands.behind;
  }

  pub text_kept : (after_line p).text ≡ p.text
  text_kept = stands.text

  -- the line's start is in the text
  pub start_within : p.at ≤ length p.text
  start_within = came.within

  behind_end : (end rest : List ℕ) → IsLineEnd end rest → IsBehindLine (end ++ rest) rest
  behind_end end rest (inl e) = inr (ap (λ zs. zs ++ rest) e)
  behind_end end rest (inr e) = inl (ap (λ zs. zs ++ rest) e.0 ∙ e.1, e.1)

  -- a line that separates has the parts before and behind it
  pub parts_at : is_separator l.text ≡ true → ArePartsOf p.text (record { first = take p.at p.text; second = drop (after_line p).at p.text; line = l.number })
  parts_at same = record {
    separator = l.text;
    behind = stands.end ++ drop (after_line p).at p.text;
    whole = sym (take-append-drop p.at p.text) ∙ ap (λ zs. take p.at p.text ++ zs) (stands.bytes ∙ append_assoc l.text stands.end (drop (after_line p).at p.text));
    begins = begun.1;
    separates = same;
    ends = behind_end stands.end (drop (after_line p).at p.text) stands.is_end;
    none_before = subst (All (λ l. is_separator l ≡ false)) (sym begun.0) came.none;
    number = let n = stands.number in let m = came.count in let k = ap length begun.0 in omega arith;
  }

pub none_at : (p : LinePlace) → Came p.text p.at p.number → next_line p ≡ None → HasNoSeparator p.text
none_at p came h =
    subst (All (λ l. is_separator l ≡ false))
    (sym (came.whole ∙ ap (λ bs. came.past ++ lines bs) (at_last (p.number + 1) (drop p.at p.text) h) ∙ append-nil came.past)) came.none
