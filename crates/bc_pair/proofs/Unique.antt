-- A text has at most one pair of parts, and none where no line separates.
use Rattle.std.proofs.Common.{◌≡◌, ◌⊎◌, ℕ, ◌+◌, Bool, true, false, ◌||◌, List, [], ◌∷◌, ◌++◌, length, refl, sym, ap, ◌∙◌, subst, inl, inr}
use Rattle.std.specs.Prelude.{codes}
use Rattle.std.specs.List.{All}
use Rattle.std.specs.Str.{bytes_eq}
use Rattle.std.proofs.lemmas.List.{append_cancel_left}
use Rattle.std.proofs.lemmas.List.Elements.{All-head, All-tail}
use Rattle.std.proofs.lemmas.Slice.Eq.{bytes_eq-Decides}
use Rattle.std.proofs.lemmas.Bool.{eqb-true}
use Rattle.bc_num.specs.Lines.{lines, put_before, is_line_end}
use Rattle.bc_pair.specs.Parts.{is_separator, EndsLine, IsBehindLine, Two, ArePartsOf, OneSplit, NoSplit}
use Rattle.bc_pair.proofs.Cutting.{by_end, at_end, no_end, some_line, lines_joined}

either : (a b : Bool) → (a || b) ≡ true → (a ≡ true) ⊎ (b ≡ true)
either true b h = inl refl
either false b h = inr h

two_ways : (l : List ℕ) → is_separator l ≡ true → (l ≡ codes "====") ⊎ (l ≡ codes "====\r")
two_ways l h =
    elim (either (bytes_eq l (codes "====")) (bytes_eq l (codes "====\r")) h) [
      | inl t ↦ inl ((bytes_eq-Decides l (codes "====")).0 t)
      | inr t ↦ inr ((bytes_eq-Decides l (codes "====\r")).0 t)
    ]

-- ---- lines

-- a separator and what is behind it
separator_lines : (l behind second : List ℕ) → is_separator l ≡ true → IsBehindLine behind second → lines (l ++ behind) ≡ l ∷ lines second
separator_lines l behind second h (inl (e, f)) =
    elim (two_ways l h) [
      | inl k ↦ subst (λ b. lines (l ++ b) ≡ l ∷ lines second) (sym e) (subst (λ s. lines (l ++ []) ≡ l ∷ lines s) (sym f) (subst (λ m. lines (m ++ []) ≡ m ∷ lines []) (sym k) refl))
      | inr k ↦ subst (λ b. lines (l ++ b) ≡ l ∷ lines second) (sym e) (subst (λ s. lines (l ++ []) ≡ l ∷ lines s) (sym f) (subst (λ m. lines (m ++ []) ≡ m ∷ lines []) (sym k) refl))
    ]
separator_lines l behind second h (inr e) =
    elim (two_ways l h) [
      | inl k ↦ subst (λ b. lines (l ++ b) ≡ l ∷ lines second) (sym e) (subst (λ m. lines (m ++ 10 ∷ second) ≡ m ∷ lines second) (sym k) refl)
      | inr k ↦ subst (λ b. lines (l ++ b) ≡ l ∷ lines second) (sym e) (subst (λ m. lines (m ++ 10 ∷ second) ≡ m ∷ lines second) (sym k) refl)
    ]

pub lines_of_parts : (text : List ℕ) (p : Two) (h : ArePartsOf text p) → lines text ≡ lines p.first ++ (h.separator ∷ lines p.second)
lines_of_parts text p h =
    ap lines h.whole ∙ lines_joined p.first (h.separator ++ h.behind) h.begins
    ∙ ap (λ ls. lines p.first ++ ls) (separator_lines h.separator h.behind p.second h.separates h.ends)

abbrev unlines : List (List ℕ) → List ℕ
unlines [] = []
unlines (l ∷ ls) = l ++ (10 ∷ unlines ls)

put_unlines : (b : ℕ) (ks : List (List ℕ)) (l : List ℕ) (ls : List (List ℕ)) → ks ≡ l ∷ ls → unlines (put_before b ks) ≡ b ∷ unlines ks
put_unlines b ks l ls e = rw e refl

whole_line : (front : List ℕ) → unlines (lines (front ++ 10 ∷ [])) ≡ front ++ 10 ∷ []
whole_line [] = refl
whole_line (b ∷ bs) =
    elim (by_end b) [
      | inl t ↦ ap unlines (at_end b (bs ++ 10 ∷ []) t) ∙ ap (λ xs. 10 ∷ xs) (whole_line bs) ∙ ap (λ c. c ∷ (bs ++ 10 ∷ [])) (sym (ten b t))
      | inr f ↦
          let r = some_line bs in
          ap unlines (no_end b (bs ++ 10 ∷ []) f) ∙ put_unlines b (lines (bs ++ 10 ∷ [])) r.0 r.1 r.2 ∙ ap (λ xs. b ∷ xs) (whole_line bs)
    ]
  where
    ten : (b : ℕ) → is_line_end b ≡ true → b ≡ 10
    ten b t = eqb-true b 10 t

from_lines : (xs : List ℕ) → EndsLine xs → xs ≡ unlines (lines xs)
from_lines xs (inl e) = subst (λ zs. zs ≡ unlines (lines zs)) (sym e) refl
from_lines xs (inr (front, e)) = subst (λ zs. zs ≡ unlines (lines zs)) (sym e) (sym (whole_line front))

-- ---- the first that passes a test

first_same : {X : Type 0} (test : X → Bool) (us cs bs ds : List X) (s t : X) → All (λ x. test x ≡ false) us → All (λ x. test x ≡ false) cs → test s ≡ true → test t ≡ true
    → us ++ (s ∷ bs) ≡ cs ++ (t ∷ ds) → (us ≡ cs) × (s ≡ t)
first_same test [] [] bs ds s t h k f g e = (refl, cc)
first_same test [] (c ∷ cs) bs ds s t h k f g e =
    let is : s ≡ c = cc in
    absurd (let q : true ≡ false = sym f ∙ ap test is ∙ All-head (λ x. test x ≡ false) c cs k in cc)
first_same test (a ∷ us) [] bs ds s t h k f g e =
    let is : a ≡ t = cc in
    absurd (let q : true ≡ false = sym g ∙ ap test (sym is) ∙ All-head (λ x. test x ≡ false) a us h in cc)
first_same test (a ∷ us) (c ∷ cs) bs ds s t h k f g e =
    let is : a ≡ c = cc in
    let rest : us ++ (s ∷ bs) ≡ cs ++ (t ∷ ds) = cc in
    let r = first_same test us cs bs ds s t (All-tail (λ x. test x ≡ false) a us h) (All-tail (λ x. test x ≡ false) c cs k) f g rest in
    (ap (λ z. z ∷ us) is ∙ ap (λ zs. c ∷ zs) r.0, r.1)

behind_same : (b c s t : List ℕ) → b ≡ c → IsBehindLine b s → IsBehindLine c t → s ≡ t
behind_same b c s t e (inl h) (inl k) = h.1 ∙ sym k.1
behind_same b c s t e (inl h) (inr k) = let q : [] ≡ 10 ∷ t = sym h.0 ∙ e ∙ k in cc
behind_same b c s t e (inr h) (inl k) = let q : 10 ∷ s ≡ [] = sym h ∙ e ∙ k.0 in cc
behind_same b c s t e (inr h) (inr k) = let q : 10 ∷ s ≡ 10 ∷ t = sym h ∙ e ∙ k in cc

no_test : (l : List ℕ) (xs ys : List (List ℕ)) → is_separator l ≡ true → All (λ l. is_separator l ≡ false) (xs ++ (l ∷ ys)) → ⊥
no_test l [] ys h a = let q : true ≡ false = sym h ∙ All-head (λ l. is_separator l ≡ false) l ys a in cc
no_test l (x ∷ xs) ys h a = no_test l xs ys h (All-tail (λ l. is_separator l ≡ false) x (xs ++ (l ∷ ys)) a)

pub no_split : NoSplit
no_split text p h none = no_test h.separator (lines p.first) (lines p.second) h.separates (subst (All (λ l. is_separator l ≡ false)) (lines_of_parts text p h) none)

pub one_split : OneSplit
one_split text p q h k =
    let same = first_same is_separator (lines p.first) (lines q.first) (lines p.second) (lines q.second) h.separator k.separator h.none_before k.none_before h.separates k.separates
    (sym (lines_of_parts text p h) ∙ lines_of_parts text q k) in
    let first : p.first ≡ q.first = from_lines p.first h.begins ∙ ap unlines same.0 ∙ sym (from_lines q.first k.begins) in
    let whole : q.first ++ (k.separator ++ h.behind) ≡ q.first ++ (k.separator ++ k.behind) =
    sym (ap (λ xs. xs ++ (h.separator ++ h.behind)) first ∙ ap (λ xs. q.first ++ (xs ++ h.behind)) same.1) ∙ sym h.whole ∙ k.whole in
    let behind : h.behind ≡ k.behind = append_cancel_left k.separator h.behind k.behind (append_cancel_left q.first (k.separator ++ h.behind) (k.separator ++ k.behind) whole) in
    let second : p.second ≡ q.second = behind_same h.behind k.behind p.second q.second behind h.ends k.ends in
    let line : p.line ≡ q.line = h.number ∙ ap (λ ls. length ls + 1) same.0 ∙ sym k.number in
    λ i. record { first = first i; second = second i; line = line i }
