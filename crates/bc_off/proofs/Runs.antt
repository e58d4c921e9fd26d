-- Items that are read one after another: one more turn.
use Rattle.std.proofs.Common.{◌≡◌, ◌<◌, ℕ, suc, ◌+◌, ◌-◌, List, [], ◌∷◌, ◌++◌, drop, Result, Ok, Err, refl, sym, ap, ◌∙◌, arith, append_assoc}
use Rattle.std.proofs.lemmas.List.{drop-drop}
use Rattle.bc_off.specs.declared.fault.OffFault.{OffFault}
use Rattle.bc_off.specs.declared.fault.OffFault.TheVariants.{Short, Memory}
use Rattle.bc_off.specs.Answers.{◌>>=◌, Gives}
use Rattle.bc_off.specs.Rows.{Row, each}

-- ---- answers

pub gives_err : {A : Type 0} (f : OffFault) (want : Result A OffFault) → want ≡ Err f → Gives (Err f) want
gives_err Memory want e = tt
gives_err _ want e = e

-- a step that failed, or ran out of memory
pub failed : {A B : Type 0} (f : OffFault) (r : Result A OffFault) (k : A → Result B OffFault) (want : Result B OffFault) → Gives (Err f) r → want ≡ (r >>= k) → Gives (Err f) want
failed Memory r k want h e = tt
failed _ r k want h e = e ∙ ap (λ r. r >>= k) h

-- ---- lists

-- items put before those of an answer
abbrev pub joined : {A : Type 0} → List A → Result (List A) OffFault → Result (List A) OffFault
joined xs r = r >>= λ ys. Ok (xs ++ ys)

pub joined_more : {A : Type 0} (xs : List A) (x : A) (r : Result (List A) OffFault) → joined xs (r >>= λ ys. Ok (x ∷ ys)) ≡ joined (xs ++ x ∷ []) r
joined_more xs x (Ok ys) = ap Ok (sym (append_assoc xs (x ∷ []) ys))
joined_more xs x (Err f) = refl

pub less_one : (k i : ℕ) → i < k → k - i ≡ suc (k - (i + 1))
less_one k i h = omega arith

pub over : {A : Type 0} (r : Result A OffFault) (k : A → Result (List A) OffFault) (xs : List A) → joined xs (r >>= k) ≡ (r >>= λ x. joined xs (k x))
over (Ok x) k xs = refl
over (Err f) k xs = refl

-- ---- rows

pub each_short : {A : Type 0} (f : Row → Result A OffFault) (e k i : ℕ) (rows : List Row) (xs : List A) → i < k → rows ≡ []
    → joined xs (each f e (k - i) rows) ≡ Err (Short e 0)
each_short f e k i rows xs h none = rw (less_one k i h, none) refl

pub each_read : {A : Type 0} (f : Row → Result A OffFault) (e k i : ℕ) (rows rest : List Row) (r : Row) (xs : List A) → i < k → rows ≡ r ∷ rest
    → joined xs (each f e (k - i) rows) ≡ (f r >>= λ x. joined xs (each f e (k - (i + 1)) rest >>= λ ys. Ok (x ∷ ys)))
each_read f e k i rows rest r xs h is = rw (less_one k i h, is) (over (f r) (λ x. each f e (k - (i + 1)) rest >>= λ ys. Ok (x ∷ ys)) xs)

pub each_fails : {A : Type 0} (f : Row → Result A OffFault) (e k i : ℕ) (rows rest : List Row) (r : Row) (xs : List A) (g : OffFault) → i < k → rows ≡ r ∷ rest → f r ≡ Err g
    → joined xs (each f e (k - i) rows) ≡ Err g
each_fails f e k i rows rest r xs g h is fails =
    each_read f e k i rows rest r xs h is ∙ ap (λ a. a >>= λ x. joined xs (each f e (k - (i + 1)) rest >>= λ ys. Ok (x ∷ ys))) fails

pub each_failed : {A : Type 0} (f : Row → Result A OffFault) (e k i : ℕ) (rows rest : List Row) (r : Row) (xs : List A) (g : OffFault) (want : Result (List A) OffFault)
    → i < k → rows ≡ r ∷ rest → Gives (Err g) (f r) → joined xs (each f e (k - i) rows) ≡ want → Gives (Err g) want
each_failed f e k i rows rest r xs g want h is fails all =
    failed g (f r) (λ x. joined xs (each f e (k - (i + 1)) rest >>= λ ys. Ok (x ∷ ys))) want fails (sym all ∙ each_read f e k i rows rest r xs h is)

pub each_went : {A : Type 0} (f : Row → Result A OffFault) (e k i : ℕ) (rows rest : List Row) (r : Row) (xs : List A) (x : A) → i < k → rows ≡ r ∷ rest → f r ≡ Ok x
    → joined xs (each f e (k - i) rows) ≡ joined (xs ++ x ∷ []) (each f e (k - (i + 1)) rest)
each_went f e k i rows rest r xs x h is read =
    each_read f e k i rows rest r xs h is
    ∙ ap (λ a. a >>= λ x. joined xs (each f e (k - (i + 1)) rest >>= λ ys. Ok (x ∷ ys))) read
    ∙ joined_more xs x (each f e (k - (i + 1)) rest)

pub drop_more : {A : Type 0} (i : ℕ) (xs ys : List A) (x : A) (zs : List A) → ys ≡ drop i xs → ys ≡ x ∷ zs → zs ≡ drop (i + 1) xs
drop_more i xs ys x zs h e = sym (ap (drop 1) e) ∙ ap (drop 1) h ∙ drop-drop 1 i xs
