-- A number at the front of some bytes is a number, and no longer front is one.
use Rattle.std.proofs.Common.{◌≡◌, ◌<◌, ◌≤◌, ◌⊎◌, inl, inr, ℕ, zero, suc, ◌+◌, ◌-◌, min, Bool, true, false, ◌&&◌, nat_lt, nat_eq, List, [], ◌∷◌, ◌++◌, length, take, drop, refl, sym, ap, ◌∙◌, arith, add-one, length-take, append-nil, if◌then◌else◌}
use Rattle.std.proofs.Math.Seq.{take-add}
use Rattle.std.proofs.lemmas.Bool.{and_parts}
use Rattle.std.proofs.lemmas.List.{drop-take, length-drop}
use Rattle.bc_num.specs.Tokens.{is_digit}
use Rattle.bc_num.specs.Numbers.{is_sign, is_point, digits, unsigned, ends_number, is_number, more, unsigned_length, signed_length, number_length}
use Rattle.bc_num.specs.Fronts.{FrontIsNumber, FrontIsLongest}

-- no digit comes first
abbrev stops : List ℕ → Bool
stops [] = true
stops (b ∷ bs) = if is_digit b then false else true

stop-at : (b n : ℕ) (d : Bool) → is_digit b ≡ d → (if is_digit b then false else true) ≡ true → (if is_digit b then n else 0) ≡ 0
stop-at b n true e h = let w : false ≡ true = rw e at h in cc
stop-at b n false e h = rw e refl

digits-stop : (xs : List ℕ) → stops xs ≡ true → digits xs ≡ 0
digits-stop [] h = refl
digits-stop (b ∷ bs) h = stop-at b (digits bs + 1) (is_digit b) refl h

-- the digits at the front, with other bytes behind them
abbrev front : List ℕ → List ℕ → List ℕ
front bs xs = take (digits bs) bs ++ xs

record Front (bs xs : List ℕ) : Type 0 where
  count : digits (front bs xs) ≡ digits bs
  behind : drop (digits bs) (front bs xs) ≡ xs

front-more : (b n : ℕ) (bs xs : List ℕ) → take (n + 1) (b ∷ bs) ++ xs ≡ b ∷ (take n bs ++ xs)
front-more b n bs xs = rw add-one refl

front-at : (b : ℕ) (bs xs : List ℕ) (d : Bool) → is_digit b ≡ d → stops xs ≡ true → Front bs xs → Front (b ∷ bs) xs
front-at b bs xs true e s f =
    let n : digits (b ∷ bs) ≡ digits bs + 1 = rw e refl in
    let all : front (b ∷ bs) xs ≡ b ∷ front bs xs = ap (λ n. take n (b ∷ bs) ++ xs) n ∙ front-more b (digits bs) bs xs in
    let one : digits (b ∷ front bs xs) ≡ digits (front bs xs) + 1 = rw e refl in
    let count : digits (front bs xs) ≡ digits bs = f.count in
    let behind : drop (digits bs + 1) (b ∷ front bs xs) ≡ xs = rw add-one f.behind in
    record {
      count = ap digits all ∙ one ∙ ap (λ n. n + 1) count ∙ sym n;
      behind = ap (λ n. drop n (front (b ∷ bs) xs)) n ∙ ap (drop (digits bs + 1)) all ∙ behind;
    }
front-at b bs xs false e s f =
    let n : digits (b ∷ bs) ≡ 0 = rw e refl in
    let all : front (b ∷ bs) xs ≡ xs = ap (λ n. take n (b ∷ bs) ++ xs) n in
    record {
      count = ap digits all ∙ digits-stop xs s ∙ sym n;
      behind = ap (λ n. drop n (front (b ∷ bs) xs)) n ∙ all;
    }

front-is : (bs xs : List ℕ) → stops xs ≡ true → Front bs xs
front-is [] xs s = record { count = digits-stop xs s; behind = refl }
front-is (b ∷ bs) xs s = front-at b bs xs (is_digit b) refl s (front-is bs xs s)

-- the number that a word without a sign ends
abbrev ends : List ℕ → Bool
ends w = ends_number (digits w) (drop (digits w) w)

ends-front : (bs xs w : List ℕ) → w ≡ front bs xs → stops xs ≡ true → ends w ≡ ends_number (digits bs) xs
ends-front bs xs w e s =
    let f = front-is bs xs s in
    let n : digits w ≡ digits bs = ap digits e ∙ f.count in
    let r : drop (digits w) w ≡ xs = ap (λ n. drop n w) n ∙ ap (drop (digits bs)) e ∙ f.behind in
    ap (λ n. ends_number n (drop (digits w) w)) n ∙ ap (ends_number (digits bs)) r

point-stops : (b : ℕ) → is_point b ≡ true → is_digit b ≡ false
point-stops b h = grind arith

digits-le-at : (b : ℕ) (bs : List ℕ) (d : Bool) → is_digit b ≡ d → digits bs ≤ length bs → digits (b ∷ bs) ≤ length (b ∷ bs)
digits-le-at b bs true e h = rw e (omega arith)
digits-le-at b bs false e h = rw e (omega arith)

digits-le : (bs : List ℕ) → digits bs ≤ length bs
digits-le [] = omega arith
digits-le (b ∷ bs) = digits-le-at b bs (is_digit b) refl (digits-le bs)

fraction-count : (cs : List ℕ) → digits (take (digits cs) cs) ≡ digits cs
fraction-count cs = ap digits (sym (append-nil (take (digits cs) cs))) ∙ (front-is cs [] refl).count

fraction-length : (cs : List ℕ) → length (take (digits cs) cs) ≡ digits cs
fraction-length cs = let h : digits cs ≤ length cs = digits-le cs in length-take (digits cs) cs ∙ omega arith

lt-true : (n m : ℕ) → n < m → nat_lt n m ≡ true
lt-true n m h = grind arith

eq-true : (n m : ℕ) → n ≡ m → nat_eq n m ≡ true
eq-true n m h = grind arith

fraction-ends : (n b : ℕ) (cs : List ℕ) → is_point b ≡ true → nat_lt 0 (n + digits cs) ≡ true → ends_number n (b ∷ take (digits cs) cs) ≡ true
fraction-ends n b cs p h =
    let same : nat_eq (digits (take (digits cs) cs)) (length (take (digits cs) cs)) ≡ true = eq-true _ _ (fraction-count cs ∙ sym (fraction-length cs)) in
    let some : nat_lt 0 (n + length (take (digits cs) cs)) ≡ true = ap (λ m. nat_lt 0 (n + m)) (fraction-length cs) ∙ h in
    rw (p, same, some) refl

whole-ends : (bs w : List ℕ) → w ≡ front bs [] → 0 < digits bs → ends w ≡ true
whole-ends bs w e h = ends-front bs [] w e refl ∙ lt-true 0 (digits bs) h

rest-ends : (bs : List ℕ) (b : ℕ) (cs w : List ℕ) (t : Bool) → (is_point b && nat_lt 0 (digits bs + digits cs)) ≡ t
    → w ≡ take (digits bs) bs ++ take (if t then digits cs + 1 else 0) (b ∷ cs) → 0 < digits bs + (if t then digits cs + 1 else 0) → ends w ≡ true
rest-ends bs b cs w false q e h = whole-ends bs w e (omega arith)
rest-ends bs b cs w true q e h =
    let p : is_point b ≡ true = (and_parts (is_point b) _ q).0 in
    let s : stops (b ∷ take (digits cs) cs) ≡ true = rw (point-stops b p) refl in
    let more : take (digits cs + 1) (b ∷ cs) ≡ b ∷ take (digits cs) cs = rw add-one refl in
    ends-front bs (b ∷ take (digits cs) cs) w (e ∙ ap (λ xs. take (digits bs) bs ++ xs) more) s
    ∙ fraction-ends (digits bs) b cs p ((and_parts (is_point b) _ q).1)

by-rest : (bs r w : List ℕ) → w ≡ take (digits bs) bs ++ take (more (digits bs) r) r → 0 < digits bs + more (digits bs) r → ends w ≡ true
by-rest bs [] w e h = whole-ends bs w e (omega arith)
by-rest bs (b ∷ cs) w e h = rest-ends bs b cs w (is_point b && nat_lt 0 (digits bs + digits cs)) refl e h

unsigned-ends : (bs : List ℕ) → 0 < unsigned_length bs → ends (take (unsigned_length bs) bs) ≡ true
unsigned-ends bs h =
    let n = digits bs in
    let r = drop n bs in
    by-rest bs r (take (n + more n r) bs) (take-add n (more n r) bs) h

number-at : (b : ℕ) (bs : List ℕ) (s : Bool) (n m : ℕ) → is_sign b ≡ s → n ≡ unsigned_length bs → m ≡ unsigned_length (b ∷ bs)
    → 0 < (if s then signed_length n else m) → is_number (take (if s then signed_length n else m) (b ∷ bs)) ≡ true
number-at b bs true zero m e n1 m1 h = absurd (omega arith)
number-at b bs true (suc k) m e n1 m1 h =
    let w : unsigned (take (suc k + 1) (b ∷ bs)) ≡ take (unsigned_length bs) bs = rw (add-one (suc k)) (rw e (ap (λ n. take n bs) n1)) in
    let h2 : 0 < unsigned_length bs = omega arith in
    ap ends w ∙ unsigned-ends bs h2
number-at b bs false n zero e n1 m1 h = absurd (omega arith)
number-at b bs false n (suc k) e n1 m1 h =
    let w : unsigned (take (suc k) (b ∷ bs)) ≡ take (unsigned_length (b ∷ bs)) (b ∷ bs) = rw e (ap (λ n. take n (b ∷ bs)) m1) in
    let h2 : 0 < unsigned_length (b ∷ bs) = omega arith in
    ap ends w ∙ unsigned-ends (b ∷ bs) h2

pub front_is_number : FrontIsNumber
front_is_number [] h = absurd (omega arith)
front_is_number (b ∷ bs) h = number-at b bs (is_sign b) (unsigned_length bs) (unsigned_length (b ∷ bs)) refl refl refl h

-- ---- a number at the front of some bytes is within them

more-le-at : (n m : ℕ) (t : Bool) → n ≤ m → (if t then n + 1 else 0) ≤ m + 1
more-le-at n m true h = omega arith
more-le-at n m false h = omega arith

more-le : (n : ℕ) (bs : List ℕ) → more n bs ≤ length bs
more-le n [] = omega arith
more-le n (b ∷ bs) =
    let h : digits bs ≤ length bs = digits-le bs in
    let got : more n (b ∷ bs) ≤ length bs + 1 = more-le-at (digits bs) (length bs) (is_point b && nat_lt 0 (n + digits bs)) h in
    omega arith

unsigned-le : (bs : List ℕ) → unsigned_length bs ≤ length bs
unsigned-le bs =
    let d : digits bs ≤ length bs = digits-le bs in
    let m : more (digits bs) (drop (digits bs) bs) ≤ length (drop (digits bs) bs) = more-le (digits bs) (drop (digits bs) bs) in
    let l : length (drop (digits bs) bs) ≡ length bs - digits bs = length-drop (digits bs) bs in
    omega arith

sign-le : (n m : ℕ) → n ≤ m → signed_length n ≤ m + 1
sign-le zero m h = omega arith
sign-le (suc n) m h = omega arith

number-le-at : (b : ℕ) (bs : List ℕ) (s : Bool) → (if s then signed_length (unsigned_length bs) else unsigned_length (b ∷ bs)) ≤ length (b ∷ bs)
number-le-at b bs true = let h : signed_length (unsigned_length bs) ≤ length bs + 1 = sign-le (unsigned_length bs) (length bs) (unsigned-le bs) in omega arith
number-le-at b bs false = unsigned-le (b ∷ bs)

pub number_length-le : (bs : List ℕ) → number_length bs ≤ length bs
number_length-le [] = omega arith
number_length-le (b ∷ bs) = number-le-at b bs (is_sign b)

-- ---- no longer front is a number

digits-take-at : (b n : ℕ) (bs : List ℕ) (d : Bool) → is_digit b ≡ d → digits (take n bs) ≡ min n (digits bs)
    → digits (b ∷ take n bs) ≡ min (suc n) (digits (b ∷ bs))
digits-take-at b n bs true e h = rw e (omega arith)
digits-take-at b n bs false e h = rw e (omega arith)

digits-take : (n : ℕ) (bs : List ℕ) → digits (take n bs) ≡ min n (digits bs)
digits-take zero bs = omega arith
digits-take (suc n) [] = omega arith
digits-take (suc n) (b ∷ bs) = digits-take-at b n bs (is_digit b) refl (digits-take n bs)

eq-is : (n m : ℕ) → nat_eq n m ≡ true → n ≡ m
eq-is n m h = grind arith

lt-is : (n m : ℕ) → nat_lt n m ≡ true → n < m
lt-is n m h = grind arith

more-at : (n m : ℕ) (t : Bool) → t ≡ true → m ≤ n → m + 1 ≤ (if t then n + 1 else 0)
more-at n m true e h = omega arith
more-at n m false e h = cc

-- a point and k more bytes that end a number go on no further than the number does
tail-more : (d k : ℕ) (b : ℕ) (cs : List ℕ) → k ≤ length cs → ends_number d (b ∷ take k cs) ≡ true → k + 1 ≤ more d (b ∷ cs)
tail-more d k b cs h e =
    let rest = (and_parts (is_point b) _ e).1 in
    let p : is_point b ≡ true = (and_parts (is_point b) _ e).0 in
    let l : length (take k cs) ≡ min k (length cs) = length-take k cs in
    let same : digits (take k cs) ≡ length (take k cs) = eq-is _ _ ((and_parts (nat_eq (digits (take k cs)) (length (take k cs))) _ rest).0) in
    let some : 0 < d + length (take k cs) = lt-is _ _ ((and_parts (nat_eq (digits (take k cs)) (length (take k cs))) _ rest).1) in
    let cut : digits (take k cs) ≡ min k (digits cs) = digits-take k cs in
    let within : k ≤ digits cs = omega arith in
    let any : 0 < d + digits cs = omega arith in
    let t : (is_point b && nat_lt 0 (d + digits cs)) ≡ true = rw p (lt-true 0 (d + digits cs) any) in
    more-at (digits cs) k (is_point b && nat_lt 0 (d + digits cs)) t within

-- behind d digits of which rest is what follows, k + 1 more bytes
past-digits : (d k : ℕ) (rest : List ℕ) → k + 1 ≤ length rest → ends_number d (take (k + 1) rest) ≡ true → k + 1 ≤ more d rest
past-digits d k [] h e = absurd (omega arith)
past-digits d k (b ∷ cs) h e =
    let w : take (k + 1) (b ∷ cs) ≡ b ∷ take k cs = rw add-one refl in
    let short : k ≤ length cs = omega arith in
    tail-more d k b cs short (ap (ends_number d) (sym w) ∙ e)

ends-longest : (bs : List ℕ) (m : ℕ) → m ≤ length bs → ends (take m bs) ≡ true → m ≤ unsigned_length bs
ends-longest bs m h e =
    let d = digits bs in
    let split : (m ≤ d) ⊎ (d < m) = grind arith in
    elim split [
      | inl s ↦ omega arith
      | inr s ↦
          let k : ℕ = m - d - 1 in
          let m-is : m ≡ d + (k + 1) = omega arith in
          let n : digits (take m bs) ≡ d = digits-take m bs ∙ omega arith in
          let r : drop (digits (take m bs)) (take m bs) ≡ take (k + 1) (drop d bs) =
          ap (λ n. drop n (take m bs)) n ∙ ap (λ n. drop d (take n bs)) m-is ∙ drop-take d (k + 1) bs in
          let q : ends_number d (take (k + 1) (drop d bs)) ≡ true =
          sym (ap (λ n. ends_number n (drop (digits (take m bs)) (take m bs))) n ∙ ap (ends_number d) r) ∙ e in
          let len : length (drop d bs) ≡ length bs - d = length-drop d bs in
          let short : k + 1 ≤ length (drop d bs) = omega arith in
          let got : k + 1 ≤ more d (drop d bs) = past-digits d k (drop d bs) short q in
          omega arith
    ]

sign-longest : (n u : ℕ) → n ≤ u → 0 < u → n + 1 ≤ signed_length u
sign-longest n zero h s = absurd (omega arith)
sign-longest n (suc u) h s = omega arith

ends-some : (w : List ℕ) (m : ℕ) → m ≡ 0 → ends (take m w) ≡ true → ⊥
ends-some w m z e = let h : ends (take 0 w) ≡ true = ap (λ m. ends (take m w)) (sym z) ∙ e in cc

longest-at : (b : ℕ) (bs : List ℕ) (m : ℕ) (s : Bool) → is_sign b ≡ s → m ≤ length bs → is_number (b ∷ take m bs) ≡ true
    → m + 1 ≤ (if s then signed_length (unsigned_length bs) else unsigned_length (b ∷ bs))
longest-at b bs m true e h k =
    let w : ends (take m bs) ≡ true = let u : unsigned (b ∷ take m bs) ≡ take m bs = rw e refl in ap ends (sym u) ∙ k in
    let got : m ≤ unsigned_length bs = ends-longest bs m h w in
    let split : (m ≡ 0) ⊎ (0 < m) = grind arith in
    elim split [
      | inl z ↦ absurd (ends-some bs m z w)
      | inr z ↦ let some : 0 < unsigned_length bs = omega arith in sign-longest m (unsigned_length bs) got some
    ]
longest-at b bs m false e h k =
    let front : take (m + 1) (b ∷ bs) ≡ b ∷ take m bs = rw add-one refl in
    let w : ends (take (m + 1) (b ∷ bs)) ≡ true = let u : unsigned (b ∷ take m bs) ≡ b ∷ take m bs = rw e refl in ap ends front ∙ ap ends (sym u) ∙ k in
    let short : m + 1 ≤ length (b ∷ bs) = omega arith in
    ends-longest (b ∷ bs) (m + 1) short w

pub front_is_longest : FrontIsLongest
front_is_longest bs zero h e = omega arith
front_is_longest [] (suc n) h e = absurd (omega arith)
front_is_longest (b ∷ bs) (suc n) h e =
    let short : n ≤ length bs = omega arith in
    let got : n + 1 ≤ number_length (b ∷ bs) = longest-at b bs n (is_sign b) refl short e in
    omega arith
