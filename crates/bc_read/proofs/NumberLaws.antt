-- A token says a number exactly where it is the number's one spelling.
use Rattle.std.proofs.Common.{◌≡◌, ◌<◌, ◌≤◌, ◌+◌, ◌^◌, ℕ, zero, suc, Bool, true, false, ◌&&◌, ◌||◌, nat_eq, nat_lt, nat_le, List, [], ◌∷◌, length, get_or, Option, Some, None, decimal, refl, sym, ap, ◌∙◌, subst, arith, lit<, if◌then◌else◌, eqb-true, eq-eqb, lt-ltb}
use Rattle.std.proofs.lemmas.Bool.Decides.{nat_tests}
use Rattle.std.proofs.lemmas.Fmt.{first_decimal, decimal_nonempty, digits_decimal, digits_value-decimal, decimal-digits_value}
use Rattle.std.proofs.lemmas.Str.Parse.{IsDigitsTest, FoldsDigits, IsNumeralModel, numerals_by_fold}
use Rattle.std.specs.Fmt.{signed_decimal, digits as digit_list}
use Rattle.std.specs.Prelude.{ℤ, pos, negsuc}
use Rattle.std.specs.Option.{option_map}
use Rattle.bc_algebra.specs.Within.{IsWithin}
use Rattle.bc_num.specs.Tokens.{is_digit}
use Rattle.bc_num.specs.Numbers.{digits, value}
use Rattle.bc_num.specs.Whole.{digits_of}
use Rattle.bc_read.specs.Numbers.{is_numeral, leads_zero, within, size_of, negative, value_of}

-- digits and nothing else
abbrev AreDigits : List ℕ → Type 0
AreDigits ds = digits ds ≡ length ds

abbrev InRange : ℕ → Type 0
InRange c = (48 ≤ c) × (c ≤ 57)

in-range : (c : ℕ) → is_digit c ≡ true → InRange c
in-range c e = (grind (arith, nat_tests), grind (arith, nat_tests))

is-digit : (c : ℕ) → InRange c → is_digit c ≡ true
is-digit c h = let a : 48 ≤ c = h.0 in let b : c ≤ 57 = h.1 in grind (arith, nat_tests)

parts-by : (c : ℕ) (cs : List ℕ) (t : Bool) → is_digit c ≡ t → (if t then digits cs + 1 else 0) ≡ suc (length cs) → InRange c × AreDigits cs
parts-by c cs true e h = let k : AreDigits cs = omega arith in (in-range c e, k)
parts-by c cs false e h = cc h

test : IsDigitsTest AreDigits
test = record {
  empty = refl;
  parts = λ c cs p. let h = parts-by c cs (is_digit c) refl p in ((h.0.0, h.0.1), h.1);
  more = λ c cs k p. ap (λ t. if t then digits cs + 1 else 0) (is-digit c (k.0, k.1)) ∙ (let e : digits cs ≡ length cs = p in omega arith);
}

folds : FoldsDigits value
folds = record { empty = λ n. refl; more = λ n c cs k. ap (λ m. value m cs) (omega arith) }

own : IsNumeralModel AreDigits (value 0)
own = numerals_by_fold AreDigits test value folds

lead-by : (b : ℕ) (bs : List ℕ) → 48 < b → leads_zero (b ∷ bs) ≡ false
lead-by b bs h = let e : nat_eq b 48 ≡ false = grind (arith, nat_tests) in ap (λ c. c && nat_lt 0 (length bs)) e

lead-no : (ds : List ℕ) → 48 < get_or ds 0 0 → leads_zero ds ≡ false
lead-no [] h = refl
lead-no (b ∷ bs) h = lead-by b bs h

zero-lead : leads_zero (decimal 0) ≡ false
unfolding digit_list
zero-lead = refl

no-lead : (n : ℕ) → n < 2 ^ 64 → leads_zero (decimal n) ≡ false
no-lead zero h = zero-lead
no-lead (suc n) h = lead-no (decimal (suc n)) (first_decimal (suc n) (omega arith) h)

small : (n : ℕ) → n ≤ 8388607 → n < 2 ^ 64
small n h = let k : 8388607 < 2 ^ 64 = lit< tt in omega (arith, h, k)

said : (ds : List ℕ) (n : ℕ) → AreDigits ds → 0 < length ds → value 0 ds ≡ n → digits_of ds ≡ Some n
said ds n p some e =
    ap (λ c. if c && nat_eq (digits ds) (length ds) then Some (value 0 ds) else None) (lt-ltb 0 (length ds) some)
    ∙ ap (λ c. if c then Some (value 0 ds) else None) (eq-eqb (digits ds) (length ds) p) ∙ ap (λ n. Some n) e

le-yes : (n m : ℕ) → n ≤ m → nat_le n m ≡ true
le-yes n m h = grind (arith, nat_tests)

yes-le : (n m : ℕ) → nat_le n m ≡ true → n ≤ m
yes-le n m h = grind (arith, nat_tests)

size-decimal : (n : ℕ) → n ≤ 8388607 → size_of (decimal n) ≡ Some n
size-decimal n h =
    let k = small n h in
    ap (λ c. if c then None else within (digits_of (decimal n))) (no-lead n k)
    ∙ ap within (said (decimal n) n (digits_decimal own n k) (decimal_nonempty n k) (digits_value-decimal own n k))
    ∙ ap (λ c. if c then Some n else None) (le-yes n 8388607 h)

-- and the other way

within-is : (o : Option ℕ) (n : ℕ) → within o ≡ Some n → (o ≡ Some n) × (n ≤ 8388607)
within-is None n e = cc e
within-is (Some m) n e = within-by (nat_le m 8388607) refl e
  where
    within-by : (c : Bool) → nat_le m 8388607 ≡ c → (if c then Some m else None) ≡ Some n → (Some m ≡ Some n) × (n ≤ 8388607)
    within-by true h k = let same : m ≡ n = cc k in (k, subst (λ x. x ≤ 8388607) same (yes-le m 8388607 h))
    within-by false h k = cc k

record Digits (ds : List ℕ) (n : ℕ) : Type 0 where
  are : AreDigits ds
  some : 0 < length ds
  value_is : value 0 ds ≡ n

digits-is : (ds : List ℕ) (n : ℕ) → digits_of ds ≡ Some n → Digits ds n
digits-is ds n e = digits-by (nat_lt 0 (length ds)) (nat_eq (digits ds) (length ds)) refl refl e
  where
    digits-by : (c d : Bool) → nat_lt 0 (length ds) ≡ c → nat_eq (digits ds) (length ds) ≡ d → (if c && d then Some (value 0 ds) else None) ≡ Some n → Digits ds n
    digits-by true true h k e = record { are = eqb-true (digits ds) (length ds) k; some = grind (arith, nat_tests); value_is = cc e }
    digits-by true false h k e = cc e
    digits-by false d h k e = cc e

lead-is : (ds : List ℕ) → leads_zero ds ≡ false → get_or ds 0 0 ≡ 48 → 0 < length ds → length ds ≡ 1
lead-is [] h e some = absurd (omega arith)
lead-is (b ∷ []) h e some = refl
lead-is (b ∷ c ∷ bs) h e some = let yes : nat_eq b 48 ≡ true = eq-eqb b 48 e in let more : nat_lt 0 (length (c ∷ bs)) ≡ true = lt-ltb 0 (length (c ∷ bs)) (omega arith) in let bad : true ≡ false = sym (λ i. yes i && more i) ∙ h in cc bad

size-by : (ds : List ℕ) (n : ℕ) (c : Bool) → leads_zero ds ≡ c → (if c then None else within (digits_of ds)) ≡ Some n → decimal n ≡ ds
size-by ds n true h e = cc e
size-by ds n false h e =
    let w = within-is (digits_of ds) n e in
    let d = digits-is ds n w.0 in
    let fits : value 0 ds < 2 ^ 64 = subst (λ x. x < 2 ^ 64) (sym d.value_is) (small n w.1) in
    ap decimal (sym d.value_is) ∙ decimal-digits_value own ds d.are d.some (λ k. lead-is ds h k d.some) fits

size-is : (ds : List ℕ) (n : ℕ) → size_of ds ≡ Some n → decimal n ≡ ds
size-is ds n e = size-by ds n (leads_zero ds) refl e

-- ---- with the sign

first-digit : (b : ℕ) (bs : List ℕ) → AreDigits (b ∷ bs) → InRange b
first-digit b bs p = (parts-by b bs (is_digit b) refl p).0

plain-value : (ds : List ℕ) (n : ℕ) → AreDigits ds → 0 < length ds → size_of ds ≡ Some n → value_of ds ≡ Some (pos n)
plain-value [] n p some e = absurd (omega arith)
plain-value (b ∷ bs) n p some e =
    let r = first-digit b bs p in
    let low : 48 ≤ b = r.0 in
    let sign : nat_eq b 45 ≡ false = grind (arith, nat_tests) in
    ap (λ c. if c then negative (size_of bs) else option_map (λ n. pos n) (size_of (b ∷ bs))) sign ∙ ap (option_map (λ n. pos n)) e

pub is-value : (z : ℤ) → IsWithin 8388607 z → value_of (signed_decimal z) ≡ Some z
is-value (pos n) h = let k : n ≤ 8388607 = h.within in plain-value (decimal n) n (digits_decimal own n (small n k)) (decimal_nonempty n (small n k)) (size-decimal n k)
is-value (negsuc n) h = ap negative (size-decimal (suc n) h.within)

numeral-plain : (ds : List ℕ) → AreDigits ds → 0 < length ds → is_numeral ds ≡ true
numeral-plain [] p some = absurd (omega arith)
numeral-plain (b ∷ bs) p some = ap (λ c. c || nat_eq b 45) (is-digit b (first-digit b bs p))

pub is-numeral : (z : ℤ) → IsWithin 8388607 z → is_numeral (signed_decimal z) ≡ true
is-numeral (pos n) h = let k : n ≤ 8388607 = h.within in numeral-plain (decimal n) (digits_decimal own n (small n k)) (decimal_nonempty n (small n k))
is-numeral (negsuc n) h = refl

negative-is : (o : Option ℕ) (z : ℤ) → negative o ≡ Some z → (n : ℕ) × (o ≡ Some (suc n)) × (z ≡ negsuc n)
negative-is None z e = cc e
negative-is (Some zero) z e = cc e
negative-is (Some (suc n)) z e = (n, refl, cc e)

positive-is : (o : Option ℕ) (z : ℤ) → option_map (λ n. pos n) o ≡ Some z → (n : ℕ) × (o ≡ Some n) × (z ≡ pos n)
positive-is None z e = cc e
positive-is (Some n) z e = (n, refl, cc e)

value-by : (b : ℕ) (bs : List ℕ) (z : ℤ) (c : Bool) → nat_eq b 45 ≡ c → (if c then negative (size_of bs) else option_map (λ n. pos n) (size_of (b ∷ bs))) ≡ Some z → b ∷ bs ≡ signed_decimal z
value-by b bs z true h e =
    let n = negative-is (size_of bs) z e in
    (λ i. eqb-true b 45 h i ∷ sym (size-is bs (suc n.0) n.1) i) ∙ ap signed_decimal (sym n.2)
value-by b bs z false h e =
    let n = positive-is (size_of (b ∷ bs)) z e in
    sym (size-is (b ∷ bs) n.0 n.1) ∙ ap signed_decimal (sym n.2)

pub value-is : (w : List ℕ) (z : ℤ) → value_of w ≡ Some z → w ≡ signed_decimal z
value-is [] z e = cc e
value-is (b ∷ bs) z e = value-by b bs z (nat_eq b 45) refl e
