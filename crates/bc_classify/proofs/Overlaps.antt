-- Whether an odd number of bits is set in both of two words: where one is the exclusive or of two others, and where it has
-- one bit or none.
use Rattle.std.specs.Prelude.{◌≡◌, ℕ, zero, suc, ◌+◌, ◌*◌, ◌/◌, ◌%◌, ◌^◌, ◌<◌, ◌≤◌, Bool, false, nat_eq, min, bit_and, bit_xor, count_ones}
use Rattle.std.specs.Int.{bit_at}
use Rattle.std.proofs.Common.{refl, sym, ap, ◌∙◌, arith}
use Rattle.std.proofs.lemmas.Nat.{ones_cat, ones_le_self, xor_lt, xor_shr, and_le_r, pow_pos}
use Rattle.std.proofs.lemmas.Nat.Bits.{bit_at_lowest, bit_at_xor, bit_at_and, bit_at-lt, and_pow, same_from_bits}
use lib.Count.{ones_step}
use Rattle.bc_parity.specs.Parity.{xor, is_odd}
use Rattle.bc_parity.proofs.Xors.{xor_swap, xor_same}
use Rattle.bc_parity.proofs.Straight.{odd_sum}
use Rattle.bc_classify.specs.RegionParities.{is_odd_overlap}

-- ---- the parity of a number is that of its lowest bit

twice : (n q : ℕ) → n ≡ q + q → is_odd n ≡ false
twice n q e = ap is_odd e ∙ odd_sum q q ∙ xor_same (is_odd q)

odd_rest : (n : ℕ) → is_odd (n % 2) ≡ is_odd n
odd_rest n =
    let e : n ≡ (n / 2 + n / 2) + n % 2 = omega arith in
    sym (ap is_odd e ∙ odd_sum (n / 2 + n / 2) (n % 2) ∙ ap (λ b. xor b (is_odd (n % 2))) (twice (n / 2 + n / 2) (n / 2) refl))

of_bit : (b : ℕ) → b < 2 → nat_eq b 1 ≡ is_odd b
of_bit zero h = refl
of_bit (suc zero) h = refl
of_bit (suc (suc n)) h = absurd (omega arith)

pub odd_test : (n : ℕ) → nat_eq (n % 2) 1 ≡ is_odd n
odd_test n = of_bit (n % 2) (omega arith) ∙ odd_rest n

-- ---- an odd number of bits is set

abbrev is_odd_word : ℕ → Bool
is_odd_word n = is_odd (count_ones n)

none_set : (n : ℕ) → n ≡ 0 → is_odd_word n ≡ false
none_set n e =
    let z : count_ones n ≡ 0 = omega (arith, ones_le_self n) in
    ap is_odd z

word_step : (n : ℕ) → is_odd_word n ≡ xor (is_odd n) (is_odd_word (n / 2))
word_step n = ap is_odd (ones_step n) ∙ odd_sum (n % 2) (count_ones (n / 2)) ∙ ap (λ b. xor b (is_odd_word (n / 2))) (odd_rest n)

low_xor : (a b : ℕ) → is_odd (bit_xor a b) ≡ xor (is_odd a) (is_odd b)
low_xor a b =
    let l : bit_xor a b % 2 ≡ (a % 2 + b % 2) % 2 =
    sym (bit_at_lowest (bit_xor a b)) ∙ bit_at_xor a b 0 ∙ (λ i. (bit_at_lowest a i + bit_at_lowest b i) % 2) in
    sym (odd_rest (bit_xor a b)) ∙ ap is_odd l ∙ odd_rest (a % 2 + b % 2) ∙ odd_sum (a % 2) (b % 2) ∙ (λ i. xor (odd_rest a i) (odd_rest b i))

word_xor : (d a b : ℕ) → a ≤ d → b ≤ d → is_odd_word (bit_xor a b) ≡ xor (is_odd_word a) (is_odd_word b)
word_xor zero a b h k =
    let p : a < 2 ^ 0 = omega arith in
    let q : b < 2 ^ 0 = omega arith in
    let z : bit_xor a b ≡ 0 = omega (arith, xor_lt 0 a b p q) in
    none_set (bit_xor a b) z ∙ sym (λ i. xor (none_set a (omega arith) i) (none_set b (omega arith) i))
word_xor (suc d) a b h k =
    let half : bit_xor a b / 2 ≡ bit_xor (a / 2) (b / 2) = xor_shr a b 1 in
    word_step (bit_xor a b)
    ∙ ap (xor (is_odd (bit_xor a b))) (ap is_odd_word half ∙ word_xor d (a / 2) (b / 2) (omega arith) (omega arith))
    ∙ ap (λ x. xor x (xor (is_odd_word (a / 2)) (is_odd_word (b / 2)))) (low_xor a b)
    ∙ xor_swap (is_odd a) (is_odd b) (is_odd_word (a / 2)) (is_odd_word (b / 2))
    ∙ sym (λ i. xor (word_step a i) (word_step b i))

-- ---- two words

min_sum : (m x y : ℕ) → m < 2 → x < 2 → y < 2 → min m ((x + y) % 2) ≡ (min m x + min m y) % 2
min_sum zero x y h k l = omega arith
min_sum (suc zero) zero y h k l = omega arith
min_sum (suc zero) (suc zero) y h k l = omega arith
min_sum (suc zero) (suc (suc x)) y h k l = absurd (omega arith)
min_sum (suc (suc m)) x y h k l = absurd (omega arith)

and_xor : (m x y : ℕ) → bit_and m (bit_xor x y) ≡ bit_xor (bit_and m x) (bit_and m y)
and_xor m x y =
    same_from_bits (bit_and m (bit_xor x y)) (bit_xor (bit_and m x) (bit_and m y))
    (λ i.
    bit_at_and m (bit_xor x y) i
    ∙ ap (min (bit_at m i)) (bit_at_xor x y i)
    ∙ min_sum (bit_at m i) (bit_at x i) (bit_at y i) (bit_at-lt m i) (bit_at-lt x i) (bit_at-lt y i)
    ∙ sym (λ j. (bit_at_and m x i j + bit_at_and m y i j) % 2)
    ∙ sym (bit_at_xor (bit_and m x) (bit_and m y) i))

pub overlap_xor : (m x y : ℕ) → is_odd_overlap m (bit_xor x y) ≡ xor (is_odd_overlap m x) (is_odd_overlap m y)
overlap_xor m x y =
    ap is_odd_word (and_xor m x y)
    ∙ word_xor (bit_and m x + bit_and m y) (bit_and m x) (bit_and m y) (omega arith) (omega arith)

pub overlap_none : (m : ℕ) → is_odd_overlap m 0 ≡ false
overlap_none m = none_set (bit_and m 0) (omega (arith, and_le_r m 0))

one_set : (b k : ℕ) → b < 2 → is_odd_word (b * 2 ^ k) ≡ nat_eq b 1
one_set zero k h = none_set (0 * 2 ^ k) (omega arith)
one_set (suc zero) k h =
    let c : count_ones (1 * 2 ^ k + 0) ≡ count_ones 1 + count_ones 0 = ones_cat k 1 0 (pow_pos k) in
    let z : count_ones 0 ≡ 0 = omega (arith, ones_le_self 0) in
    let o : count_ones 1 ≡ 1 = ones_step 1 ∙ ap (λ n. 1 + n) z in
    let e : count_ones (1 * 2 ^ k) ≡ 1 = ap count_ones (omega arith) ∙ c ∙ omega arith in
    ap is_odd e
one_set (suc (suc b)) k h = absurd (omega arith)

pub overlap_bit : (m k : ℕ) → is_odd_overlap m (2 ^ k) ≡ nat_eq (bit_at m k) 1
overlap_bit m k = ap is_odd_word (and_pow m k) ∙ one_set (bit_at m k) k (bit_at-lt m k)
