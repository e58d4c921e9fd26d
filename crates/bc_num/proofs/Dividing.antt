-- Divisibility of integers: by that of their sizes, through factors, and what is left over a greatest common divisor.
use Rattle.std.proofs.Common.{◌≡◌, ℕ, zero, suc, ◌*◌, ◌/◌, ◌<◌, ◌≤◌, [], ◌∷◌, arith, refl, sym, ap, ◌∙◌}
use Rattle.std.specs.Int.{IsGcd}
use Rattle.std.specs.Int.RustNames.{int_div, int_rem, FitsSigned}
use Rattle.std.proofs.lemmas.Int.{ints, unsigned_abs-mul, quot-rem, rem_below, quot_is, quot_fits}
use Rattle.std.proofs.lemmas.Nat.{div-add-mod'}
use Rattle.std.proofs.lemmas.Nat.Gcd.{mod-eq-zero_of_dvd}
use Prim.Native.Nat.{◌∣◌}
use lib.IntN.{ℤ, pos, negsuc, ◌+ℤ◌, ◌-ℤ◌, ◌*ℤ◌, neg_ℤ, nat_abs, *ℤ-zero}
use lib.Signed.{◌≤ℤ◌, ◌<ℤ◌}
use mir.Syntax.{w128}
use mir.Val.{to_z, of_z}
use Rattle.bc_algebra.specs.Within.{IsWithin}
use Rattle.bc_algebra.proofs.Ring.{ring, quotes, by_one, by_two}
use Rattle.bc_algebra.proofs.Order.{cancel_eq}
use Rattle.bc_num.specs.Divides.{Divides, IsGcdOf, IsGcdOf3, IsGcdOf4}

-- ---- by sizes
-- where d divides z, its size divides that of z
pub sizes_of-Divides : (d z : ℤ) → Divides d z → nat_abs d ∣ nat_abs z
sizes_of-Divides d z h =
    let e : nat_abs z ≡ nat_abs d * nat_abs h.times = ap nat_abs h.is ∙ unsigned_abs-mul h.times d ∙ omega arith in
    ∣ (nat_abs h.times, e) ∣₁

-- a multiple of m is its quotient by m times m
quotient : (m n : ℕ) → m ∣ n → n ≡ n / m * m
quotient m n h =
    let e = div-add-mod' n m in
    let r = mod-eq-zero_of_dvd m h in
    omega arith

-- a sign moves from the left factor to the product
minus : (a b : ℤ) → neg_ℤ a *ℤ b ≡ neg_ℤ (a *ℤ b)
minus a b = ring (a ∷ b ∷ []) (search quotes depth 20) refl

-- d divides z, where its size divides that of z
pub Divides_of-sizes : (d z : ℤ) → nat_abs d ∣ nat_abs z → Divides d z
Divides_of-sizes (pos m) (pos n) h =
    let e = quotient m n h in
    record { times = pos (n / m); is = omega (arith, ints) }
Divides_of-sizes (pos m) (negsuc n) h =
    let e = quotient m (suc n) h in
    let k = minus (pos (suc n / m)) (pos m) in
    record { times = neg_ℤ (pos (suc n / m)); is = omega (arith, ints) }
Divides_of-sizes (negsuc m) (pos n) h =
    let e = quotient (suc m) n h in
    let k = minus (pos (n / suc m)) (pos (suc m)) in
    record { times = neg_ℤ (pos (n / suc m)); is = omega (arith, ints) }
Divides_of-sizes (negsuc m) (negsuc n) h =
    let e = quotient (suc m) (suc n) h in
    record { times = pos (suc n / suc m); is = omega (arith, ints) }

-- the greatest common divisor of two sizes is that of the numbers
pub IsGcdOf_of-sizes : (a b : ℤ) (n : ℕ) → IsGcd (nat_abs a) (nat_abs b) n → IsGcdOf a b (pos n)
IsGcdOf_of-sizes a b n h = record {
  left = Divides_of-sizes (pos n) a h.0;
  right = Divides_of-sizes (pos n) b h.1;
  greatest = λ d p q. Divides_of-sizes d (pos n) (h.2 (nat_abs d) (sizes_of-Divides d a p) (sizes_of-Divides d b q));
  sign = omega (arith, ints);
}

-- ---- through factors
-- a divisor of a divisor divides
pub Divides_trans : (a b z : ℤ) → Divides a b → Divides b z → Divides a z
Divides_trans a b z h k = record {
  times = k.times *ℤ h.times;
  is = by_two (pos 1) k.times k.is h.is (ring (a ∷ b ∷ z ∷ h.times ∷ k.times ∷ []) (search quotes depth 30) refl);
}

-- a divisor of the negation of a number divides the number
pub Divides_of-neg : (d z : ℤ) → Divides d (neg_ℤ z) → Divides d z
Divides_of-neg d z h = record {
  times = neg_ℤ h.times;
  is = by_one (neg_ℤ (pos 1)) h.is (ring (d ∷ z ∷ h.times ∷ []) (search quotes depth 30) refl);
}

-- where d divides the quotient q of z by g, d times g divides z
pub Divides-mul : (d g q z : ℤ) → q *ℤ g ≡ z → Divides d q → Divides (d *ℤ g) z
Divides-mul d g q z e h = record {
  times = h.times;
  is = by_two (neg_ℤ (pos 1)) g e h.is (ring (d ∷ g ∷ q ∷ z ∷ h.times ∷ []) (search quotes depth 30) refl);
}

-- only 1 has a multiple that is 1
factor_one : (m d : ℕ) → m * d ≡ 1 → d ≡ 1
factor_one zero d e = absurd (omega arith)
factor_one (suc m) zero e = absurd (omega arith)
factor_one (suc m) (suc zero) e = refl
factor_one (suc m) (suc (suc d)) e = absurd (omega arith)

-- where d times g divides g, which is above 0, d is 1
pub one_of-Divides : (d : ℕ) (g : ℤ) → pos 0 <ℤ g → Divides (pos d *ℤ g) g → d ≡ 1
one_of-Divides d g above h =
    let e : (h.times *ℤ pos d) *ℤ g ≡ pos 1 *ℤ g =
    by_one' (ring (h.times ∷ pos d ∷ g ∷ []) (search quotes depth 30) refl) in
    let one : h.times *ℤ pos d ≡ pos 1 = cancel_eq (h.times *ℤ pos d) (pos 1) g above e in
    factor_one (nat_abs h.times) d (sym (unsigned_abs-mul h.times (pos d)) ∙ ap nat_abs one)
  where
    by_one' : (h.times *ℤ pos d) *ℤ g ≡ h.times *ℤ (pos d *ℤ g) → (h.times *ℤ pos d) *ℤ g ≡ pos 1 *ℤ g
    by_one' f = f ∙ sym h.is ∙ omega (arith, ints)

-- the greatest common divisor of three, by two steps
pub IsGcdOf3_of-two : (a b c h g : ℤ) → IsGcdOf a b h → IsGcdOf h c g → IsGcdOf3 a b c g
IsGcdOf3_of-two a b c h g p q = record {
  first = Divides_trans g h a q.left p.left;
  second = Divides_trans g h b q.left p.right;
  third = q.right;
  greatest = λ d x y z. q.greatest d (p.greatest d x y) z;
  sign = q.sign;
}

-- the greatest common divisor of four, by pairs
pub IsGcdOf4_of-pairs : (a b c d h k g : ℤ) → IsGcdOf a b h → IsGcdOf c d k → IsGcdOf h k g → IsGcdOf4 a b c d g
IsGcdOf4_of-pairs a b c d h k g p q r = record {
  first = Divides_trans g h a r.left p.left;
  second = Divides_trans g h b r.left p.right;
  third = Divides_trans g k c r.right q.left;
  fourth = Divides_trans g k d r.right q.right;
  greatest = λ e x y z w. r.greatest e (p.greatest e x y) (q.greatest e z w);
  sign = r.sign;
}

-- a divisor of a number above 0 that is not negative is above 0
pub pos_divisor : (g w : ℤ) → pos 0 ≤ℤ g → pos 0 <ℤ w → Divides g w → pos 0 <ℤ g
pos_divisor (pos zero) w h k d = let e = d.is ∙ *ℤ-zero d.times in absurd (omega (arith, ints))
pos_divisor (pos (suc n)) w h k d = omega (arith, ints)
pos_divisor (negsuc n) w h k d = absurd (omega (arith, ints))

-- a multiple of 0 is 0
pub zero_of-Divides : (z : ℤ) → Divides (pos 0) z → z ≡ pos 0
zero_of-Divides z d = d.is ∙ *ℤ-zero d.times

-- what is left of two numbers over their greatest common divisor has no common divisor but 1
pub coprime2 : (x y g x' y' : ℤ) → pos 0 <ℤ g → IsGcdOf x y g → x' *ℤ g ≡ x → y' *ℤ g ≡ y → (d : ℕ) → Divides (pos d) x' → Divides (pos d) y' → d ≡ 1
coprime2 x y g x' y' above h ex ey d dx dy =
    one_of-Divides d g above (h.greatest (pos d *ℤ g) (Divides-mul (pos d) g x' x ex dx) (Divides-mul (pos d) g y' y ey dy))

-- the same of three numbers
pub coprime3 : (x y w g x' y' w' : ℤ) → pos 0 <ℤ g → IsGcdOf3 x y w g → x' *ℤ g ≡ x → y' *ℤ g ≡ y → w' *ℤ g ≡ w → (d : ℕ) → Divides (pos d) x' → Divides (pos d) y' → Divides (pos d) w' → d ≡ 1
coprime3 x y w g x' y' w' above h ex ey ew d dx dy dw =
    one_of-Divides d g above
    (h.greatest (pos d *ℤ g) (Divides-mul (pos d) g x' x ex dx) (Divides-mul (pos d) g y' y ey dy) (Divides-mul (pos d) g w' w ew dw))

-- the same of four numbers
pub coprime4 : (x y z w g x' y' z' w' : ℤ) → pos 0 <ℤ g → IsGcdOf4 x y z w g → x' *ℤ g ≡ x → y' *ℤ g ≡ y → z' *ℤ g ≡ z → w' *ℤ g ≡ w → (d : ℕ) → Divides (pos d) x' → Divides (pos d) y' → Divides (pos d) z' → Divides (pos d) w' → d ≡ 1
coprime4 x y z w g x' y' z' w' above h ex ey ez ew d dx dy dz dw =
    one_of-Divides d g above
    (h.greatest (pos d *ℤ g) (Divides-mul (pos d) g x' x ex dx) (Divides-mul (pos d) g y' y ey dy) (Divides-mul (pos d) g z' z ez dz) (Divides-mul (pos d) g w' w ew dw))

-- a natural number that divides 1 is 1
one_of-Divides-one : (d : ℕ) → Divides (pos d) (pos 1) → d ≡ 1
one_of-Divides-one d h =
    factor_one (nat_abs h.times) d (sym (unsigned_abs-mul h.times (pos d)) ∙ sym (ap nat_abs h.is))

-- two numbers whose greatest common divisor is 1 have no common divisor but 1
pub coprime_of-gcd : (x y : ℤ) → IsGcdOf x y (pos 1) → (d : ℕ) → Divides (pos d) x → Divides (pos d) y → d ≡ 1
coprime_of-gcd x y h d dx dy = one_of-Divides-one d (h.greatest (pos d) dx dy)

-- and the other way
pub gcd_of-coprime : (x y g : ℤ) → ((d : ℕ) → Divides (pos d) x → Divides (pos d) y → d ≡ 1) → IsGcdOf x y g → g ≡ pos 1
gcd_of-coprime x y (pos n) h k = ap pos (h n k.left k.right)
gcd_of-coprime x y (negsuc n) h k = absurd (let s = k.sign in omega (arith, ints))

-- ---- exact quotients
-- a product of two natural numbers is below the second only where the first is 0
small_multiple : (m n : ℕ) → m * n < n → m ≡ 0
small_multiple zero n h = refl
small_multiple (suc m) n h = absurd (omega arith)

-- only 0 has the size 0
nothing : (z : ℤ) → nat_abs z ≡ 0 → z ≡ pos 0
nothing (pos n) e = ap pos e
nothing (negsuc n) e = cc

-- the quotient of a multiple is exact
pub exact : (a g : ℤ) → pos 0 <ℤ g → Divides g a → int_div a g *ℤ g ≡ a
exact a g h d =
    let q = int_div a g in
    let r = int_rem a g in
    let e : q *ℤ g +ℤ r ≡ a = quot-rem a g in
    let f : a ≡ d.times *ℤ g = d.is in
    let k : (d.times -ℤ q) *ℤ g ≡ d.times *ℤ g -ℤ q *ℤ g = ring (d.times ∷ q ∷ g ∷ []) (search quotes depth 30) refl in
    let s : r ≡ (d.times -ℤ q) *ℤ g = omega (arith, ints) in
    let above : 0 < nat_abs g = omega (arith, ints) in
    let b : nat_abs r < nat_abs g = rem_below a g above in
    let m : nat_abs r ≡ nat_abs (d.times -ℤ q) * nat_abs g = ap nat_abs s ∙ unsigned_abs-mul (d.times -ℤ q) g in
    let z : nat_abs (d.times -ℤ q) ≡ 0 = small_multiple (nat_abs (d.times -ℤ q)) (nat_abs g) (omega arith) in
    let t : d.times -ℤ q ≡ pos 0 = nothing (d.times -ℤ q) z in
    let same : d.times ≡ q = omega (arith, ints) in
    ap (λ x. x *ℤ g) (sym same) ∙ sym f

-- the same for the quotient of two 128-bit numbers as code makes it
pub divided_is : (a g : ℤ) → FitsSigned w128 a → FitsSigned w128 g → pos 0 <ℤ g → Divides g a → to_z w128 (of_z w128 (int_div (to_z w128 (of_z w128 a)) (to_z w128 (of_z w128 g)))) *ℤ g ≡ a
divided_is a g u v h d = rw (quot_is w128 a g u v (quot_fits w128 a g u h)) (exact a g h d)

-- a factor above 0 makes no number smaller
larger : (m n : ℕ) → 0 < n → m ≤ m * n
larger m n h = grind arith

-- no number is larger in size than a multiple of it by a number that is not 0
pub factor_no_larger : (q g a : ℤ) → 0 < nat_abs g → q *ℤ g ≡ a → nat_abs q ≤ nat_abs a
factor_no_larger q g a above e =
    let s : nat_abs q * nat_abs g ≡ nat_abs a = sym (unsigned_abs-mul q g) ∙ ap nat_abs e in
    let m : nat_abs q ≤ nat_abs q * nat_abs g = larger (nat_abs q) (nat_abs g) above in
    omega arith

-- an exact quotient is no larger in size
pub quotient_no_larger : (q g a : ℤ) → pos 0 <ℤ g → q *ℤ g ≡ a → nat_abs q ≤ nat_abs a
quotient_no_larger q g a h e = factor_no_larger q g a (omega (arith, ints)) e

-- so it is within each bound of the number
pub quotient_within : (n : ℕ) (q g a : ℤ) → pos 0 <ℤ g → q *ℤ g ≡ a → IsWithin n a → IsWithin n q
quotient_within n q g a h e w =
    let m = quotient_no_larger q g a h e in
    let b = w.within in
    record { within = omega arith }

-- the quotients of two numbers by one divisor are in their ratio
pub crossed : (x w g a b : ℤ) → a *ℤ g ≡ x → b *ℤ g ≡ w → x *ℤ b ≡ a *ℤ w
crossed x w g a b h k =
    by_two (neg_ℤ b) a h k (ring (x ∷ w ∷ g ∷ a ∷ b ∷ []) (search quotes depth 30) refl)
