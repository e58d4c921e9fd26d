-- Laws of `xor`, and of how many elements of a list pass a test, modulo 2.
use Rattle.std.proofs.Common.{◌≡◌, Bool, true, false, not, ◌&&◌, ◌||◌, List, [], ◌∷◌, ◌++◌, refl, sym, ◌∙◌, ap}
use Rattle.std.specs.Prelude.{All}
use Rattle.std.proofs.lemmas.List.Elements.{All-head, All-tail}
use Rattle.bc_parity.specs.Parity.{xor}
use Rattle.bc_parity.specs.Sums.{odd}

pub xor_false : (a : Bool) → xor a false ≡ a
xor_false true = refl
xor_false false = refl

pub xor_same : (a : Bool) → xor a a ≡ false
xor_same true = refl
xor_same false = refl

pub xor_comm : (a b : Bool) → xor a b ≡ xor b a
xor_comm true true = refl
xor_comm true false = refl
xor_comm false true = refl
xor_comm false false = refl

pub xor_assoc : (a b c : Bool) → xor (xor a b) c ≡ xor a (xor b c)
xor_assoc true true true = refl
xor_assoc true true false = refl
xor_assoc true false c = refl
xor_assoc false b c = refl

-- two sums, place by place
pub xor_swap : (a b c d : Bool) → xor (xor a b) (xor c d) ≡ xor (xor a c) (xor b d)
xor_swap true true true d = refl
xor_swap true true false true = refl
xor_swap true true false false = refl
xor_swap true false true true = refl
xor_swap true false true false = refl
xor_swap true false false d = refl
xor_swap false b true true = xor_not b
  where
    xor_not : (b : Bool) → xor b false ≡ not (xor b true)
    xor_not true = refl
    xor_not false = refl
xor_swap false b true false = xor_not b
  where
    xor_not : (b : Bool) → xor b true ≡ not (xor b false)
    xor_not true = refl
    xor_not false = refl
xor_swap false b false d = refl

-- the middle term twice
pub xor_through : (a b c : Bool) → xor (xor a b) (xor b c) ≡ xor a c
xor_through true true true = refl
xor_through true true false = refl
xor_through true false c = refl
xor_through false true true = refl
xor_through false true false = refl
xor_through false false c = refl

pub xor_zero : (a b : Bool) → xor a b ≡ false → a ≡ b
xor_zero true true e = refl
xor_zero true false e = e
xor_zero false b e = sym e

pub and_xor : (a b c : Bool) → (a && xor b c) ≡ xor (a && b) (a && c)
and_xor true b c = refl
and_xor false b c = refl

pub xor_and : (a b c : Bool) → (xor a b && c) ≡ xor (a && c) (b && c)
xor_and true true true = refl
xor_and true true false = refl
xor_and true false true = refl
xor_and true false false = refl
xor_and false b c = refl

pub and_false : (a : Bool) → (a && false) ≡ false
and_false true = refl
and_false false = refl

pub and_true : (a : Bool) → (a && true) ≡ a
and_true true = refl
and_true false = refl

pub and_comm : (a b : Bool) → (a && b) ≡ (b && a)
and_comm true b = sym (and_true b)
and_comm false b = sym (and_false b)

pub or_true : (a : Bool) → (a || true) ≡ true
or_true true = refl
or_true false = refl

pub or_comm : (a b : Bool) → (a || b) ≡ (b || a)
or_comm true true = refl
or_comm true false = refl
or_comm false true = refl
or_comm false false = refl

-- the second matters only where the first holds
pub and_when : (s x y : Bool) → (s ≡ true → x ≡ y) → (s && x) ≡ (s && y)
and_when true x y h = h refl
and_when false x y h = refl

-- ---- lists

pub odd-append : {A : Type 0} (f : A → Bool) (xs ys : List A) → odd f (xs ++ ys) ≡ xor (odd f xs) (odd f ys)
odd-append f [] ys = refl
odd-append f (x ∷ xs) ys = ap (xor (f x)) (odd-append f xs ys) ∙ sym (xor_assoc (f x) (odd f xs) (odd f ys))

-- the tests agree on each element
pub odd-same : {A : Type 0} (f g : A → Bool) (xs : List A) → All (λ x. f x ≡ g x) xs → odd f xs ≡ odd g xs
odd-same f g [] h = refl
odd-same f g (x ∷ xs) h =
    ap (λ b. xor b (odd f xs)) (All-head (λ x. f x ≡ g x) x xs h)
    ∙ ap (xor (g x)) (odd-same f g xs (All-tail (λ x. f x ≡ g x) x xs h))

pub odd-same_all : {A : Type 0} (f g : A → Bool) (xs : List A) → ((x : A) → f x ≡ g x) → odd f xs ≡ odd g xs
odd-same_all f g [] h = refl
odd-same_all f g (x ∷ xs) h = ap (λ b. xor b (odd f xs)) (h x) ∙ ap (xor (g x)) (odd-same_all f g xs h)

pub odd-xor : {A : Type 0} (f g : A → Bool) (xs : List A) → odd (λ x. xor (f x) (g x)) xs ≡ xor (odd f xs) (odd g xs)
odd-xor f g [] = refl
odd-xor f g (x ∷ xs) = ap (xor (xor (f x) (g x))) (odd-xor f g xs) ∙ xor_swap (f x) (g x) (odd f xs) (odd g xs)

pub odd-and : {A : Type 0} (b : Bool) (f : A → Bool) (xs : List A) → odd (λ x. b && f x) xs ≡ (b && odd f xs)
odd-and true f xs = odd-same_all (λ x. true && f x) f xs (λ x. refl)
odd-and false f xs = none xs
  where
    none : (ys : List _) → odd (λ x. false && f x) ys ≡ false
    none [] = refl
    none (y ∷ ys) = none ys

pub odd-none : {A : Type 0} (xs : List A) → odd (λ x. false) xs ≡ false
odd-none [] = refl
odd-none (x ∷ xs) = odd-none xs
