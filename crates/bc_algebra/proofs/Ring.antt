-- Identities of polynomials over the integers, by computation: `ring`, with `search quotes`, and `by_one`, `by_two`, `by_three`
-- from given equations times factors. A false identity is refused where its `refl` is checked.
use Rattle.std.proofs.Common.{◌≡◌, ℕ, zero, suc, Bool, true, false, ◌&&◌, ltb, List, [], ◌∷◌, arith, refl, sym, ap, ◌∙◌}
use borrow.Author.Differences.{ints}
use Rattle.std.proofs.lemmas.Bool.{and_parts}
use Rattle.std.proofs.lemmas.Bool.Decides.{nat_tests}
use lib.IntN.{ℤ, pos, negsuc, ◌+ℤ◌, ◌-ℤ◌, ◌*ℤ◌, neg_ℤ, zero-*ℤ, *ℤ-zero, +ℤ_invr}
use Rattle.bc_algebra.proofs.Laws.{mul_add, add_mul, mul_assoc, mul_swap, neg_one}

-- an expression, over variables by number
pub data Expr : Type 0 where
  var : ℕ → Expr
  con : ℤ → Expr
  add : Expr → Expr → Expr
  mul : Expr → Expr → Expr
  neg : Expr → Expr

-- the variable of a number
abbrev pub at : List ℤ → ℕ → ℤ
at [] n = pos 0
at (x ∷ xs) zero = x
at (x ∷ xs) (suc n) = at xs n

-- its value, where xs are the values of the variables
abbrev pub eval : List ℤ → Expr → ℤ
eval xs (var n) = at xs n
eval xs (con z) = z
eval xs (add e f) = eval xs e +ℤ eval xs f
eval xs (mul e f) = eval xs e *ℤ eval xs f
eval xs (neg e) = neg_ℤ (eval xs e)

-- a polynomial: a constant, or `horner i p q` for p + x * q, where x is the variable i, p has only variables after i, and q none before i.
-- Only the value is proved to be kept, so nothing here rests on that order
pub data Poly : Type 0 where
  constant : ℤ → Poly
  horner : ℕ → Poly → Poly → Poly

-- its value
abbrev pub val : List ℤ → Poly → ℤ
val xs (constant z) = z
val xs (horner i p q) = val xs p +ℤ at xs i *ℤ val xs q

-- `horner` without a q of 0
abbrev pub node : ℕ → Poly → Poly → Poly
node i p (constant (pos zero)) = p
node i p q = horner i p q

-- plus a number
abbrev pub lift : ℤ → Poly → Poly
lift a (constant b) = constant (a +ℤ b)
lift a (horner j r s) = horner j (lift a r) s

-- `horner i p q` plus a polynomial, where f adds p and g adds q
abbrev pub merge : ℕ → (Poly → Poly) → (Poly → Poly) → Poly → Poly → Poly
merge i f g q (constant b) = horner i (f (constant b)) q
merge i f g q (horner j r s) =
    elim (ltb i j) [
      | true ↦ horner i (f (horner j r s)) q
      | false ↦ elim (ltb j i) [ true ↦ horner j (merge i f g q r) s | false ↦ node i (f r) (g s) ]
    ]

-- the sum of two polynomials
abbrev pub plus : Poly → Poly → Poly
plus (constant (pos zero)) t = t
plus (constant a) t = lift a t
plus (horner i p q) t = merge i (plus p) (plus q) q t

-- times a number
abbrev pub scale : ℤ → Poly → Poly
scale k (constant a) = constant (k *ℤ a)
scale k (horner i r s) = horner i (scale k r) (scale k s)

-- times a variable
abbrev pub raise : ℕ → Poly → Poly
raise i (constant (pos zero)) = constant (pos zero)
raise i (constant a) = horner i (constant (pos zero)) (constant a)
raise i (horner j r s) =
    elim (ltb j i) [ true ↦ horner j (raise i r) (raise i s) | false ↦ horner i (constant (pos zero)) (horner j r s) ]

-- the product of two polynomials
abbrev pub times : Poly → Poly → Poly
times (constant (pos zero)) t = constant (pos zero)
times (constant (pos (suc zero))) t = t
times (constant a) t = scale a t
times (horner i p q) t = plus (times p t) (raise i (times q t))

-- the polynomial of an expression
abbrev pub normal : Expr → Poly
normal (var n) = horner n (constant (pos 0)) (constant (pos 1))
normal (con z) = constant z
normal (add e f) = plus (normal e) (normal f)
normal (mul e f) = times (normal e) (normal f)
normal (neg e) = scale (negsuc 0) (normal e)

-- each coefficient is 0
abbrev pub is_zero : Poly → Bool
is_zero (constant (pos zero)) = true
is_zero (constant _) = false
is_zero (horner i p q) = is_zero p && is_zero q

-- ---- the value is kept by each step of the arithmetic of polynomials
-- of `node`
val-node : (xs : List ℤ) (i : ℕ) (p q : Poly) → val xs (node i p q) ≡ val xs p +ℤ at xs i *ℤ val xs q
val-node xs i p (constant (pos zero)) = omega (arith, ints, *ℤ-zero (at xs i))
val-node xs i p (constant (pos (suc n))) = refl
val-node xs i p (constant (negsuc n)) = refl
val-node xs i p (horner j r s) = refl

-- of `lift`
val-lift : (xs : List ℤ) (a : ℤ) (p : Poly) → val xs (lift a p) ≡ a +ℤ val xs p
val-lift xs a (constant b) = refl
val-lift xs a (horner j r s) = omega (arith, ints, val-lift xs a r)

-- two variables that are in neither order are one
same_number : (i j : ℕ) → ltb i j ≡ false → ltb j i ≡ false → i ≡ j
same_number i j e f = grind (arith, nat_tests)

-- of `merge`, where f adds something of value v and g adds q
val-merge : (xs : List ℤ) (i : ℕ) (f g : Poly → Poly) (q : Poly) (v : ℤ) → ((t : Poly) → val xs (f t) ≡ v +ℤ val xs t) → ((t : Poly) → val xs (g t) ≡ val xs q +ℤ val xs t) → (t : Poly) → val xs (merge i f g q t) ≡ (v +ℤ at xs i *ℤ val xs q) +ℤ val xs t
val-merge xs i f g q v hf hg (constant b) = omega (arith, ints, hf (constant b))
val-merge xs i f g q v hf hg (horner j r s) =
    (elim (ltb i j) as (λ t. ltb i j ≡ t → val xs (elim t [
      | true ↦ horner i (f (horner j r s)) q
      | false ↦ elim (ltb j i) [ true ↦ horner j (merge i f g q r) s | false ↦ node i (f r) (g s) ]
    ]) ≡ (v +ℤ at xs i *ℤ val xs q) +ℤ (val xs r +ℤ at xs j *ℤ val xs s)) [
      | true ↦ λ e. omega (arith, ints, hf (horner j r s))
      | false ↦ λ e. (elim (ltb j i) as (λ t. ltb j i ≡ t → val xs (elim t [ true ↦ horner j (merge i f g q r) s | false ↦ node i (f r) (g s) ]) ≡ (v +ℤ at xs i *ℤ val xs q) +ℤ (val xs r +ℤ at xs j *ℤ val xs s)) [
        | true ↦ λ d. omega (arith, ints, val-merge xs i f g q v hf hg r)
        | false ↦ λ d. omega (arith, ints, val-node xs i (f r) (g s), hf r, ap (λ z. at xs i *ℤ z) (hg s) ∙ mul_add (at xs i) (val xs q) (val xs s), ap (λ (k : ℕ). at xs k *ℤ val xs s) (same_number i j e d))
      ]) refl
    ]) refl

-- of `plus`
val-plus : (xs : List ℤ) (p t : Poly) → val xs (plus p t) ≡ val xs p +ℤ val xs t
val-plus xs (constant (pos zero)) t = omega (arith, ints)
val-plus xs (constant (pos (suc n))) t = val-lift xs (pos (suc n)) t
val-plus xs (constant (negsuc n)) t = val-lift xs (negsuc n) t
val-plus xs (horner i p q) t =
    val-merge xs i (plus p) (plus q) q (val xs p) (val-plus xs p) (val-plus xs q) t

-- of `scale`
val-scale : (xs : List ℤ) (k : ℤ) (p : Poly) → val xs (scale k p) ≡ k *ℤ val xs p
val-scale xs k (constant a) = refl
val-scale xs k (horner i r s) =
    let x = at xs i in
    omega (arith, ints, val-scale xs k r, ap (λ z. x *ℤ z) (val-scale xs k s) ∙ mul_swap x k (val xs s), mul_add k (val xs r) (x *ℤ val xs s))

-- of `raise`
val-raise : (xs : List ℤ) (i : ℕ) (p : Poly) → val xs (raise i p) ≡ at xs i *ℤ val xs p
val-raise xs i (constant (pos zero)) = sym (*ℤ-zero (at xs i))
val-raise xs i (constant (pos (suc n))) = omega (arith, ints)
val-raise xs i (constant (negsuc n)) = omega (arith, ints)
val-raise xs i (horner j r s) =
    let x = at xs i in
    let y = at xs j in
    (elim (ltb j i) as (λ t. val xs (elim t [ true ↦ horner j (raise i r) (raise i s) | false ↦ horner i (constant (pos zero)) (horner j r s) ]) ≡ at xs i *ℤ (val xs r +ℤ at xs j *ℤ val xs s)) [
      | true ↦ omega (arith, ints, val-raise xs i r, ap (λ z. y *ℤ z) (val-raise xs i s) ∙ mul_swap y x (val xs s), mul_add x (val xs r) (y *ℤ val xs s))
      | false ↦ omega (arith, ints)
    ])

-- of `times`
val-times : (xs : List ℤ) (p t : Poly) → val xs (times p t) ≡ val xs p *ℤ val xs t
val-times xs (constant (pos zero)) t = sym (zero-*ℤ (val xs t))
val-times xs (constant (pos (suc zero))) t = omega (arith, ints)
val-times xs (constant (pos (suc (suc n)))) t = val-scale xs (pos (suc (suc n))) t
val-times xs (constant (negsuc n)) t = val-scale xs (negsuc n) t
val-times xs (horner i p q) t =
    let x = at xs i in
    val-plus xs (times p t) (raise i (times q t))
    ∙ omega (arith, ints, val-times xs p t, val-raise xs i (times q t) ∙ ap (λ z. x *ℤ z) (val-times xs q t) ∙ sym (mul_assoc x (val xs q) (val xs t)), add_mul (val xs p) (x *ℤ val xs q) (val xs t))

-- the polynomial of an expression has its value
pub val-normal : (xs : List ℤ) (e : Expr) → val xs (normal e) ≡ eval xs e
val-normal xs (var n) = omega (arith, ints)
val-normal xs (con z) = refl
val-normal xs (add e f) =
    val-plus xs (normal e) (normal f) ∙ ap (λ z. z +ℤ val xs (normal f)) (val-normal xs e) ∙ ap (λ z. eval xs e +ℤ z) (val-normal xs f)
val-normal xs (mul e f) =
    val-times xs (normal e) (normal f) ∙ ap (λ z. z *ℤ val xs (normal f)) (val-normal xs e) ∙ ap (λ z. eval xs e *ℤ z) (val-normal xs f)
val-normal xs (neg e) = val-scale xs (negsuc 0) (normal e) ∙ neg_one (val xs (normal e)) ∙ ap neg_ℤ (val-normal xs e)

-- a polynomial whose coefficients are all 0 is 0
val-zero : (xs : List ℤ) (p : Poly) → is_zero p ≡ true → val xs p ≡ pos 0
val-zero xs (constant (pos zero)) e = refl
val-zero xs (constant (pos (suc n))) e = cc
val-zero xs (constant (negsuc n)) e = cc
val-zero xs (horner i p q) e =
    let x = at xs i in
    omega (arith, ints, val-zero xs p (and_parts (is_zero p) (is_zero q) e).0, ap (λ z. x *ℤ z) (val-zero xs q (and_parts (is_zero p) (is_zero q) e).1) ∙ *ℤ-zero x)

-- the test that decides an identity
abbrev pub is_nil : Expr → Bool
is_nil e = is_zero (normal e)

-- an expression that passes the test is 0 at all values of its variables
pub solve : (xs : List ℤ) (e : Expr) → is_nil e ≡ true → eval xs e ≡ pos 0
solve xs e t = sym (val-normal xs e) ∙ val-zero xs (normal e) t

-- ---- quoting: `search quotes` finds the expression of a term
pub record Quoted (xs : List ℤ) (z : ℤ) : Type 0 where
  pub expr : Expr
  pub is : eval xs expr ≡ z

-- a sum is quoted part by part
abbrev pub quote-add : {xs : List ℤ} (a b : ℤ) → Quoted xs a → Quoted xs b → Quoted xs (a +ℤ b)
quote-add {xs} a b p q = record {
  expr = add p.expr q.expr;
  is = ap (λ z. z +ℤ eval xs q.expr) p.is ∙ ap (λ z. a +ℤ z) q.is;
}

-- a product is quoted factor by factor
abbrev pub quote-mul : {xs : List ℤ} (a b : ℤ) → Quoted xs a → Quoted xs b → Quoted xs (a *ℤ b)
quote-mul {xs} a b p q = record {
  expr = mul p.expr q.expr;
  is = ap (λ z. z *ℤ eval xs q.expr) p.is ∙ ap (λ z. a *ℤ z) q.is;
}

-- a negation is quoted by what it negates
abbrev pub quote-neg : {xs : List ℤ} (a : ℤ) → Quoted xs a → Quoted xs (neg_ℤ a)
quote-neg {xs} a p = record { expr = neg p.expr; is = ap neg_ℤ p.is }

-- a natural number is quoted as itself
abbrev pub quote-pos : {xs : List ℤ} (n : ℕ) → Quoted xs (pos n)
quote-pos n = record { expr = con (pos n); is = refl }

-- a number below 0 is quoted as itself
abbrev pub quote-negsuc : {xs : List ℤ} (n : ℕ) → Quoted xs (negsuc n)
quote-negsuc n = record { expr = con (negsuc n); is = refl }

-- the atom at each place of the list is quoted as the variable of that place
abbrev pub quote_0 : (a : ℤ) (xs : List ℤ) → Quoted (a ∷ xs) a
quote_0 a xs = record { expr = var 0; is = refl }

abbrev pub quote_1 : (y0 a : ℤ) (xs : List ℤ) → Quoted (y0 ∷ a ∷ xs) a
quote_1 y0 a xs = record { expr = var 1; is = refl }

abbrev pub quote_2 : (y0 y1 a : ℤ) (xs : List ℤ) → Quoted (y0 ∷ y1 ∷ a ∷ xs) a
quote_2 y0 y1 a xs = record { expr = var 2; is = refl }

abbrev pub quote_3 : (y0 y1 y2 a : ℤ) (xs : List ℤ) → Quoted (y0 ∷ y1 ∷ y2 ∷ a ∷ xs) a
quote_3 y0 y1 y2 a xs = record { expr = var 3; is = refl }

abbrev pub quote_4 : (y0 y1 y2 y3 a : ℤ) (xs : List ℤ) → Quoted (y0 ∷ y1 ∷ y2 ∷ y3 ∷ a ∷ xs) a
quote_4 y0 y1 y2 y3 a xs = record { expr = var 4; is = refl }

abbrev pub quote_5 : (y0 y1 y2 y3 y4 a : ℤ) (xs : List ℤ) → Quoted (y0 ∷ y1 ∷ y2 ∷ y3 ∷ y4 ∷ a ∷ xs) a
quote_5 y0 y1 y2 y3 y4 a xs = record { expr = var 5; is = refl }

abbrev pub quote_6 : (y0 y1 y2 y3 y4 y5 a : ℤ) (xs : List ℤ) → Quoted (y0 ∷ y1 ∷ y2 ∷ y3 ∷ y4 ∷ y5 ∷ a ∷ xs) a
quote_6 y0 y1 y2 y3 y4 y5 a xs = record { expr = var 6; is = refl }

abbrev pub quote_7 : (y0 y1 y2 y3 y4 y5 y6 a : ℤ) (xs : List ℤ) → Quoted (y0 ∷ y1 ∷ y2 ∷ y3 ∷ y4 ∷ y5 ∷ y6 ∷ a ∷ xs) a
quote_7 y0 y1 y2 y3 y4 y5 y6 a xs = record { expr = var 7; is = refl }

abbrev pub quote_8 : (y0 y1 y2 y3 y4 y5 y6 y7 a : ℤ) (xs : List ℤ) → Quoted (y0 ∷ y1 ∷ y2 ∷ y3 ∷ y4 ∷ y5 ∷ y6 ∷ y7 ∷ a ∷ xs) a
quote_8 y0 y1 y2 y3 y4 y5 y6 y7 a xs = record { expr = var 8; is = refl }

abbrev pub quote_9 : (y0 y1 y2 y3 y4 y5 y6 y7 y8 a : ℤ) (xs : List ℤ) → Quoted (y0 ∷ y1 ∷ y2 ∷ y3 ∷ y4 ∷ y5 ∷ y6 ∷ y7 ∷ y8 ∷ a ∷ xs) a
quote_9 y0 y1 y2 y3 y4 y5 y6 y7 y8 a xs = record { expr = var 9; is = refl }

abbrev pub quote_10 : (y0 y1 y2 y3 y4 y5 y6 y7 y8 y9 a : ℤ) (xs : List ℤ) → Quoted (y0 ∷ y1 ∷ y2 ∷ y3 ∷ y4 ∷ y5 ∷ y6 ∷ y7 ∷ y8 ∷ y9 ∷ a ∷ xs) a
quote_10 y0 y1 y2 y3 y4 y5 y6 y7 y8 y9 a xs = record { expr = var 10; is = refl }

abbrev pub quote_11 : (y0 y1 y2 y3 y4 y5 y6 y7 y8 y9 y10 a : ℤ) (xs : List ℤ) → Quoted (y0 ∷ y1 ∷ y2 ∷ y3 ∷ y4 ∷ y5 ∷ y6 ∷ y7 ∷ y8 ∷ y9 ∷ y10 ∷ a ∷ xs) a
quote_11 y0 y1 y2 y3 y4 y5 y6 y7 y8 y9 y10 a xs = record { expr = var 11; is = refl }

abbrev pub quote_12 : (y0 y1 y2 y3 y4 y5 y6 y7 y8 y9 y10 y11 a : ℤ) (xs : List ℤ) → Quoted (y0 ∷ y1 ∷ y2 ∷ y3 ∷ y4 ∷ y5 ∷ y6 ∷ y7 ∷ y8 ∷ y9 ∷ y10 ∷ y11 ∷ a ∷ xs) a
quote_12 y0 y1 y2 y3 y4 y5 y6 y7 y8 y9 y10 y11 a xs = record { expr = var 12; is = refl }

abbrev pub quote_13 : (y0 y1 y2 y3 y4 y5 y6 y7 y8 y9 y10 y11 y12 a : ℤ) (xs : List ℤ) → Quoted (y0 ∷ y1 ∷ y2 ∷ y3 ∷ y4 ∷ y5 ∷ y6 ∷ y7 ∷ y8 ∷ y9 ∷ y10 ∷ y11 ∷ y12 ∷ a ∷ xs) a
quote_13 y0 y1 y2 y3 y4 y5 y6 y7 y8 y9 y10 y11 y12 a xs = record { expr = var 13; is = refl }

abbrev pub quote_14 : (y0 y1 y2 y3 y4 y5 y6 y7 y8 y9 y10 y11 y12 y13 a : ℤ) (xs : List ℤ) → Quoted (y0 ∷ y1 ∷ y2 ∷ y3 ∷ y4 ∷ y5 ∷ y6 ∷ y7 ∷ y8 ∷ y9 ∷ y10 ∷ y11 ∷ y12 ∷ y13 ∷ a ∷ xs) a
quote_14 y0 y1 y2 y3 y4 y5 y6 y7 y8 y9 y10 y11 y12 y13 a xs = record { expr = var 14; is = refl }

abbrev pub quote_15 : (y0 y1 y2 y3 y4 y5 y6 y7 y8 y9 y10 y11 y12 y13 y14 a : ℤ) (xs : List ℤ) → Quoted (y0 ∷ y1 ∷ y2 ∷ y3 ∷ y4 ∷ y5 ∷ y6 ∷ y7 ∷ y8 ∷ y9 ∷ y10 ∷ y11 ∷ y12 ∷ y13 ∷ y14 ∷ a ∷ xs) a
quote_15 y0 y1 y2 y3 y4 y5 y6 y7 y8 y9 y10 y11 y12 y13 y14 a xs = record { expr = var 15; is = refl }

abbrev pub quote_16 : (y0 y1 y2 y3 y4 y5 y6 y7 y8 y9 y10 y11 y12 y13 y14 y15 a : ℤ) (xs : List ℤ) → Quoted (y0 ∷ y1 ∷ y2 ∷ y3 ∷ y4 ∷ y5 ∷ y6 ∷ y7 ∷ y8 ∷ y9 ∷ y10 ∷ y11 ∷ y12 ∷ y13 ∷ y14 ∷ y15 ∷ a ∷ xs) a
quote_16 y0 y1 y2 y3 y4 y5 y6 y7 y8 y9 y10 y11 y12 y13 y14 y15 a xs = record { expr = var 16; is = refl }

abbrev pub quote_17 : (y0 y1 y2 y3 y4 y5 y6 y7 y8 y9 y10 y11 y12 y13 y14 y15 y16 a : ℤ) (xs : List ℤ) → Quoted (y0 ∷ y1 ∷ y2 ∷ y3 ∷ y4 ∷ y5 ∷ y6 ∷ y7 ∷ y8 ∷ y9 ∷ y10 ∷ y11 ∷ y12 ∷ y13 ∷ y14 ∷ y15 ∷ y16 ∷ a ∷ xs) a
quote_17 y0 y1 y2 y3 y4 y5 y6 y7 y8 y9 y10 y11 y12 y13 y14 y15 y16 a xs = record { expr = var 17; is = refl }

abbrev pub quote_18 : (y0 y1 y2 y3 y4 y5 y6 y7 y8 y9 y10 y11 y12 y13 y14 y15 y16 y17 a : ℤ) (xs : List ℤ) → Quoted (y0 ∷ y1 ∷ y2 ∷ y3 ∷ y4 ∷ y5 ∷ y6 ∷ y7 ∷ y8 ∷ y9 ∷ y10 ∷ y11 ∷ y12 ∷ y13 ∷ y14 ∷ y15 ∷ y16 ∷ y17 ∷ a ∷ xs) a
quote_18 y0 y1 y2 y3 y4 y5 y6 y7 y8 y9 y10 y11 y12 y13 y14 y15 y16 y17 a xs = record { expr = var 18; is = refl }

abbrev pub quote_19 : (y0 y1 y2 y3 y4 y5 y6 y7 y8 y9 y10 y11 y12 y13 y14 y15 y16 y17 y18 a : ℤ) (xs : List ℤ) → Quoted (y0 ∷ y1 ∷ y2 ∷ y3 ∷ y4 ∷ y5 ∷ y6 ∷ y7 ∷ y8 ∷ y9 ∷ y10 ∷ y11 ∷ y12 ∷ y13 ∷ y14 ∷ y15 ∷ y16 ∷ y17 ∷ y18 ∷ a ∷ xs) a
quote_19 y0 y1 y2 y3 y4 y5 y6 y7 y8 y9 y10 y11 y12 y13 y14 y15 y16 y17 y18 a xs = record { expr = var 19; is = refl }

abbrev pub quote_20 : (y0 y1 y2 y3 y4 y5 y6 y7 y8 y9 y10 y11 y12 y13 y14 y15 y16 y17 y18 y19 a : ℤ) (xs : List ℤ) → Quoted (y0 ∷ y1 ∷ y2 ∷ y3 ∷ y4 ∷ y5 ∷ y6 ∷ y7 ∷ y8 ∷ y9 ∷ y10 ∷ y11 ∷ y12 ∷ y13 ∷ y14 ∷ y15 ∷ y16 ∷ y17 ∷ y18 ∷ y19 ∷ a ∷ xs) a
quote_20 y0 y1 y2 y3 y4 y5 y6 y7 y8 y9 y10 y11 y12 y13 y14 y15 y16 y17 y18 y19 a xs = record { expr = var 20; is = refl }

abbrev pub quote_21 : (y0 y1 y2 y3 y4 y5 y6 y7 y8 y9 y10 y11 y12 y13 y14 y15 y16 y17 y18 y19 y20 a : ℤ) (xs : List ℤ) → Quoted (y0 ∷ y1 ∷ y2 ∷ y3 ∷ y4 ∷ y5 ∷ y6 ∷ y7 ∷ y8 ∷ y9 ∷ y10 ∷ y11 ∷ y12 ∷ y13 ∷ y14 ∷ y15 ∷ y16 ∷ y17 ∷ y18 ∷ y19 ∷ y20 ∷ a ∷ xs) a
quote_21 y0 y1 y2 y3 y4 y5 y6 y7 y8 y9 y10 y11 y12 y13 y14 y15 y16 y17 y18 y19 y20 a xs = record { expr = var 21; is = refl }

abbrev pub quote_22 : (y0 y1 y2 y3 y4 y5 y6 y7 y8 y9 y10 y11 y12 y13 y14 y15 y16 y17 y18 y19 y20 y21 a : ℤ) (xs : List ℤ) → Quoted (y0 ∷ y1 ∷ y2 ∷ y3 ∷ y4 ∷ y5 ∷ y6 ∷ y7 ∷ y8 ∷ y9 ∷ y10 ∷ y11 ∷ y12 ∷ y13 ∷ y14 ∷ y15 ∷ y16 ∷ y17 ∷ y18 ∷ y19 ∷ y20 ∷ y21 ∷ a ∷ xs) a
quote_22 y0 y1 y2 y3 y4 y5 y6 y7 y8 y9 y10 y11 y12 y13 y14 y15 y16 y17 y18 y19 y20 y21 a xs = record { expr = var 22; is = refl }

abbrev pub quote_23 : (y0 y1 y2 y3 y4 y5 y6 y7 y8 y9 y10 y11 y12 y13 y14 y15 y16 y17 y18 y19 y20 y21 y22 a : ℤ) (xs : List ℤ) → Quoted (y0 ∷ y1 ∷ y2 ∷ y3 ∷ y4 ∷ y5 ∷ y6 ∷ y7 ∷ y8 ∷ y9 ∷ y10 ∷ y11 ∷ y12 ∷ y13 ∷ y14 ∷ y15 ∷ y16 ∷ y17 ∷ y18 ∷ y19 ∷ y20 ∷ y21 ∷ y22 ∷ a ∷ xs) a
quote_23 y0 y1 y2 y3 y4 y5 y6 y7 y8 y9 y10 y11 y12 y13 y14 y15 y16 y17 y18 y19 y20 y21 y22 a xs = record { expr = var 23; is = refl }

abbrev pub quote_24 : (y0 y1 y2 y3 y4 y5 y6 y7 y8 y9 y10 y11 y12 y13 y14 y15 y16 y17 y18 y19 y20 y21 y22 y23 a : ℤ) (xs : List ℤ) → Quoted (y0 ∷ y1 ∷ y2 ∷ y3 ∷ y4 ∷ y5 ∷ y6 ∷ y7 ∷ y8 ∷ y9 ∷ y10 ∷ y11 ∷ y12 ∷ y13 ∷ y14 ∷ y15 ∷ y16 ∷ y17 ∷ y18 ∷ y19 ∷ y20 ∷ y21 ∷ y22 ∷ y23 ∷ a ∷ xs) a
quote_24 y0 y1 y2 y3 y4 y5 y6 y7 y8 y9 y10 y11 y12 y13 y14 y15 y16 y17 y18 y19 y20 y21 y22 y23 a xs = record { expr = var 24; is = refl }

abbrev pub quote_25 : (y0 y1 y2 y3 y4 y5 y6 y7 y8 y9 y10 y11 y12 y13 y14 y15 y16 y17 y18 y19 y20 y21 y22 y23 y24 a : ℤ) (xs : List ℤ) → Quoted (y0 ∷ y1 ∷ y2 ∷ y3 ∷ y4 ∷ y5 ∷ y6 ∷ y7 ∷ y8 ∷ y9 ∷ y10 ∷ y11 ∷ y12 ∷ y13 ∷ y14 ∷ y15 ∷ y16 ∷ y17 ∷ y18 ∷ y19 ∷ y20 ∷ y21 ∷ y22 ∷ y23 ∷ y24 ∷ a ∷ xs) a
quote_25 y0 y1 y2 y3 y4 y5 y6 y7 y8 y9 y10 y11 y12 y13 y14 y15 y16 y17 y18 y19 y20 y21 y22 y23 y24 a xs = record { expr = var 25; is = refl }

abbrev pub quote_26 : (y0 y1 y2 y3 y4 y5 y6 y7 y8 y9 y10 y11 y12 y13 y14 y15 y16 y17 y18 y19 y20 y21 y22 y23 y24 y25 a : ℤ) (xs : List ℤ) → Quoted (y0 ∷ y1 ∷ y2 ∷ y3 ∷ y4 ∷ y5 ∷ y6 ∷ y7 ∷ y8 ∷ y9 ∷ y10 ∷ y11 ∷ y12 ∷ y13 ∷ y14 ∷ y15 ∷ y16 ∷ y17 ∷ y18 ∷ y19 ∷ y20 ∷ y21 ∷ y22 ∷ y23 ∷ y24 ∷ y25 ∷ a ∷ xs) a
quote_26 y0 y1 y2 y3 y4 y5 y6 y7 y8 y9 y10 y11 y12 y13 y14 y15 y16 y17 y18 y19 y20 y21 y22 y23 y24 y25 a xs = record { expr = var 26; is = refl }

abbrev pub quote_27 : (y0 y1 y2 y3 y4 y5 y6 y7 y8 y9 y10 y11 y12 y13 y14 y15 y16 y17 y18 y19 y20 y21 y22 y23 y24 y25 y26 a : ℤ) (xs : List ℤ) → Quoted (y0 ∷ y1 ∷ y2 ∷ y3 ∷ y4 ∷ y5 ∷ y6 ∷ y7 ∷ y8 ∷ y9 ∷ y10 ∷ y11 ∷ y12 ∷ y13 ∷ y14 ∷ y15 ∷ y16 ∷ y17 ∷ y18 ∷ y19 ∷ y20 ∷ y21 ∷ y22 ∷ y23 ∷ y24 ∷ y25 ∷ y26 ∷ a ∷ xs) a
quote_27 y0 y1 y2 y3 y4 y5 y6 y7 y8 y9 y10 y11 y12 y13 y14 y15 y16 y17 y18 y19 y20 y21 y22 y23 y24 y25 y26 a xs = record { expr = var 27; is = refl }

abbrev pub quote_28 : (y0 y1 y2 y3 y4 y5 y6 y7 y8 y9 y10 y11 y12 y13 y14 y15 y16 y17 y18 y19 y20 y21 y22 y23 y24 y25 y26 y27 a : ℤ) (xs : List ℤ) → Quoted (y0 ∷ y1 ∷ y2 ∷ y3 ∷ y4 ∷ y5 ∷ y6 ∷ y7 ∷ y8 ∷ y9 ∷ y10 ∷ y11 ∷ y12 ∷ y13 ∷ y14 ∷ y15 ∷ y16 ∷ y17 ∷ y18 ∷ y19 ∷ y20 ∷ y21 ∷ y22 ∷ y23 ∷ y24 ∷ y25 ∷ y26 ∷ y27 ∷ a ∷ xs) a
quote_28 y0 y1 y2 y3 y4 y5 y6 y7 y8 y9 y10 y11 y12 y13 y14 y15 y16 y17 y18 y19 y20 y21 y22 y23 y24 y25 y26 y27 a xs = record { expr = var 28; is = refl }

abbrev pub quote_29 : (y0 y1 y2 y3 y4 y5 y6 y7 y8 y9 y10 y11 y12 y13 y14 y15 y16 y17 y18 y19 y20 y21 y22 y23 y24 y25 y26 y27 y28 a : ℤ) (xs : List ℤ) → Quoted (y0 ∷ y1 ∷ y2 ∷ y3 ∷ y4 ∷ y5 ∷ y6 ∷ y7 ∷ y8 ∷ y9 ∷ y10 ∷ y11 ∷ y12 ∷ y13 ∷ y14 ∷ y15 ∷ y16 ∷ y17 ∷ y18 ∷ y19 ∷ y20 ∷ y21 ∷ y22 ∷ y23 ∷ y24 ∷ y25 ∷ y26 ∷ y27 ∷ y28 ∷ a ∷ xs) a
quote_29 y0 y1 y2 y3 y4 y5 y6 y7 y8 y9 y10 y11 y12 y13 y14 y15 y16 y17 y18 y19 y20 y21 y22 y23 y24 y25 y26 y27 y28 a xs = record { expr = var 29; is = refl }

abbrev pub quote_30 : (y0 y1 y2 y3 y4 y5 y6 y7 y8 y9 y10 y11 y12 y13 y14 y15 y16 y17 y18 y19 y20 y21 y22 y23 y24 y25 y26 y27 y28 y29 a : ℤ) (xs : List ℤ) → Quoted (y0 ∷ y1 ∷ y2 ∷ y3 ∷ y4 ∷ y5 ∷ y6 ∷ y7 ∷ y8 ∷ y9 ∷ y10 ∷ y11 ∷ y12 ∷ y13 ∷ y14 ∷ y15 ∷ y16 ∷ y17 ∷ y18 ∷ y19 ∷ y20 ∷ y21 ∷ y22 ∷ y23 ∷ y24 ∷ y25 ∷ y26 ∷ y27 ∷ y28 ∷ y29 ∷ a ∷ xs) a
quote_30 y0 y1 y2 y3 y4 y5 y6 y7 y8 y9 y10 y11 y12 y13 y14 y15 y16 y17 y18 y19 y20 y21 y22 y23 y24 y25 y26 y27 y28 y29 a xs = record { expr = var 30; is = refl }

abbrev pub quote_31 : (y0 y1 y2 y3 y4 y5 y6 y7 y8 y9 y10 y11 y12 y13 y14 y15 y16 y17 y18 y19 y20 y21 y22 y23 y24 y25 y26 y27 y28 y29 y30 a : ℤ) (xs : List ℤ) → Quoted (y0 ∷ y1 ∷ y2 ∷ y3 ∷ y4 ∷ y5 ∷ y6 ∷ y7 ∷ y8 ∷ y9 ∷ y10 ∷ y11 ∷ y12 ∷ y13 ∷ y14 ∷ y15 ∷ y16 ∷ y17 ∷ y18 ∷ y19 ∷ y20 ∷ y21 ∷ y22 ∷ y23 ∷ y24 ∷ y25 ∷ y26 ∷ y27 ∷ y28 ∷ y29 ∷ y30 ∷ a ∷ xs) a
quote_31 y0 y1 y2 y3 y4 y5 y6 y7 y8 y9 y10 y11 y12 y13 y14 y15 y16 y17 y18 y19 y20 y21 y22 y23 y24 y25 y26 y27 y28 y29 y30 a xs = record { expr = var 31; is = refl }

-- `search (quotes) depth 30` finds the expression of a term over at most 32 atoms
pub ruleset quotes = (quote_0, quote_1, quote_2, quote_3, quote_4, quote_5, quote_6, quote_7, quote_8, quote_9, quote_10, quote_11, quote_12, quote_13, quote_14, quote_15, quote_16, quote_17, quote_18, quote_19, quote_20, quote_21, quote_22, quote_23, quote_24, quote_25, quote_26, quote_27, quote_28, quote_29, quote_30, quote_31, quote-add, quote-mul, quote-neg, quote-pos, quote-negsuc)

-- a ≡ b: `ring (x ∷ y ∷ []) (search quotes depth 30) refl`, with each variable or other atom of the two sides listed once
pub ring : (xs : List ℤ) {a b : ℤ} (q : Quoted xs (a -ℤ b)) → is_nil q.expr ≡ true → a ≡ b
ring xs {a} {b} q t =
    let e : a -ℤ b ≡ pos 0 = sym q.is ∙ solve xs q.expr t in
    omega (arith, ints)

-- the two sides of an equation differ by 0, so a factor times that is 0
none : (k l r : ℤ) → l ≡ r → k *ℤ (l -ℤ r) ≡ pos 0
none k l r h = ap (λ z. k *ℤ (z -ℤ r)) h ∙ ap (λ z. k *ℤ z) (+ℤ_invr r) ∙ *ℤ-zero k

-- a ≡ b from an equation times a factor, or from two or three such: `ring` proves the last argument
pub by_one : {a b l r : ℤ} (k : ℤ) → l ≡ r → a -ℤ b ≡ k *ℤ (l -ℤ r) → a ≡ b
by_one {a} {b} {l} {r} k h e =
    let z = none k l r h in
    omega (arith, ints)

-- the same from two equations, each times a factor
pub by_two : {a b l r l' r' : ℤ} (k k' : ℤ) → l ≡ r → l' ≡ r' → a -ℤ b ≡ k *ℤ (l -ℤ r) +ℤ k' *ℤ (l' -ℤ r') → a ≡ b
by_two {a} {b} {l} {r} {l'} {r'} k k' h h' e =
    let z = none k l r h in
    let z' = none k' l' r' h' in
    omega (arith, ints)

-- the same from three equations, each times a factor
pub by_three : {a b l r l' r' l'' r'' : ℤ} (k k' k'' : ℤ) → l ≡ r → l' ≡ r' → l'' ≡ r'' → a -ℤ b ≡ k *ℤ (l -ℤ r) +ℤ k' *ℤ (l' -ℤ r') +ℤ k'' *ℤ (l'' -ℤ r'') → a ≡ b
by_three {a} {b} {l} {r} {l'} {r'} {l''} {r''} k k' k'' h h' h'' e =
    let z = none k l r h in
    let z' = none k' l' r' h' in
    let z'' = none k'' l'' r'' h'' in
    omega (arith, ints)
