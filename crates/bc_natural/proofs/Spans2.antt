-- The least and the greatest of numbers that are of one kind or another, as an element's ends and its rim, or as those of
-- some elements and of one more.
use Rattle.std.proofs.Common.{◌≡◌, ℕ, zero, suc, ◌+◌, ◌*◌, ◌<◌, ◌≤◌, ◌⊎◌, inl, inr, Bool, true, false, cond, List, [], ◌∷◌, ◌++◌, length, take, arith, refl, sym, ◌∙◌, subst}
use Rattle.std.specs.Prelude.{slice_get, Some, Contains, Any, int_lt}
use Rattle.std.specs.Int.{int_min, int_max}
use Rattle.std.proofs.lemmas.Int.{ints, clamps}
use Rattle.std.proofs.lemmas.Bool.{cases_lt}
use Rattle.std.proofs.lemmas.List.{take_all}
use Rattle.std.proofs.lemmas.List.Elements.{Contains-append_left, Contains-push, Contains-push_cases}
use lib.IntN.{ℤ, pos, ◌+ℤ◌, ◌-ℤ◌, ◌*ℤ◌}
use lib.Signed.{◌≤ℤ◌, ◌<ℤ◌}
use Rattle.bc_num.specs.declared.box2.Box2.{Box2}
use Rattle.bc_solid.specs.declared.element.Element.{Element}
use Rattle.bc_solid.specs.Boxes.{IsReach, IsRim, IsXOf, IsYOf, IsLeast, IsGreatest, IsBoxOf}
use Rattle.bc_natural.specs.declared.span.Span.{Span}
use Rattle.bc_natural.specs.Spans.{IsSpan, IsHull}
use Rattle.bc_natural.proofs.Lists.{front_more}

-- ---- the lesser and the greater of two

either : (b : Bool) (x y : ℤ) → (cond b y x ≡ x) ⊎ (cond b y x ≡ y)
either true x y = inr refl
either false x y = inl refl

min_one : (x y : ℤ) → (int_min x y ≡ x) ⊎ (int_min x y ≡ y)
min_one x y = either (int_lt y x) x y

max_one : (x y : ℤ) → (int_max x y ≡ y) ⊎ (int_max x y ≡ x)
max_one x y = either (int_lt y x) y x

min_left : (x y : ℤ) → int_min x y ≤ℤ x
min_left x y = omega (arith, ints, clamps)

min_right : (x y : ℤ) → int_min x y ≤ℤ y
min_right x y = omega (arith, ints, clamps)

max_left : (x y : ℤ) → x ≤ℤ int_max x y
max_left x y = omega (arith, ints, clamps)

max_right : (x y : ℤ) → y ≤ℤ int_max x y
max_right x y = omega (arith, ints, clamps)

at_most : (x y z : ℤ) → x ≤ℤ y → y ≤ℤ z → x ≤ℤ z
at_most x y z h k = omega (arith, ints)

-- ---- of one kind or another

least_both : (P Q : ℤ → Type 0) (x y z : ℤ) → IsLeast P x → IsLeast Q y → z ≡ int_min x y → IsLeast (λ v. P v ⊎ Q v) z
least_both P Q x y z h k e = subst (IsLeast (λ v. P v ⊎ Q v)) (sym e) (record { is = own (min_one x y); least = below })
  where
    own : (int_min x y ≡ x) ⊎ (int_min x y ≡ y) → P (int_min x y) ⊎ Q (int_min x y)
    own (inl f) = inl (subst P (sym f) h.is)
    own (inr f) = inr (subst Q (sym f) k.is)

    below : (v : ℤ) → P v ⊎ Q v → int_min x y ≤ℤ v
    below v (inl p) = at_most (int_min x y) x v (min_left x y) (h.least v p)
    below v (inr q) = at_most (int_min x y) y v (min_right x y) (k.least v q)

greatest_both : (P Q : ℤ → Type 0) (x y z : ℤ) → IsGreatest P x → IsGreatest Q y → z ≡ int_max x y → IsGreatest (λ v. P v ⊎ Q v) z
greatest_both P Q x y z h k e = subst (IsGreatest (λ v. P v ⊎ Q v)) (sym e) (record { is = own (max_one x y); greatest = above })
  where
    own : (int_max x y ≡ y) ⊎ (int_max x y ≡ x) → P (int_max x y) ⊎ Q (int_max x y)
    own (inl f) = inr (subst Q (sym f) k.is)
    own (inr f) = inl (subst P (sym f) h.is)

    above : (v : ℤ) → P v ⊎ Q v → v ≤ℤ int_max x y
    above v (inl p) = at_most v x (int_max x y) (h.greatest v p) (max_left x y)
    above v (inr q) = at_most v y (int_max x y) (k.greatest v q) (max_right x y)

span_both : (P Q : ℤ → Type 0) (s t u : Span) → IsSpan P s → IsSpan Q t → IsHull s t u → IsSpan (λ v. P v ⊎ Q v) u
span_both P Q s t u h k j = record {
  least = least_both P Q s.low t.low u.low h.least k.least j.low;
  greatest = greatest_both P Q s.high t.high u.high h.greatest k.greatest j.high;
}

-- the same numbers have the same span
span_as : (P Q : ℤ → Type 0) (s : Span) → ((v : ℤ) → P v → Q v) → ((v : ℤ) → Q v → P v) → IsSpan P s → IsSpan Q s
span_as P Q s to from h = record {
  least = record { is = to s.low h.least.is; least = λ v q. h.least.least v (from v q) };
  greatest = record { is = to s.high h.greatest.is; greatest = λ v q. h.greatest.greatest v (from v q) };
}

-- ---- of an element

one : (x : ℤ) → IsLeast (λ v. v ≡ x) x × IsGreatest (λ v. v ≡ x) x
one x = (record { is = refl; least = λ v e. let f : v ≡ x = e in omega (arith, ints) }, record { is = refl; greatest = λ v e. let f : v ≡ x = e in omega (arith, ints) })

pub span_ends : (a b : ℤ) (s : Span) → s.low ≡ int_min a b → s.high ≡ int_max a b → IsSpan (λ v. (v ≡ a) ⊎ (v ≡ b)) s
span_ends a b s e f = record {
  least = least_both (λ v. v ≡ a) (λ v. v ≡ b) a b s.low (one a).0 (one b).0 e;
  greatest = greatest_both (λ v. v ≡ a) (λ v. v ≡ b) a b s.high (one a).1 (one b).1 f;
}

-- a circle has one reach
one_reach : (r : ℤ) (m n : ℕ) → IsReach r m → IsReach r n → n ≤ m
one_reach r m n h k =
    elim (cases_lt m n) [
      | inl l ↦ absurd (let p : (pos m *ℤ pos m) <ℤ r = k.least m l in let q = h.enough in omega (arith, ints))
      | inr l ↦ l
    ]

span_rim : (r c : ℤ) (m : ℕ) (s : Span) → IsReach r m → s.low ≡ c -ℤ pos m → s.high ≡ c +ℤ pos m → IsSpan (IsRim r c) s
span_rim r c m s k f g = record {
  least = record { is = (m, k, inl f); least = λ v q. inside v q.0 (one_reach r m q.0 k q.1) (q.2) };
  greatest = record { is = (m, k, inr g); greatest = λ v q. within v q.0 (one_reach r m q.0 k q.1) (q.2) };
}
  where
    inside : (v : ℤ) (n : ℕ) → n ≤ m → (v ≡ c -ℤ pos n) ⊎ (v ≡ c +ℤ pos n) → s.low ≤ℤ v
    inside v n l (inl d) = omega (arith, ints)
    inside v n l (inr d) = omega (arith, ints)

    within : (v : ℤ) (n : ℕ) → n ≤ m → (v ≡ c -ℤ pos n) ⊎ (v ≡ c +ℤ pos n) → v ≤ℤ s.high
    within v n l (inl d) = omega (arith, ints)
    within v n l (inr d) = omega (arith, ints)

regroup : (A B C : Type 0) → (A ⊎ B) ⊎ C → A ⊎ (B ⊎ C)
regroup A B C (inl (inl a)) = inl a
regroup A B C (inl (inr b)) = inr (inl b)
regroup A B C (inr c) = inr (inr c)

ungroup : (A B C : Type 0) → A ⊎ (B ⊎ C) → (A ⊎ B) ⊎ C
ungroup A B C (inl a) = inl (inl a)
ungroup A B C (inr (inl b)) = inl (inr b)
ungroup A B C (inr (inr c)) = inr c

-- the ends and the rim of an arc along one axis
pub span_arc : (r a b c : ℤ) (m : ℕ) (s t u : Span) → s.low ≡ int_min a b → s.high ≡ int_max a b → IsReach r m → t.low ≡ c -ℤ pos m → t.high ≡ c +ℤ pos m → IsHull s t u
    → IsSpan (λ v. (v ≡ a) ⊎ ((v ≡ b) ⊎ IsRim r c v)) u
span_arc r a b c m s t u e f k i j l =
    span_as (λ v. ((v ≡ a) ⊎ (v ≡ b)) ⊎ IsRim r c v) (λ v. (v ≡ a) ⊎ ((v ≡ b) ⊎ IsRim r c v)) u
    (λ v. regroup (v ≡ a) (v ≡ b) (IsRim r c v)) (λ v. ungroup (v ≡ a) (v ≡ b) (IsRim r c v))
    (span_both (λ v. (v ≡ a) ⊎ (v ≡ b)) (IsRim r c) s t u (span_ends a b s e f) (span_rim r c m t k i j) l)

-- a circle within the range of coordinates does not reach far
pub reach_near : (n m : ℕ) → n ≤ 8372232 → ((k : ℕ) → k < m → k * k < n) → m ≤ 2894
reach_near n m h least =
    elim (cases_lt 2894 m) [
      | inl l ↦ absurd (let p : 2894 * 2894 < n = least 2894 l in omega arith)
      | inr l ↦ l
    ]

-- ---- of elements, or whatever numbers come from

module _ {E : Type 0} (R : E → ℤ → Type 0) where
  abbrev of_any : List E → ℤ → Type 0
  of_any es v = Any (λ e. R e v) es

  some : (es : List E) (v : ℤ) (e : E) → Contains es e → R e v → of_any es v
  some es v e m r = (m.0, e, m.1, m.2, r)

  pub span_first : (es : List E) (e : E) (s : Span) → slice_get es 0 ≡ Some e → IsSpan (R e) s → IsSpan (λ v. Any (λ e. R e v) (take 1 es)) s
  span_first [] e s h k = cc
  span_first (d ∷ ds) e s h k = span_as (R e) (of_any (d ∷ [])) s (λ v r. (0, d, omega arith, refl, subst (λ c. R c v) (sym f) r)) back k
    where
      f : d ≡ e
      f = cc

      back : (v : ℤ) → of_any (d ∷ []) v → R e v
      back v (zero, x, l, g, r) = subst (λ c. R c v) (sym g ∙ f) r
      back v (suc n, x, l, g, r) = absurd (omega arith)

  pub span_more : (es : List E) (i : ℕ) (e : E) (s t u : Span) → slice_get es i ≡ Some e → IsSpan (λ v. Any (λ e. R e v) (take i es)) s → IsSpan (R e) t → IsHull s t u
      → IsSpan (λ v. Any (λ e. R e v) (take (i + 1) es)) u
  span_more es i e s t u h k j l =
      subst (λ ds. IsSpan (of_any ds) u) (sym (front_more es i e h))
      (span_as (λ v. of_any (take i es) v ⊎ R e v) (of_any (take i es ++ e ∷ [])) u to from (span_both (of_any (take i es)) (R e) s t u k j l))
    where
      to : (v : ℤ) → of_any (take i es) v ⊎ R e v → of_any (take i es ++ e ∷ []) v
      to v (inl (n, d, m, g, r)) = some (take i es ++ e ∷ []) v d (Contains-append_left (take i es) (e ∷ []) d (n, m, g)) r
      to v (inr r) = some (take i es ++ e ∷ []) v e (Contains-push (take i es) e) r

      from : (v : ℤ) → of_any (take i es ++ e ∷ []) v → of_any (take i es) v ⊎ R e v
      from v (n, d, m, g, r) =
          elim (Contains-push_cases (take i es) e d (n, m, g)) [
            | inl p ↦ inl (some (take i es) v d p r)
            | inr q ↦ inr (subst (λ c. R c v) (sym q) r)
          ]

  pub span_all : (es : List E) (i : ℕ) (s : Span) → length es ≤ i → IsSpan (λ v. Any (λ e. R e v) (take i es)) s → IsSpan (λ v. Any (λ e. R e v) es) s
  span_all es i s h k = subst (λ ds. IsSpan (of_any ds) s) (take_all i es h) k

-- ---- the box

pub box_of_spans : (es : List Element) (x y : Span) (b : Box2) → 0 < length es
    → IsSpan (λ v. Any (λ e. IsXOf e v) es) x → IsSpan (λ v. Any (λ e. IsYOf e v) es) y
    → b.x0 +ℤ pos 1 ≡ x.low → b.y0 +ℤ pos 1 ≡ y.low → b.x1 -ℤ pos 1 ≡ x.high → b.y1 -ℤ pos 1 ≡ y.high → IsBoxOf es b
box_of_spans [] x y b l h k e f g i = absurd (omega arith)
box_of_spans (d ∷ ds) x y b l h k e f g i = record {
  left = subst (IsLeast (λ v. Any (λ e. IsXOf e v) (d ∷ ds))) (sym e) h.least;
  right = subst (IsGreatest (λ v. Any (λ e. IsXOf e v) (d ∷ ds))) (sym g) h.greatest;
  bottom = subst (IsLeast (λ v. Any (λ e. IsYOf e v) (d ∷ ds))) (sym f) k.least;
  top = subst (IsGreatest (λ v. Any (λ e. IsYOf e v) (d ∷ ds))) (sym i) k.greatest;
}
