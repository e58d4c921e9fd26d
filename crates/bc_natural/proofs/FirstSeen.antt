-- Lists without repetitions: of the elements that pass a test what stands for each, once and in the order of the elements.
use Rattle.std.proofs.Common.{◌≡◌, ℕ, zero, suc, ◌⊎◌, inl, inr, Bool, true, false, cond, not, ◌||◌, List, [], ◌∷◌, ◌++◌, arith, refl, sym, ap, ◌∙◌, subst, if◌then◌else◌}
use Rattle.std.specs.Prelude.{◌↔◌, slice_get, Some, Contains, filter, All}
use Rattle.std.specs.Cmp.{IsEquivalence}
use Rattle.std.specs.List.{list_any, AllZip}
use Rattle.std.proofs.lemmas.Bool.{cases_Bool, both_ways, or_left, or_right, or_from}
use Rattle.std.proofs.lemmas.List.{append-nil}
use Rattle.std.proofs.lemmas.List.Folds.{Any-from_list_any}
use Rattle.std.proofs.lemmas.List.Elements.{All-nil, All-cons, All-head, All-tail, All-push, All-contains, All-filter, All-contains_itself, filter_passes, filter-append}
use Rattle.std.proofs.lemmas.Option.{slice_get_within, get_or_from_slice_get}
use Rattle.bc_natural.specs.Distinct.{distinct}
use Rattle.bc_natural.specs.Noted.{with_new}

-- ---- a list and one element

pub here : {X : Type 0} (x : X) (xs : List X) → Contains (x ∷ xs) x
here x xs = (0, omega arith, refl)

pub there : {X : Type 0} (x : X) (xs : List X) (y : X) → Contains xs y → Contains (x ∷ xs) y
there x xs y (k, l, e) = (suc k, omega arith, e)

pub either : {X : Type 0} (x : X) (xs : List X) (y : X) → Contains (x ∷ xs) y → (x ≡ y) ⊎ Contains xs y
either x xs y (zero, l, e) = inl e
either x xs y (suc k, l, e) = inr (k, omega arith, e)

pub contains_at : {X : Type 0} (xs : List X) (i : ℕ) (x : X) → slice_get xs i ≡ Some x → Contains xs x
contains_at xs i x h = (i, slice_get_within xs i x h, get_or_from_slice_get xs i x x h)

-- the elements that pass a test
pub filtered : {X : Type 0} (test : X → Bool) (xs : List X) (x : X) → Contains xs x → test x ≡ true → Contains (filter test xs) x
filtered test [] x (k, l, e) h = absurd (omega arith)
filtered test (y ∷ ys) x m h =
    elim (cases_Bool (test y)) [
      | inl t ↦
          subst (λ zs. Contains zs x) (sym (ap (λ b. cond b (y ∷ filter test ys) (filter test ys)) t))
          (elim (either y ys x m) [
            | inl e ↦ subst (λ z. Contains (y ∷ filter test ys) z) e (here y (filter test ys))
            | inr n ↦ there y (filter test ys) x (filtered test ys x n h)
          ])
      | inr f ↦
          subst (λ zs. Contains zs x) (sym (ap (λ b. cond b (y ∷ filter test ys) (filter test ys)) f))
          (elim (either y ys x m) [
            | inl e ↦ absurd (both_ways (test y) f (ap test e ∙ h))
            | inr n ↦ filtered test ys x n h
          ])
    ]

filter_passed : {X : Type 0} (test : X → Bool) (xs : List X) (x : X) → test x ≡ true → filter test (xs ++ x ∷ []) ≡ filter test xs ++ x ∷ []
filter_passed test xs x h = filter-append test xs (x ∷ []) ∙ ap (λ b. filter test xs ++ cond b (x ∷ []) []) h

filter_failed : {X : Type 0} (test : X → Bool) (xs : List X) (x : X) → test x ≡ false → filter test (xs ++ x ∷ []) ≡ filter test xs
filter_failed test xs x h = filter-append test xs (x ∷ []) ∙ ap (λ b. filter test xs ++ cond b (x ∷ []) []) h ∙ append-nil (filter test xs)

-- ---- two lists, place by place

pub zipped : {X Y : Type 0} (R : X → Y → Type 0) (xs : List X) (ys : List Y) (x : X) (y : Y) → AllZip R xs ys → R x y → AllZip R (xs ++ x ∷ []) (ys ++ y ∷ [])
zipped R [] [] x y h r = (r, tt)
zipped R [] (v ∷ vs) x y h r = absurd h
zipped R (u ∷ us) [] x y h r = absurd h
zipped R (u ∷ us) (v ∷ vs) x y h r = (h.0, zipped R us vs x y h.1 r)

pub partner : {X Y : Type 0} (R : X → Y → Type 0) (xs : List X) (ys : List Y) (x : X) → AllZip R xs ys → Contains xs x → (y : Y) × Contains ys y × R x y
partner R [] ys x h (k, l, e) = absurd (omega arith)
partner R (u ∷ us) [] x h m = absurd h
partner R (u ∷ us) (v ∷ vs) x h m =
    elim (either u us x m) [
      | inl e ↦ (v, here v vs, subst (λ z. R z v) e h.0)
      | inr n ↦ let p = partner R us vs x h.1 n in (p.0, there v vs p.0 p.1, p.2)
    ]

partners : {X Y : Type 0} (R : X → Y → Type 0) (P : X → Type 0) (xs : List X) (ys : List Y) → AllZip R xs ys → All P xs → All (λ y. (x : X) × P x × R x y) ys
partners R P [] [] h a = All-nil (λ y. (x : _) × P x × R x y)
partners R P [] (v ∷ vs) h a = absurd h
partners R P (u ∷ us) [] h a = absurd h
partners R P (u ∷ us) (v ∷ vs) h a =
    All-cons (λ y. (x : _) × P x × R x y) v vs (u, All-head P u us a, h.0) (partners R P us vs h.1 (All-tail P u us a))

zip_same : {X Y : Type 0} (R : X → Y → Type 0) → ((x : X) (y z : Y) → R x y → R x z → y ≡ z) → (xs : List X) (ys zs : List Y) → AllZip R xs ys → AllZip R xs zs → ys ≡ zs
zip_same R one [] [] [] h k = refl
zip_same R one [] [] (z ∷ zs) h k = absurd k
zip_same R one [] (y ∷ ys) zs h k = absurd h
zip_same R one (x ∷ xs) [] zs h k = absurd h
zip_same R one (x ∷ xs) (y ∷ ys) [] h k = absurd k
zip_same R one (x ∷ xs) (y ∷ ys) (z ∷ zs) h k =
    ap (λ u. u ∷ ys) (one x y z h.0 k.0) ∙ ap (λ us. z ∷ us) (zip_same R one xs ys zs h.1 k.1)

-- ---- each once

-- a test that tells when keys are equal
pub laws_by_key : {X K : Type 0} (same : X → X → Bool) (key : X → K) → ((x y : X) → (same x y ≡ true) ↔ (key x ≡ key y)) → IsEquivalence same
laws_by_key {X} {K} same key tells = record {
  refl = λ x. (tells x x).1 refl;
  symm = λ x y. alike (same x y) (same y x) (λ e. turned x y e) (λ e. turned y x e);
  congr = λ x y z e. alike (same x z) (same y z) (λ f. (tells y z).1 (sym ((tells x y).0 e) ∙ (tells x z).0 f)) (λ f. (tells x z).1 ((tells x y).0 e ∙ (tells y z).0 f));
}
  where
    alike : (p q : Bool) → (p ≡ true → q ≡ true) → (q ≡ true → p ≡ true) → p ≡ q
    alike true q f g = sym (f refl)
    alike false true f g = g refl
    alike false false f g = refl

    turned : (x y : X) → same x y ≡ true → same y x ≡ true
    turned x y e = (tells y x).1 (sym ((tells x y).0 e))

module _ {X : Type 0} (same : X → X → Bool) where
  stays : (seen : List X) (x : X) → list_any (same x) seen ≡ true → with_new same seen x ≡ seen
  stays seen x h = ap (λ b. if b then seen else seen ++ x ∷ []) h

  grows : (seen : List X) (x : X) → list_any (same x) seen ≡ false → with_new same seen x ≡ seen ++ x ∷ []
  grows seen x h = ap (λ b. if b then seen else seen ++ x ∷ []) h

  pub all_with : (P : X → Type 0) (seen : List X) (x : X) → All P seen → P x → All P (with_new same seen x)
  all_with P seen x a p =
      elim (cases_Bool (list_any (same x) seen)) [
        | inl t ↦ subst (All P) (sym (stays seen x t)) a
        | inr f ↦ subst (All P) (sym (grows seen x f)) (All-push P seen x a p)
      ]

  -- those that are not the same as x
  abbrev apart : X → List X → List X
  apart x ys = filter (λ y. not (same x y)) ys

  all_distinct : (P : X → Type 0) (xs : List X) → All P xs → All P (distinct same xs)
  all_distinct P [] a = a
  all_distinct P (x ∷ xs) a =
      All-cons P x (apart x (distinct same xs)) (All-head P x xs a)
      (All-filter (λ y. not (same x y)) P (distinct same xs) (all_distinct P xs (All-tail P x xs a)))

  found_in : (p : X → Bool) (xs : List X) → list_any p xs ≡ true → (x : X) × Contains xs x × (p x ≡ true)
  found_in p xs h = let a = Any-from_list_any p xs h in (a.1, (a.0, a.2, a.3), a.4)

  module _ (laws : IsEquivalence same) where
    -- what is not the same as y has as many like it among those that are not the same as y
    still : (y x : X) (zs : List X) → same x y ≡ false → list_any (same x) (apart y zs) ≡ list_any (same x) zs
    still y x [] h = refl
    still y x (z ∷ zs) h =
        elim (cases_Bool (same y z)) [
          | inl t ↦
              ap (λ b. list_any (same x) (cond (not b) (z ∷ apart y zs) (apart y zs))) t ∙ still y x zs h
              ∙ sym (ap (λ b. b || list_any (same x) zs) (laws.symm x z ∙ sym (laws.congr y z x t) ∙ laws.symm y x ∙ h))
          | inr f ↦
              ap (λ b. list_any (same x) (cond (not b) (z ∷ apart y zs) (apart y zs))) f ∙ ap (λ b. same x z || b) (still y x zs h)
        ]

    -- each element of the list has one that is the same among the distinct ones
    kept : (xs : List X) (x : X) → Contains xs x → list_any (same x) (distinct same xs) ≡ true
    kept [] x (k, l, e) = absurd (omega arith)
    kept (y ∷ ys) x m =
        elim (cases_Bool (same x y)) [
          | inl t ↦ or_left (same x y) (list_any (same x) (apart y (distinct same ys))) t
          | inr f ↦
              or_right (same x y) (list_any (same x) (apart y (distinct same ys)))
              (elim (either y ys x m) [
                | inl e ↦ absurd (both_ways (same x y) f (ap (same x) e ∙ laws.refl x))
                | inr n ↦ still y x (distinct same ys) f ∙ kept ys x n
              ])
        ]

    unchanged : (y x : X) (ds : List X) → same y x ≡ true → apart y (with_new same ds x) ≡ apart y ds
    unchanged y x ds h =
        elim (cases_Bool (list_any (same x) ds)) [
          | inl t ↦ ap (apart y) (stays ds x t)
          | inr f ↦
              ap (apart y) (grows ds x f) ∙ filter-append (λ z. not (same y z)) ds (x ∷ [])
              ∙ ap (λ b. apart y ds ++ cond (not b) (x ∷ []) []) h ∙ append-nil (apart y ds)
        ]

    longer : (y x : X) (ds : List X) → same y x ≡ false → apart y (ds ++ x ∷ []) ≡ apart y ds ++ x ∷ []
    longer y x ds h = filter-append (λ z. not (same y z)) ds (x ∷ []) ∙ ap (λ b. apart y ds ++ cond (not b) (x ∷ []) []) h

    after : (y x : X) (ds : List X) → y ∷ apart y (with_new same ds x) ≡ with_new same (y ∷ apart y ds) x
    after y x ds =
        elim (cases_Bool (same x y)) [
          | inl s ↦
              ap (λ zs. y ∷ zs) (unchanged y x ds (laws.symm y x ∙ s))
              ∙ sym (stays (y ∷ apart y ds) x (or_left (same x y) (list_any (same x) (apart y ds)) s))
          | inr s ↦
              elim (cases_Bool (list_any (same x) ds)) [
                | inl t ↦
                    ap (λ zs. y ∷ apart y zs) (stays ds x t)
                    ∙ sym (stays (y ∷ apart y ds) x (or_right (same x y) (list_any (same x) (apart y ds)) (still y x ds s ∙ t)))
                | inr f ↦
                    ap (λ zs. y ∷ apart y zs) (grows ds x f) ∙ ap (λ zs. y ∷ zs) (longer y x ds (laws.symm y x ∙ s))
                    ∙ sym (grows (y ∷ apart y ds) x (or_from (same x y) (list_any (same x) (apart y ds)) s (still y x ds s ∙ f)))
              ]
        ]

    -- one more element
    distinct_push : (xs : List X) (x : X) → distinct same (xs ++ x ∷ []) ≡ with_new same (distinct same xs) x
    distinct_push [] x = refl
    distinct_push (y ∷ ys) x = ap (λ zs. y ∷ apart y zs) (distinct_push ys x) ∙ after y x (distinct same ys)

-- ---- the table: of each element that passes the test what R says of it, each once

module _ {E X : Type 0} (test : E → Bool) (R : E → X → Type 0) (same : X → X → Bool) where
  pub record IsTableOf (es : List E) (xs : List X) : Type 0 where
    pub found : List X
    pub of : AllZip R (filter test es) found
    pub is : xs ≡ distinct same found

  pub table_nil : IsTableOf [] []
  table_nil = record { found = []; of = tt; is = refl }

  -- one more element
  pub table_more : IsEquivalence same → (es : List E) (xs : List X) (e : E) (x : X) → IsTableOf es xs → test e ≡ true → R e x → IsTableOf (es ++ e ∷ []) (with_new same xs x)
  table_more laws es xs e x t h r = record {
    found = t.found ++ x ∷ [];
    of = subst (λ ds. AllZip R ds (t.found ++ x ∷ [])) (sym (filter_passed test es e h)) (zipped R (filter test es) t.found e x t.of r);
    is = ap (λ zs. with_new same zs x) t.is ∙ sym (distinct_push same laws t.found x);
  }

  pub table_kept : (es : List E) (xs : List X) (e : E) → IsTableOf es xs → test e ≡ false → IsTableOf (es ++ e ∷ []) xs
  table_kept es xs e t h = record {
    found = t.found;
    of = subst (λ ds. AllZip R ds t.found) (sym (filter_failed test es e h)) t.of;
    is = t.is;
  }

  -- of each element the table has what is the same
  pub table_has : IsEquivalence same → (es : List E) (xs : List X) (e : E) → IsTableOf es xs → Contains es e → test e ≡ true → (y : X) × R e y × (x : X) × Contains xs x × (same y x ≡ true)
  table_has laws es xs e t m h =
      let p = partner R (filter test es) t.found e t.of (filtered test es e m h) in
      let k : list_any (same p.0) xs ≡ true = ap (list_any (same p.0)) t.is ∙ kept same laws t.found p.0 p.1 in
      let f = found_in same (same p.0) xs k in
      (p.0, p.2, f.0, f.1, f.2)

  -- all that it has comes from elements
  pub table_from : (es : List E) (xs : List X) (i : ℕ) (x : X) → IsTableOf es xs → slice_get xs i ≡ Some x → (e : E) × Contains es e × (test e ≡ true) × R e x
  table_from es xs i x t h =
      let P = λ (e : E). Contains es e × (test e ≡ true) in
      let Q = λ (y : X). (e : E) × P e × R e y in
      let a : All P (filter test es) = all_both (Contains es) (λ e. test e ≡ true) (filter test es) (All-filter test (Contains es) es (All-contains_itself es)) (filter_passes test es) in
      let b : All Q xs = subst (All Q) (sym t.is) (all_distinct same Q t.found (partners R P (filter test es) t.found t.of a)) in
      let r = All-contains Q xs x b (contains_at xs i x h) in
      (r.0, r.1.0, r.1.1, r.2)
    where
      all_both : (P Q : E → Type 0) (ds : List E) → All P ds → All Q ds → All (λ e. P e × Q e) ds
      all_both P Q ds p q k d l = (p k d l, q k d l)

  -- elements have one table
  pub table_same : ((e : E) (x y : X) → R e x → R e y → x ≡ y) → (es : List E) (xs ys : List X) → IsTableOf es xs → IsTableOf es ys → xs ≡ ys
  table_same one es xs ys t u =
      t.is ∙ ap (distinct same) (zip_same R one (filter test es) t.found u.found t.of u.of) ∙ sym u.is
