-- Notes that are added one after another.
use Rattle.std.proofs.Common.{◌≡◌, ℕ, zero, suc, ◌+◌, ◌≤◌, Bool, nat_eq, if◌then◌else◌, List, [], ◌∷◌, ◌++◌, map, length, refl, sym, ap, ◌∙◌, subst, arith, ⊎_elim, append_assoc}
use Rattle.std.specs.List.{AllZip}
use Rattle.std.specs.Int.{bit_at}
use Rattle.std.proofs.lemmas.Bool.{cases_Bool, eqb-true, eq-eqb}
use Rattle.std.proofs.lemmas.List.{length-map, length-append, map-append, append-nil}
use Rattle.bc_cover.specs.Masks.{places_below}
use Rattle.bc_cover.specs.Covers.{Literal, positive, negative}
use Rattle.bc_tree.specs.declared.product.Product.{Product}
use Rattle.bc_text.specs.declared.note.Note.{Note}
use Rattle.bc_text.specs.Numbered.{From, PlacesBelow}
use Rattle.bc_notes.specs.declared.shown.Shown.{Shown}
use Rattle.bc_notes.specs.Products.{literals_of}
use Rattle.bc_notes.specs.Noted.{the_literal, Noted, noted_literals, noted_product, noted_products}
use Rattle.bc_notes.specs.Chosen.{IsNoteOf, AddsNotes}

-- ---- lists

zip_append : {A B : Type 0} (R : A → B → Type 0) (xs us : List A) (ys vs : List B) → AllZip R xs ys → AllZip R us vs → AllZip R (xs ++ us) (ys ++ vs)
zip_append R [] us [] vs h k = k
zip_append R [] us (y ∷ ys) vs h k = absurd h
zip_append R (x ∷ xs) us [] vs h k = absurd h
zip_append R (x ∷ xs) us (y ∷ ys) vs h k = (h.0, zip_append R xs us ys vs h.1 k)

module _ (R : Noted → Note → Type 0) where
  pub adds_more : (es fs : List Noted) (a b c : List Note) → AddsNotes R es a b → AddsNotes R fs b c → AddsNotes R (es ++ fs) a c
  adds_more es fs a b c h k = record {
    more = h.more ++ k.more;
    is = k.is ∙ ap (λ xs. xs ++ k.more) h.is ∙ append_assoc a h.more k.more;
    each = zip_append R es fs h.more k.more h.each k.each;
  }

  pub adds_one : (es : List Noted) (e : Noted) (x : Note) (a b c : List Note) → AddsNotes R es a b → c ≡ b ++ x ∷ [] → R e x → AddsNotes R (es ++ e ∷ []) a c
  adds_one es e x a b c h is r = adds_more es (e ∷ []) a b c h (record { more = x ∷ []; is = is; each = (r, tt) })

-- ---- the places of bits

module _ (word : ℕ) where
  pub bits_yes : (i : ℕ) → bit_at word i ≡ 1 → places_below (i + 1) word ≡ places_below i word ++ i ∷ []
  bits_yes i one =
      let e : i + 1 ≡ suc i = omega arith in
      ap (λ k. places_below k word) e ∙ ap (λ (b : Bool). if b then places_below i word ++ i ∷ [] else places_below i word) (eq-eqb (bit_at word i) 1 one)

  pub bits_no : (i : ℕ) → (bit_at word i ≡ 1 → ⊥) → places_below (i + 1) word ≡ places_below i word
  bits_no i other =
      let e : i + 1 ≡ suc i = omega arith in
      ap (λ k. places_below k word) e
      ∙ ⊎_elim
      (λ yes. absurd (other (eqb-true (bit_at word i) 1 yes)))
      (λ no. ap (λ (b : Bool). if b then places_below i word ++ i ∷ [] else places_below i word) no)
      (cases_Bool (nat_eq (bit_at word i) 1))

  pub bits_few : (i : ℕ) → length (places_below i word) ≤ i
  bits_few zero = omega arith
  bits_few (suc i) =
      let few = bits_few i in
      let W : Bool → Type 0 = λ b. length (if b then places_below i word ++ i ∷ [] else places_below i word) ≤ suc i in
      ⊎_elim
      (λ yes. subst W (sym yes) (omega (arith, few, length-append (places_below i word) (i ∷ []))))
      (λ no. subst W (sym no) (omega (arith, few)))
      (cases_Bool (nat_eq (bit_at word i) 1))

-- ---- literals

literals_append : (n : ℕ) (t : Product) (xs ys : List Literal) → noted_literals n t (xs ++ ys) ≡ noted_literals n t xs ++ noted_literals (n + length xs) t ys
literals_append n t [] ys = let e : n ≡ n + 0 = omega arith in ap (λ m. noted_literals m t ys) e
literals_append n t (x ∷ xs) ys =
    let e : n + 1 + length xs ≡ n + suc (length xs) = omega arith in
    ap (λ es. record { place = n; subject = the_literal t x } ∷ es) (literals_append (n + 1) t xs ys ∙ ap (λ m. noted_literals (n + 1) t xs ++ noted_literals m t ys) e)

-- one bit more, of a word whose literals are made by `make`
pub literals_push : (n : ℕ) (t : Product) (make : ℕ → Literal) (word i : ℕ) → bit_at word i ≡ 1
    → noted_literals n t (map make (places_below (i + 1) word)) ≡ noted_literals n t (map make (places_below i word)) ++ record { place = n + length (places_below i word); subject = the_literal t (make i) } ∷ []
literals_push n t make word i one =
    ap (λ ps. noted_literals n t (map make ps)) (bits_yes word i one)
    ∙ ap (noted_literals n t) (map-append make (places_below i word) (i ∷ []))
    ∙ literals_append n t (map make (places_below i word)) (make i ∷ [])
    ∙ ap (λ k. noted_literals n t (map make (places_below i word)) ++ record { place = n + k; subject = the_literal t (make i) } ∷ []) (length-map (places_below i word) make)

pub literals_parts : (n bits : ℕ) (t : Product) → noted_literals n t (literals_of bits t) ≡ noted_literals n t (map positive (places_below bits t.pos)) ++ noted_literals (n + length (places_below bits t.pos)) t (map negative (places_below bits t.neg))
literals_parts n bits t =
    literals_append n t (map positive (places_below bits t.pos)) (map negative (places_below bits t.neg))
    ∙ ap (λ k. noted_literals n t (map positive (places_below bits t.pos)) ++ noted_literals (n + k) t (map negative (places_below bits t.neg))) (length-map (places_below bits t.pos) positive)

pub literals_count : (bits : ℕ) (t : Product) → length (literals_of bits t) ≡ length (places_below bits t.pos) + length (places_below bits t.neg)
literals_count bits t =
    let a = length-append (map positive (places_below bits t.pos)) (map negative (places_below bits t.neg)) in
    let p = length-map (places_below bits t.pos) positive in
    let q = length-map (places_below bits t.neg) negative in
    omega (arith, a, p, q)

-- ---- products

-- the number of the node behind some products, the first of which has number n
abbrev pub next : ℕ → ℕ → List Product → ℕ
next bits n [] = n
next bits n (t ∷ ts) = next bits (n + 3 + length (literals_of bits t)) ts

pub next_push : (bits n : ℕ) (ts : List Product) (t : Product) → next bits n (ts ++ t ∷ []) ≡ next bits n ts + 3 + length (literals_of bits t)
next_push bits n [] t = refl
next_push bits n (u ∷ ts) t = next_push bits (n + 3 + length (literals_of bits u)) ts t

pub products_push : (bits n i : ℕ) (ts : List Product) (t : Product) → noted_products bits n i (ts ++ t ∷ []) ≡ noted_products bits n i ts ++ noted_product bits (next bits n ts) (i + length ts) t
products_push bits n i [] t = let e : i ≡ i + 0 = omega arith in append-nil (noted_product bits n i t) ∙ ap (λ k. noted_product bits n k t) e
products_push bits n i (u ∷ ts) t =
    let e : i + 1 + length ts ≡ i + suc (length ts) = omega arith in
    let m = n + 3 + length (literals_of bits u) in
    ap (λ es. noted_product bits n i u ++ es) (products_push bits m (i + 1) ts t ∙ ap (λ k. noted_products bits m (i + 1) ts ++ noted_product bits (next bits m ts) k t) e)
    ∙ sym (append_assoc (noted_product bits n i u) (noted_products bits m (i + 1) ts) (noted_product bits (next bits m ts) (i + suc (length ts)) t))

-- ---- the places ascend, and end early

-- from n on, and below m
abbrev pub Rise : ℕ → ℕ → List Noted → Type 0
Rise n m [] = n ≤ m
Rise n m (e ∷ es) = (n ≤ e.place) × Rise (e.place + 1) m es

rise_append : (n m k : ℕ) (es fs : List Noted) → Rise n m es → Rise m k fs → Rise n k (es ++ fs)
rise_append n m k [] fs h r = lower n m k fs h r
  where
    lower : (n m k : ℕ) (fs : List Noted) → n ≤ m → Rise m k fs → Rise n k fs
    lower n m k [] h r = omega (arith, h, r)
    lower n m k (f ∷ fs) h r = (omega (arith, h, r.0), r.1)
rise_append n m k (e ∷ es) fs h r = (h.0, rise_append (e.place + 1) m k es fs h.1 r)

rise_literals : (n : ℕ) (t : Product) (ls : List Literal) → Rise n (n + length ls) (noted_literals n t ls)
rise_literals n t [] = omega arith
rise_literals n t (l ∷ ls) = (omega arith, let e : n + 1 + length ls ≡ n + suc (length ls) = omega arith in subst (λ m. Rise (n + 1) m (noted_literals (n + 1) t ls)) e (rise_literals (n + 1) t ls))

pub lower_start : (n m k : ℕ) (es : List Noted) → n ≤ m → Rise m k es → Rise n k es
lower_start n m k [] h r = omega (arith, h, r)
lower_start n m k (e ∷ es) h r = (omega (arith, h, r.0), r.1)

pub rise_products : (bits n i : ℕ) (ts : List Product) → Rise n (next bits n ts) (noted_products bits n i ts)
rise_products bits n i [] = omega arith
rise_products bits n i (t ∷ ts) =
    let m = n + 3 + length (literals_of bits t) in
    rise_append n m (next bits m ts) (noted_product bits n i t) (noted_products bits m (i + 1) ts)
    (omega arith, lower_start (n + 1) (n + 3) m (noted_literals (n + 3) t (literals_of bits t)) (omega arith) (rise_literals (n + 3) t (literals_of bits t)))
    (rise_products bits m (i + 1) ts)

module _ (inside outside : List Shown) (products : List Product) where
  pub from_rise : (n m : ℕ) (es : List Noted) (xs : List Note) → Rise n m es → AllZip (IsNoteOf inside outside products) es xs → From n xs
  from_rise n m [] [] r z = tt
  from_rise n m [] (x ∷ xs) r z = absurd z
  from_rise n m (e ∷ es) [] r z = absurd z
  from_rise n m (e ∷ es) (x ∷ xs) r z =
      let at : x.place ≡ e.place = z.0.at in
      (omega (arith, at, r.0), subst (λ k. From (k + 1) xs) (sym at) (from_rise (e.place + 1) m es xs r.1 z.1))

  end_of : (n m : ℕ) (es : List Noted) → Rise n m es → n ≤ m
  end_of n m [] r = r
  end_of n m (e ∷ es) r = let f = end_of (e.place + 1) m es r.1 in omega (arith, r.0, f)

  pub below_rise : (n m k : ℕ) (es : List Noted) (xs : List Note) → m ≤ k → Rise n m es → AllZip (IsNoteOf inside outside products) es xs → PlacesBelow k xs
  below_rise n m k [] [] l r z = tt
  below_rise n m k [] (x ∷ xs) l r z = absurd z
  below_rise n m k (e ∷ es) [] l r z = absurd z
  below_rise n m k (e ∷ es) (x ∷ xs) l r z =
      let at : x.place ≡ e.place = z.0.at in
      let f = end_of (e.place + 1) m es r.1 in
      (omega (arith, at, f, l), below_rise (e.place + 1) m k es xs l r.1 z.1)
