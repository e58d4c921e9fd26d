-- Which elements change whether pieces hold a mask: what the walk over the pieces finds is what the cuts say.
use Rattle.std.proofs.Common.{ℕ, zero, suc, ◌≡◌, ◌+◌, ◌*◌, ◌%◌, ◌-◌, ◌^◌, ◌<◌, ◌≤◌, min, true, false, Bool, not, ◌&&◌, ◌||◌, cond, eqb, ltb, replicate, List, [], ◌∷◌, ◌++◌, map, length, drop, get_or, sym, ◌∙◌, ap, refl, inl, inr, arith, add-one, ⊎_elim, append_assoc, append-nil}
use Rattle.std.specs.Prelude.{count_ones, ◌⊎◌}
use Rattle.std.specs.Int.{bit_at}
use Rattle.std.specs.Int.Bits.{bit_and, bit_or, bit_xor}
use Rattle.std.proofs.lemmas.Bool.{true≢false, false≢true, cases_Bool, cases_lt, cond_both, lt-ltb, le-ltb, or_left, or_right, cases_eq, eq-eqb, ne_eqb, eqb-false, false_from_ne_true, cond-true, cond-false}
use Rattle.std.proofs.lemmas.Nat.{ones_cat, ones_le_self, mod-pow-add, pow_pos}
use Rattle.std.proofs.lemmas.Nat.Bits.{bit_at_and, bit_at_or, bit_at_xor, bit_at-lt, bit_at-zero, same_from_bits}
use Rattle.std.proofs.lemmas.List.{length-map, map-append, length-append, length-replicate, drop_more}
use Rattle.std.proofs.lemmas.Simd.{map-map}
use lib.Count.{ones_step}
use native.Mathlib.Nat.{mod-lt}
use Rattle.bc_cover.specs.Masks.{without_bit, places_below, admits}
use Rattle.bc_cover.proofs.BitFacts.{without_left, without_other, bits_from_admits, admits_from_bits}
use Rattle.std.proofs.Math.ListN.{drop_of_length-le}
use Rattle.bc_carve.specs.declared.piece.Piece.{Piece}
use Rattle.bc_carve.specs.Shape.{Shape, Shapes, less, none, piece, shape, shapes, holds, some_holds}
use Rattle.bc_carve.specs.Cuts.{cuts, all_cuts}
use Rattle.bc_carve.proofs.Sizes.{products, products_in}
use Rattle.bc_carve.specs.Flips.{bits_of, elements, elements_in, differ, flips, flips_in, flips_of, pos_flips, neg_flips, holders, trues_from}

-- ---- how many bits a word has
nobodyset : count_ones 0 ≡ 0
nobodyset = omega (arith, ones_le_self 0)

one_set : (b : ℕ) → b < 2 → count_ones b ≡ b
one_set zero h = nobodyset
one_set (suc zero) h = ones_step 1 ∙ ap (λ n. 1 + n) nobodyset
one_set (suc (suc n)) h = absurd (omega arith)

pub one_place : (k m : ℕ) → bit_at m k ≡ 1 → places_below (suc k) m ≡ places_below k m ++ k ∷ []
one_place k m one = cond-true (eqb (bit_at m k) 1) (places_below k m ++ k ∷ []) (places_below k m) (eq-eqb (bit_at m k) 1 one)

pub no_place : (k m : ℕ) → ¬ (bit_at m k ≡ 1) → places_below (suc k) m ≡ places_below k m
no_place k m not_one = cond-false (eqb (bit_at m k) 1) (places_below k m ++ k ∷ []) (places_below k m) (ne_eqb (bit_at m k) 1 not_one)

place_here : (k m : ℕ) → bit_at m k ≡ 1 → length (places_below (suc k) m) ≡ length (places_below k m) + 1
place_here k m one = ap length (one_place k m one) ∙ length-append (places_below k m) (k ∷ [])

places_count : (k m : ℕ) → length (places_below k m) ≡ count_ones (m % 2 ^ k)
places_count zero m = let e : m % 2 ^ 0 ≡ 0 = omega arith in sym nobodyset ∙ ap count_ones (sym e)
places_count (suc k) m =
    let up : suc k ≡ 1 + k = omega arith in
    let split : m % 2 ^ suc k ≡ bit_at m k * 2 ^ k + m % 2 ^ k = ap (λ j. m % 2 ^ j) up ∙ mod-pow-add m 1 k in
    let rest : m % 2 ^ k < 2 ^ k = mod-lt m (pow_pos k) in
    let counted : count_ones (m % 2 ^ suc k) ≡ bit_at m k + count_ones (m % 2 ^ k) = ap count_ones split ∙ ones_cat k (bit_at m k) (m % 2 ^ k) rest ∙ ap (λ n. n + count_ones (m % 2 ^ k)) (one_set (bit_at m k) (bit_at-lt m k)) in
    ⊎_elim
    (λ yes. let e : length (places_below (suc k) m) ≡ length (places_below k m) + 1 = place_here k m yes in omega (arith, e, yes, counted, places_count k m))
    (λ no. let e : length (places_below (suc k) m) ≡ length (places_below k m) = ap length (no_place k m no) in omega (arith, e, no, counted, places_count k m, bit_at-lt m k))
    (cases_eq (bit_at m k) 1)

pub bits_counted : (m : ℕ) → m < 2 ^ 64 → count_ones m ≡ bits_of m
unfolding bits_of
bits_counted m h = let e : m % 2 ^ 64 ≡ m = omega arith in ap count_ones (sym e) ∙ sym (places_count 64 m)

pub few_places : (k m : ℕ) → length (places_below k m) ≤ k
few_places zero m = omega arith
few_places (suc k) m =
    ⊎_elim
    (λ one. let e = place_here k m one in omega (arith, e, few_places k m))
    (λ not_one. let e : length (places_below (suc k) m) ≡ length (places_below k m) = ap length (no_place k m not_one) in omega (arith, e, few_places k m))
    (cases_eq (bit_at m k) 1)

pub few_bits : (m : ℕ) → bits_of m ≤ 64
unfolding bits_of
few_bits m = few_places 64 m

-- at the end of the list all elements are counted
pub all_elements_counted : (pieces : List Piece) (i count : ℕ) → length pieces ≤ i → count ≤ 2 ^ 64 - 1 → min (count + elements_in (shapes (drop i pieces))) (2 ^ 64 - 1) ≡ min (elements_in (shapes pieces)) (2 ^ 64 - 1) → count ≡ min (elements_in (shapes pieces)) (2 ^ 64 - 1)
all_elements_counted pieces i count le small e =
    let nobodyleft : elements_in (shapes (drop i pieces)) ≡ 0 = ap (λ ps. elements_in (shapes ps)) (drop_of_length-le pieces le) in
    omega (arith, nobodyleft, e)

-- ---- the places of the trues
pub trues_append : (start : ℕ) (xs ys : List Bool) → trues_from start (xs ++ ys) ≡ trues_from start xs ++ trues_from (start + length xs) ys
trues_append start [] ys = let e : start + 0 ≡ start = omega arith in ap (λ s. trues_from s ys) (sym e)
trues_append start (true ∷ xs) ys =
    let e : suc start + length xs ≡ start + suc (length xs) = omega arith in
    ap (λ ps. start ∷ ps) (trues_append (suc start) xs ys ∙ ap (λ s. trues_from (suc start) xs ++ trues_from s ys) e)
trues_append start (false ∷ xs) ys =
    let e : suc start + length xs ≡ start + suc (length xs) = omega arith in
    trues_append (suc start) xs ys ∙ ap (λ s. trues_from (suc start) xs ++ trues_from s ys) e

pub no_trues : (start n : ℕ) → trues_from start (replicate n false) ≡ []
no_trues start zero = refl
no_trues start (suc n) = no_trues (suc start) n

module _ (f : ℕ → Bool) (start at k m : ℕ) (next : at ≡ start + length (places_below k m)) where
  abbrev placed : ℕ → List ℕ
  placed n = trues_from start (map f (places_below n m))

  pub next_more : bit_at m k ≡ 1 → at + 1 ≡ start + length (places_below (k + 1) m)
  next_more one = let e = place_here k m one in let up : length (places_below (k + 1) m) ≡ length (places_below (suc k) m) = ap (λ n. length (places_below n m)) (add-one k) in omega (arith, e, up, next)

  pub next_same : ¬ (bit_at m k ≡ 1) → at ≡ start + length (places_below (k + 1) m)
  next_same not_one = let up : length (places_below (k + 1) m) ≡ length (places_below k m) = ap (λ n. length (places_below n m)) (add-one k) ∙ ap length (no_place k m not_one) in omega (arith, up, next)

  pub placed_more : (b : Bool) (before old new : List ℕ) → bit_at m k ≡ 1 → b ≡ f k → old ≡ before ++ placed k → new ≡ old ++ trues_from at (b ∷ []) → new ≡ before ++ placed (k + 1)
  placed_more b before old new one e old_is new_is =
      let here : placed (k + 1) ≡ placed k ++ trues_from at (b ∷ []) =
      ap placed (add-one k)
      ∙ ap (λ ns. trues_from start (map f ns)) (one_place k m one)
      ∙ ap (trues_from start) (map-append f (places_below k m) (k ∷ []))
      ∙ trues_append start (map f (places_below k m)) (f k ∷ [])
      ∙ ap (λ n. placed k ++ trues_from (start + n) (f k ∷ [])) (length-map (places_below k m) f)
      ∙ ap (λ n. placed k ++ trues_from n (f k ∷ [])) (sym next)
      ∙ ap (λ c. placed k ++ trues_from at (c ∷ [])) (sym e) in
      new_is ∙ (ap (λ ns. ns ++ trues_from at (b ∷ [])) old_is ∙ (append_assoc before (placed k) (trues_from at (b ∷ [])) ∙ ap (λ ns. before ++ ns) (sym here)))

  pub placed_same : (before old : List ℕ) → ¬ (bit_at m k ≡ 1) → old ≡ before ++ placed k → old ≡ before ++ placed (k + 1)
  placed_same before old not_one old_is = old_is ∙ ap (λ ns. before ++ trues_from start (map f ns)) (sym (ap (λ n. places_below n m) (add-one k) ∙ no_place k m not_one))

pub pos_placed : (pos neg mask start i : ℕ) (before places : List ℕ) → i ≡ 64 → places ≡ before ++ trues_from start (map (λ i. admits (without_bit pos i) neg mask) (places_below i pos)) → places ≡ before ++ trues_from start (pos_flips pos neg mask)
unfolding pos_flips
pos_placed pos neg mask start i before places e h = h ∙ ap (λ n. before ++ trues_from start (map (λ i. admits (without_bit pos i) neg mask) (places_below n pos))) e

pub neg_placed : (pos neg mask start i : ℕ) (before places : List ℕ) → i ≡ 64 → places ≡ before ++ trues_from start (map (λ i. admits pos (without_bit neg i) mask) (places_below i neg)) → places ≡ before ++ trues_from start (neg_flips pos neg mask)
unfolding neg_flips
neg_placed pos neg mask start i before places e h = h ∙ ap (λ n. before ++ trues_from start (map (λ i. admits pos (without_bit neg i) mask) (places_below n neg))) e

-- ---- what more than one literal keeps out, no single literal keeps out
map_same : {A B : Type 0} (f g : A → B) → ((x : A) → f x ≡ g x) → (xs : List A) → map f xs ≡ map g xs
map_same f g e xs = λ i. map (λ x. e x i) xs

all_false : {A : Type 0} (f : A → Bool) → ((x : A) → f x ≡ false) → (xs : List A) → map f xs ≡ replicate (length xs) false
all_false f e [] = refl
all_false f e (x ∷ xs) = λ i. e x i ∷ all_false f e xs i

abbrev pub lacking : ℕ → ℕ → ℕ → ℕ
lacking pos neg mask = bit_or (bit_xor pos (bit_and pos mask)) (bit_and neg mask)

lacking_parts : (pos neg mask j : ℕ) → bit_at (lacking pos neg mask) j ≡ 1 → ((bit_at pos j ≡ 1) × (bit_at mask j ≡ 0)) ⊎ ((bit_at neg j ≡ 1) × (bit_at mask j ≡ 1))
lacking_parts pos neg mask j one =
    let o = bit_at_or (bit_xor pos (bit_and pos mask)) (bit_and neg mask) j in
    let x = bit_at_xor pos (bit_and pos mask) j in
    let a = bit_at_and pos mask j in
    let b = bit_at_and neg mask j in
    ⊎_elim
    (λ has. inr (omega (arith, o, x, a, b, one, has, bit_at-lt pos j, bit_at-lt neg j), has))
    (λ lacks. inl (omega (arith, o, x, a, b, one, lacks, bit_at-lt pos j, bit_at-lt neg j, bit_at-lt mask j), omega (arith, lacks, bit_at-lt mask j)))
    (cases_eq (bit_at mask j) 1)

module _ (pos neg mask i : ℕ) where
  -- a literal that is missed is literal i, where the product admits the mask without that
  lacks_pos : (j : ℕ) → admits (without_bit pos i) neg mask ≡ true → bit_at (lacking pos neg mask) j ≡ 1 → j ≡ i
  lacks_pos j admitted one =
      let bits = bits_from_admits (without_bit pos i) neg mask admitted j in
      ⊎_elim
      (λ same. same)
      (λ other.
      ⊎_elim
      (λ p. let has = bits.0 (without_other pos i j other ∙ p.0) in absurd (omega (arith, has, p.1)))
      (λ q. let has = bits.1 q.0 in absurd (omega (arith, has, q.1)))
      (lacking_parts pos neg mask j one))
      (cases_eq j i)

  lacks_neg : (j : ℕ) → admits pos (without_bit neg i) mask ≡ true → bit_at (lacking pos neg mask) j ≡ 1 → j ≡ i
  lacks_neg j admitted one =
      let bits = bits_from_admits pos (without_bit neg i) mask admitted j in
      ⊎_elim
      (λ same. same)
      (λ other.
      ⊎_elim
      (λ p. let has = bits.0 p.0 in absurd (omega (arith, has, p.1)))
      (λ q. let has = bits.1 (without_other neg i j other ∙ q.0) in absurd (omega (arith, has, q.1)))
      (lacking_parts pos neg mask j one))
      (cases_eq j i)

-- a word whose bits are all at one place has none without its bit
one_bit : (word place i : ℕ) → ((j : ℕ) → bit_at word j ≡ 1 → j ≡ i) → bit_at word place ≡ 1 → without_bit word place ≡ 0
one_bit word place i only here =
    same_from_bits (without_bit word place) 0
    (λ j.
    let z = bit_at-zero j in
    ⊎_elim
    (λ one. let left = without_left word place j one in absurd (left.0 (only j left.1 ∙ sym (only place here))))
    (λ not_one. omega (arith, z, not_one, bit_at-lt (without_bit word place) j))
    (cases_eq (bit_at (without_bit word place) j) 1))

module _ (pos neg mask place : ℕ) (here : bit_at (lacking pos neg mask) place ≡ 1) (more : eqb (without_bit (lacking pos neg mask) place) 0 ≡ false) where
  pub no_pos_flips : pos_flips pos neg mask ≡ replicate (bits_of pos) false
  unfolding pos_flips bits_of
  no_pos_flips = all_false (λ i. admits (without_bit pos i) neg mask)
      (λ i. false_from_ne_true (admits (without_bit pos i) neg mask) (λ yes. eqb-false (without_bit (lacking pos neg mask) place) 0 more (one_bit (lacking pos neg mask) place i (λ j. lacks_pos pos neg mask i j yes) here)))
      (places_below 64 pos)

  pub no_neg_flips : neg_flips pos neg mask ≡ replicate (bits_of neg) false
  unfolding neg_flips bits_of
  no_neg_flips = all_false (λ i. admits pos (without_bit neg i) mask)
      (λ i. false_from_ne_true (admits pos (without_bit neg i) mask) (λ yes. eqb-false (without_bit (lacking pos neg mask) place) 0 more (one_bit (lacking pos neg mask) place i (λ j. lacks_neg pos neg mask i j yes) here)))
      (places_below 64 neg)

-- ---- the elements of a piece
differ_same : (b : Bool) → differ b b ≡ false
differ_same true = refl
differ_same false = refl

-- a mask that is held is held without a literal
without_pos : (pos neg mask i : ℕ) → admits pos neg mask ≡ true → admits (without_bit pos i) neg mask ≡ true
without_pos pos neg mask i admitted =
    admits_from_bits (without_bit pos i) neg mask
    (λ j one. (bits_from_admits pos neg mask admitted j).0 (without_left pos i j one).1)
    (λ j one. (bits_from_admits pos neg mask admitted j).1 one)

without_neg : (pos neg mask i : ℕ) → admits pos neg mask ≡ true → admits pos (without_bit neg i) mask ≡ true
without_neg pos neg mask i admitted =
    admits_from_bits pos (without_bit neg i) mask
    (λ j one. (bits_from_admits pos neg mask admitted j).0 one)
    (λ j one. (bits_from_admits pos neg mask admitted j).1 (without_left neg i j one).1)

-- what changes at a literal, where x is what the product answers without it, and at a hole, where x is what the holes answer
-- without it; a is what the product answers, and q what the holes answer
kept_literal : (x a q : Bool) → x ≡ true → a ≡ true → differ (x && not q) (a && not q) ≡ false
kept_literal true true q e f = differ_same (not q)
kept_literal true false q e f = absurd (false≢true f)
kept_literal false a q e f = absurd (false≢true e)

kept_hole : (x a q : Bool) → a ≡ true → differ (a && not x) (a && not q) ≡ differ x q
kept_hole true true true e = refl
kept_hole true true false e = refl
kept_hole false true true e = refl
kept_hole false true false e = refl
kept_hole x false q e = absurd (false≢true e)

missed_literal : (x a q : Bool) → a ≡ false → q ≡ false → differ (x && not q) (a && not q) ≡ x
missed_literal true false false e f = refl
missed_literal false false false e f = refl
missed_literal x true q e f = absurd (true≢false e)
missed_literal x false true e f = absurd (true≢false f)

missed_hole : (x a q : Bool) → a ≡ false → differ (a && not x) (a && not q) ≡ false
missed_hole x false q e = refl
missed_hole x true q e = absurd (true≢false e)

held_literal : (x a q : Bool) → a ≡ false → q ≡ true → differ (x && not q) (a && not q) ≡ false
held_literal true false true e f = refl
held_literal false false true e f = refl
held_literal x true q e f = absurd (true≢false e)
held_literal x false false e f = absurd (false≢true f)

module _ (m pos neg : ℕ) (holes : Shapes) where
  abbrev a : Bool
  a = admits pos neg m

  abbrev q : Bool
  q = some_holds m holes

  abbrev at_pos : ℕ → Bool
  at_pos i = differ (admits (without_bit pos i) neg m && not q) (a && not q)

  abbrev at_neg : ℕ → Bool
  at_neg i = differ (admits pos (without_bit neg i) m && not q) (a && not q)

  abbrev at_hole : Shapes → Bool
  at_hole c = differ (a && not (some_holds m c)) (a && not q)

  in_parts : flips_in m (less pos neg holes) ≡ map at_pos (places_below 64 pos) ++ (map at_neg (places_below 64 neg) ++ map at_hole (all_cuts holes))
  in_parts =
      let F : Shape → Bool = λ t. differ (holds m t) (holds m (less pos neg holes)) in
      let P : ℕ → Shape = λ i. less (without_bit pos i) neg holes in
      let N : ℕ → Shape = λ i. less pos (without_bit neg i) holes in
      map-append F (map P (places_below 64 pos)) (map N (places_below 64 neg) ++ map (less pos neg) (all_cuts holes))
      ∙ (λ i. map-map F P (places_below 64 pos) i ++ (map-append F (map N (places_below 64 neg)) (map (less pos neg) (all_cuts holes)) ∙ (λ j. map-map F N (places_below 64 neg) j ++ map-map F (less pos neg) (all_cuts holes) j)) i)

  trues_parts : (start : ℕ) → trues_from start (flips_in m (less pos neg holes))
      ≡ trues_from start (map at_pos (places_below 64 pos)) ++ (trues_from (start + bits_of pos) (map at_neg (places_below 64 neg)) ++ trues_from (start + bits_of pos + bits_of neg) (map at_hole (all_cuts holes)))
  unfolding bits_of
  trues_parts start =
      let A = map at_pos (places_below 64 pos) in
      let B = map at_neg (places_below 64 neg) in
      let C = map at_hole (all_cuts holes) in
      ap (trues_from start) in_parts ∙ trues_append start A (B ++ C)
      ∙ ap (λ ns. trues_from start A ++ ns)
      (ap (λ n. trues_from (start + n) (B ++ C)) (length-map (places_below 64 pos) at_pos)
      ∙ trues_append (start + length (places_below 64 pos)) B C
      ∙ ap (λ n. trues_from (start + length (places_below 64 pos)) B ++ trues_from (start + length (places_below 64 pos) + n) C) (length-map (places_below 64 neg) at_neg))

  nobodyat : {A : Type 0} (f : A → Bool) → ((x : A) → f x ≡ false) → (start : ℕ) (xs : List A) → trues_from start (map f xs) ≡ []
  nobodyat f e start xs = ap (trues_from start) (all_false f e xs) ∙ no_trues start (length xs)

  pub in_admitted : (start : ℕ) → a ≡ true → trues_from start (flips_in m (less pos neg holes)) ≡ trues_from (start + bits_of pos + bits_of neg) (flips m holes)
  in_admitted start e =
      trues_parts start
      ∙ (λ i.
      nobodyat at_pos (λ j. kept_literal (admits (without_bit pos j) neg m) a q (without_pos pos neg m j e) e) start (places_below 64 pos) i
      ++ (nobodyat at_neg (λ j. kept_literal (admits pos (without_bit neg j) m) a q (without_neg pos neg m j e) e) (start + bits_of pos) (places_below 64 neg) i ++ trues_from (start + bits_of pos + bits_of neg) (map_same at_hole (λ c. differ (some_holds m c) q) (λ c. kept_hole (some_holds m c) a q e) (all_cuts holes) i)))

  pub in_lacking : (start : ℕ) → a ≡ false → q ≡ false → trues_from start (flips_in m (less pos neg holes)) ≡ trues_from start (pos_flips pos neg m) ++ trues_from (start + bits_of pos) (neg_flips pos neg m)
  unfolding pos_flips neg_flips
  in_lacking start e f =
      trues_parts start
      ∙ (λ i.
      trues_from start (map_same at_pos (λ i. admits (without_bit pos i) neg m) (λ j. missed_literal (admits (without_bit pos j) neg m) a q e f) (places_below 64 pos) i)
      ++ (trues_from (start + bits_of pos) (map_same at_neg (λ i. admits pos (without_bit neg i) m) (λ j. missed_literal (admits pos (without_bit neg j) m) a q e f) (places_below 64 neg) i) ++ nobodyat at_hole (λ c. missed_hole (some_holds m c) a q e) (start + bits_of pos + bits_of neg) (all_cuts holes) i))
      ∙ ap (λ ns. trues_from start (pos_flips pos neg m) ++ ns) (append-nil (trues_from (start + bits_of pos) (neg_flips pos neg m)))

  pub in_held : (start : ℕ) → a ≡ false → q ≡ true → trues_from start (flips_in m (less pos neg holes)) ≡ []
  in_held start e f =
      trues_parts start
      ∙ (λ i.
      nobodyat at_pos (λ j. held_literal (admits (without_bit pos j) neg m) a q e f) start (places_below 64 pos) i
      ++ (nobodyat at_neg (λ j. held_literal (admits pos (without_bit neg j) m) a q e f) (start + bits_of pos) (places_below 64 neg) i ++ nobodyat at_hole (λ c. missed_hole (some_holds m c) a q e) (start + bits_of pos + bits_of neg) (all_cuts holes) i))

-- the same for a piece whose shape is known
module _ (s : Shape) (m pos neg start : ℕ) (holes : Shapes) (e : s ≡ less pos neg holes) (before after : List ℕ) where
  abbrev AreAdded : List ℕ → Type 0
  AreAdded more = after ≡ before ++ more

  abbrev found : List ℕ
  found = trues_from start (flips_in m s)

  as_shape : found ≡ trues_from start (flips_in m (less pos neg holes))
  as_shape = ap (λ t. trues_from start (flips_in m t)) e

  pub added_admitted : admits pos neg m ≡ true → AreAdded (trues_from (start + bits_of pos + bits_of neg) (flips m holes)) → AreAdded found
  added_admitted admitted h = h ∙ ap (λ ns. before ++ ns) (sym (as_shape ∙ in_admitted m pos neg holes start admitted))

  pub added_lacking : admits pos neg m ≡ false → some_holds m holes ≡ false → (middle : List ℕ) → middle ≡ before ++ trues_from start (pos_flips pos neg m) → after ≡ middle ++ trues_from (start + bits_of pos) (neg_flips pos neg m) → AreAdded found
  added_lacking missed free middle h k =
      let P = trues_from start (pos_flips pos neg m) in
      let N = trues_from (start + bits_of pos) (neg_flips pos neg m) in
      k ∙ (ap (λ ns. ns ++ N) h ∙ (append_assoc before P N ∙ ap (λ ns. before ++ ns) (sym (as_shape ∙ in_lacking m pos neg holes start missed free))))

  pub added_none : admits pos neg m ≡ false → (some_holds m holes ≡ false → (pos_flips pos neg m ≡ replicate (bits_of pos) false) × (neg_flips pos neg m ≡ replicate (bits_of neg) false)) → after ≡ before → AreAdded found
  added_none missed far h =
      let nobodyfound : found ≡ [] =
      as_shape
      ∙ ⊎_elim
      (λ held. in_held m pos neg holes start missed held)
      (λ free. let parts = far free in in_lacking m pos neg holes start missed free ∙ (λ i. trues_from start (parts.0 i) ++ trues_from (start + bits_of pos) (parts.1 i)) ∙ (λ i. no_trues start (bits_of pos) i ++ no_trues (start + bits_of pos) (bits_of neg) i))
      (cases_Bool (some_holds m holes)) in
      h ∙ (sym (append-nil before) ∙ ap (λ ns. before ++ ns) (sym nobodyfound))

-- ---- a piece beside others
module _ (m holding start : ℕ) (s : Shape) where
  abbrev one : ℕ
  one = cond (holds m s) 1 0

  pub of_alone : holding ≡ one → trues_from start (flips_of holding m s) ≡ trues_from start (holds m s ∷ []) ++ trues_from (start + 1) (flips_in m s)
  of_alone e =
      ap (trues_from start) (cond-true (eqb holding one) (holds m s ∷ flips_in m s) (replicate (suc (elements s)) false) (eq-eqb holding one e))
      ∙ trues_append start (holds m s ∷ []) (flips_in m s)

  pub of_others : ¬ (holding ≡ one) → trues_from start (flips_of holding m s) ≡ []
  of_others ne =
      ap (trues_from start) (cond-false (eqb holding one) (holds m s ∷ flips_in m s) (replicate (suc (elements s)) false) (ne_eqb holding one ne))
      ∙ no_trues start (suc (elements s))

mutual
  unfolding bits_of

  pub cuts_counted : (s : Shape) → length (cuts s) ≡ elements s
  cuts_counted (less pos neg holes) =
      let P : ℕ → Shape = λ i. less (without_bit pos i) neg holes in
      let N : ℕ → Shape = λ i. less pos (without_bit neg i) holes in
      let a = length-append (map P (places_below 64 pos)) (map N (places_below 64 neg) ++ map (less pos neg) (all_cuts holes)) in
      let b = length-append (map N (places_below 64 neg)) (map (less pos neg) (all_cuts holes)) in
      let p = length-map (places_below 64 pos) P in
      let n = length-map (places_below 64 neg) N in
      let h = length-map (all_cuts holes) (less pos neg) in
      omega (arith, a, b, p, n, h, all_cuts_counted holes)

  pub all_cuts_counted : (ss : Shapes) → length (all_cuts ss) ≡ elements_in ss
  all_cuts_counted none = refl
  all_cuts_counted (piece s ss) =
      let a = length-append (map (λ t. piece t ss) (cuts s)) (map (piece s) (all_cuts ss)) in
      let c = length-map (cuts s) (λ t. piece t ss) in
      let r = length-map (all_cuts ss) (piece s) in
      omega (arith, a, c, r, cuts_counted s, all_cuts_counted ss)

of_counted : (holding m : ℕ) (s : Shape) → length (flips_of holding m s) ≡ suc (elements s)
of_counted holding m s =
    let F : Shape → Bool = λ t. differ (holds m t) (holds m s) in
    cond_both (eqb holding (cond (holds m s) 1 0)) (holds m s ∷ flips_in m s) (replicate (suc (elements s)) false)
    (λ bs. length bs ≡ suc (elements s))
    (λ _. ap suc (length-map (cuts s) F ∙ cuts_counted s))
    (λ _. length-replicate (suc (elements s)) false)

-- ---- a list of pieces, of which so many hold the mask
abbrev pub flips_from : ℕ → ℕ → Shapes → List Bool
flips_from holding m none = []
flips_from holding m (piece s ss) = flips_of holding m s ++ flips_from holding m ss

one_more_held : (h r : Bool) (n : ℕ) → r ≡ ltb 0 n → (h || r) ≡ ltb 0 (cond h 1 0 + n)
one_more_held true r n e = sym (lt-ltb 0 (1 + n) (omega arith))
one_more_held false r n e = e ∙ ap (ltb 0) (omega arith)

held_counted : (m : ℕ) (ss : Shapes) → some_holds m ss ≡ ltb 0 (holders m ss)
held_counted m none = refl
held_counted m (piece s ss) = one_more_held (holds m s) (some_holds m ss) (holders m ss) (held_counted m ss)

-- b is whether a piece before holds the mask, h whether the piece does, r whether one of the rest does, x what the rest or the
-- piece answers with a change
alone_head : (b h r : Bool) → b ≡ false → r ≡ false → differ (b || r) (b || (h || r)) ≡ h
alone_head false true false e f = refl
alone_head false false false e f = refl
alone_head true h r e f = absurd (true≢false e)
alone_head b h true e f = absurd (true≢false f)

alone_cut : (b h r x : Bool) → b ≡ false → r ≡ false → differ (b || (x || r)) (b || (h || r)) ≡ differ x h
alone_cut false true false true e f = refl
alone_cut false true false false e f = refl
alone_cut false false false true e f = refl
alone_cut false false false false e f = refl
alone_cut true h r x e f = absurd (true≢false e)
alone_cut b h true x e f = absurd (true≢false f)

others_cut : (b h r x : Bool) → (b || r) ≡ true → differ (b || (x || r)) (b || (h || r)) ≡ false
others_cut true h r x e = refl
others_cut false true true true e = refl
others_cut false true true false e = refl
others_cut false false true true e = refl
others_cut false false true false e = refl
others_cut false h false x e = absurd (false≢true e)

later : (before : ℕ) (h x : Bool) → (ltb 0 (before + cond h 1 0) || x) ≡ (ltb 0 before || (h || x))
later before true x =
    ⊎_elim
    (λ zero_is. ap (λ n. ltb 0 (n + 1) || x) zero_is ∙ sym (ap (λ n. ltb 0 n || true) zero_is))
    (λ some. let a = lt-ltb 0 (before + 1) (omega arith) in let b = lt-ltb 0 before (omega arith) in ap (λ t. t || x) a ∙ sym (ap (λ t. t || true) b))
    (cases_eq before 0)
later before false x = ap (λ n. ltb 0 n || x) (omega arith)

pub same_flips : (before m holding : ℕ) (ss : Shapes) → holding ≡ min (before + holders m ss) 2 → flips_from holding m ss ≡ map (λ c. differ (ltb 0 before || some_holds m c) (ltb 0 before || some_holds m ss)) (all_cuts ss)
same_flips before m holding none e = refl
same_flips before m holding (piece s ss) e =
    let h = holds m s in
    let r = some_holds m ss in
    let b = ltb 0 before in
    let one : ℕ = cond h 1 0 in
    let F : Shapes → Bool = λ c. differ (b || some_holds m c) (b || (h || r)) in
    let G : Shape → Bool = λ t. differ (b || (holds m t || r)) (b || (h || r)) in
    let H : Shapes → Bool = λ c. differ (b || (h || some_holds m c)) (b || (h || r)) in
    let small : one ≤ 1 = cond_both h 1 0 (λ n. n ≤ 1) (λ _. omega arith) (λ _. omega arith) in
    let rest : flips_from holding m ss ≡ map H (all_cuts ss) =
    same_flips (before + one) m holding ss (omega (arith, e))
    ∙ map_same (λ c. differ (ltb 0 (before + one) || some_holds m c) (ltb 0 (before + one) || r)) H (λ c. λ i. differ (later before h (some_holds m c) i) (later before h r i)) (all_cuts ss) in
    let mine : flips_of holding m s ≡ F ss ∷ map G (cuts s) =
    ⊎_elim
    (λ alone.
    let nb : b ≡ false = le-ltb 0 before (omega (arith, alone)) in
    let nr : r ≡ false = held_counted m ss ∙ le-ltb 0 (holders m ss) (omega (arith, alone)) in
    cond-true (eqb holding one) (h ∷ flips_in m s) (replicate (suc (elements s)) false) (eq-eqb holding one (omega (arith, e, alone, small)))
    ∙ (λ i. sym (alone_head b h r nb nr) i ∷ map_same (λ t. differ (holds m t) h) G (λ t. sym (alone_cut b h r (holds m t) nb nr)) (cuts s) i))
    (λ others.
    let br : (b || r) ≡ true = ⊎_elim (λ earlier. or_left b r (lt-ltb 0 before earlier)) (λ nobody. or_right b r (held_counted m ss ∙ lt-ltb 0 (holders m ss) (omega (arith, others, nobody)))) (cases_lt 0 before) in
    cond-false (eqb holding one) (h ∷ flips_in m s) (replicate (suc (elements s)) false) (ne_eqb holding one (λ same. omega (arith, e, others, small, same)))
    ∙ (λ i. sym (others_head b h r br) i ∷ (sym (all_false G (λ t. others_cut b h r (holds m t) br) (cuts s) ∙ ap (λ n. replicate n false) (cuts_counted s))) i))
    (cases_eq (before + holders m ss) 0) in
    (λ i. mine i ++ rest i)
    ∙ ap (λ bs. F ss ∷ bs) (sym (map-append F (map (λ t. piece t ss) (cuts s)) (map (piece s) (all_cuts ss)) ∙ (λ i. map-map F (λ t. piece t ss) (cuts s) i ++ map-map F (piece s) (all_cuts ss) i)))
  where
    others_head : (b h r : Bool) → (b || r) ≡ true → differ (b || r) (b || (h || r)) ≡ false
    others_head true h r e = refl
    others_head false true true e = refl
    others_head false false true e = refl
    others_head false h false e = absurd (false≢true e)

-- ---- the walk over a list of pieces
module _ (holding m start : ℕ) (pieces : List Piece) where
  abbrev left : ℕ → Shapes
  left k = shapes (drop k pieces)

  abbrev pub IsNext : ℕ → ℕ → Type 0
  IsNext k at = at + elements_in (left k) ≡ start + elements_in (shapes pieces)

  abbrev pub AreFound : List ℕ → ℕ → ℕ → List ℕ → Type 0
  AreFound before k at places = places ++ trues_from at (flips_from holding m (left k)) ≡ before ++ trues_from start (flips_from holding m (shapes pieces))

  module _ (i at : ℕ) (p : Piece) (lt : i < length pieces) (is : p ≡ get_or pieces i p) where
    step : drop i pieces ≡ p ∷ drop (i + 1) pieces
    step = drop_more pieces i p lt ∙ ap (λ x. x ∷ drop (i + 1) pieces) (sym is)

    pub room_for : IsNext i at → start + elements_in (shapes pieces) ≤ 2 ^ 63 → at + 1 + elements (shape p) ≤ 2 ^ 63
    room_for next room =
        let e : elements_in (left i) ≡ 1 + elements (shape p) + elements_in (left (i + 1)) = ap (λ ps. elements_in (shapes ps)) step in
        omega (arith, e, next, room)

    pub next_step : (on : ℕ) → on ≡ at + (1 + elements (shape p)) → IsNext i at → IsNext (i + 1) on
    next_step on f next =
        let e : elements_in (left i) ≡ 1 + elements (shape p) + elements_in (left (i + 1)) = ap (λ ps. elements_in (shapes ps)) step in
        omega (arith, e, f, next)

    pub found_step : (on : ℕ) (before old new : List ℕ) → on ≡ at + (1 + elements (shape p)) → AreFound before i at old → new ≡ old ++ trues_from at (flips_of holding m (shape p)) → AreFound before (i + 1) on new
    found_step on before old new f found e =
        let here = flips_of holding m (shape p) in
        let rest = flips_from holding m (left (i + 1)) in
        let split : trues_from at (flips_from holding m (left i)) ≡ trues_from at here ++ trues_from on rest =
        ap (λ ps. trues_from at (flips_from holding m (shapes ps))) step
        ∙ trues_append at here rest
        ∙ ap (λ n. trues_from at here ++ trues_from n rest) (let size = of_counted holding m (shape p) in omega (arith, f, size)) in
        ap (λ ns. ns ++ trues_from on rest) e
        ∙ (append_assoc old (trues_from at here) (trues_from on rest) ∙ (ap (λ ns. old ++ ns) (sym split) ∙ found))

pub all_found : (m start at i holding : ℕ) (pieces : List Piece) (before places : List ℕ) → holding ≡ min (holders m (shapes pieces)) 2 → length pieces ≤ i → AreFound holding m start pieces before i at places → places ≡ before ++ trues_from start (flips m (shapes pieces))
all_found m start at i holding pieces before places e le found =
    let empty : trues_from at (flips_from holding m (shapes (drop i pieces))) ≡ [] = ap (λ ps. trues_from at (flips_from holding m (shapes ps))) (drop_of_length-le pieces le) in
    sym (append-nil places) ∙ ap (λ ns. places ++ ns) (sym empty) ∙ found ∙ ap (λ bs. before ++ trues_from start bs) (same_flips 0 m holding (shapes pieces) (omega (arith, e)))

-- a piece of the list has no more products than the list
pub products_at : (pieces : List Piece) (i : ℕ) (p : Piece) → i < length pieces → p ≡ get_or pieces i p → products (shape p) ≤ products_in (shapes pieces)
products_at [] i p lt is = absurd (omega arith)
products_at (x ∷ pieces) zero p lt is = let e : products (shape p) ≡ products (shape x) = ap (λ y. products (shape y)) is in omega (arith, e)
products_at (x ∷ pieces) (suc i) p lt is = let e = products_at pieces i p (omega arith) is in omega (arith, e)
