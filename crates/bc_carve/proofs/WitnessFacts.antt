-- Witnesses, mask by mask: what has one, and that what has none is not needed for the masks so far.
use Rattle.std.proofs.Common.{ℕ, zero, suc, ◌≡◌, ◌+◌, ◌-◌, ◌<◌, ◌≤◌, true, false, Bool, List, [], ◌∷◌, take, length, get_or, Option, Some, None, sym, ◌∙◌, ap, refl, subst, arith, ⊎_elim}
use Rattle.std.specs.Prelude.{IsSome, IsSomeAnd, slice_get}
use Rattle.std.specs.List.{All, AllZip, Contains}
use Rattle.std.proofs.lemmas.Bool.{true≢false, false≢true, false_from_ne_true}
use Rattle.std.proofs.lemmas.Option.{slice_get-get_or}
use Rattle.std.proofs.lemmas.List.{get_or-map, length-map}
use Rattle.std.proofs.lemmas.List.Elements.{All-nil, All-cons, All-more, All-weaker, All-contains, Contains-append_right}
use Rattle.bc_carve.specs.declared.witness.Witness.{Witness}
use Rattle.bc_carve.specs.declared.witness.Witness.TheVariants.{Inside, Outside}
use Rattle.bc_carve.specs.Shape.{Shapes, none, some_holds}
use Rattle.bc_carve.specs.Carving.{AreHeld, NoneHeld}
use Rattle.bc_carve.specs.Cuts.{all_cuts}
use Rattle.bc_carve.specs.Flips.{differ, flips, elements_in, trues_from}
use Rattle.bc_carve.specs.Witnesses.{IsShown}
use Rattle.bc_carve.specs.Steps.{IsFilled}
use Rattle.bc_carve.proofs.KeptFacts.{all_taken}
use Rattle.bc_carve.proofs.FlipFacts.{all_cuts_counted}

-- ---- which places are those of trues
abbrev IsTrueAt : ℕ → List Bool → ℕ → Type 0
IsTrueAt start bs p = (start ≤ p) × (p < start + length bs) × (get_or bs (p - start) false ≡ true)

later : (start : ℕ) (b : Bool) (bs : List Bool) (p : ℕ) → IsTrueAt (suc start) bs p → IsTrueAt start (b ∷ bs) p
later start b bs p h =
    let e : p - start ≡ suc (p - suc start) = omega (arith, h.0) in
    (omega (arith, h.0), omega (arith, h.1), ap (λ n. get_or (b ∷ bs) n false) e ∙ h.2)

pub are_trues : (start : ℕ) (bs : List Bool) → All (IsTrueAt start bs) (trues_from start bs)
are_trues start [] = All-nil (IsTrueAt start [])
are_trues start (true ∷ bs) =
    let here : start - start ≡ 0 = omega arith in
    All-cons (IsTrueAt start (true ∷ bs)) start (trues_from (suc start) bs)
    (omega arith, omega arith, ap (λ n. get_or (true ∷ bs) n false) here)
    (All-weaker (IsTrueAt (suc start) bs) (IsTrueAt start (true ∷ bs)) (later start true bs) (trues_from (suc start) bs) (are_trues (suc start) bs))
are_trues start (false ∷ bs) = All-weaker (IsTrueAt (suc start) bs) (IsTrueAt start (false ∷ bs)) (later start false bs) (trues_from (suc start) bs) (are_trues (suc start) bs)

true_at : (start : ℕ) (bs : List Bool) (k : ℕ) → k < length bs → get_or bs k false ≡ true → Contains (trues_from start bs) (start + k)
true_at start [] k lt e = absurd (omega arith)
true_at start (true ∷ bs) zero lt e = let here : start ≡ start + 0 = omega arith in (0, omega arith, here)
true_at start (false ∷ bs) zero lt e = absurd (false≢true e)
true_at start (true ∷ bs) (suc k) lt e =
    let on : suc start + k ≡ start + suc k = omega arith in
    Contains-append_right (start ∷ []) (trues_from (suc start) bs) (start + suc k) (subst (Contains (trues_from (suc start) bs)) on (true_at (suc start) bs k (omega arith) e))
true_at start (false ∷ bs) (suc k) lt e =
    let on : suc start + k ≡ start + suc k = omega arith in
    subst (Contains (trues_from (suc start) bs)) on (true_at (suc start) bs k (omega arith) e)

-- ---- one mask more
abbrev pub IsSoFar : List ℕ → List ℕ → ℕ → ℕ → Shapes → Option Witness → Type 0
IsSoFar inside outside i j cut None = AreHeld (take i inside) cut × NoneHeld (take j outside) cut
IsSoFar inside outside i j cut (Some w) = IsShown inside outside cut (Some w)

-- each element has a witness, or is not needed for the first i inside masks and the first j outside ones
pub record AreSoFar (inside outside : List ℕ) (i j : ℕ) (ss : Shapes) (shown : List (Option Witness)) : Type 0 where
  pub long : length shown ≡ elements_in ss
  pub each : (k : ℕ) → k < elements_in ss → IsSoFar inside outside i j (get_or (all_cuts ss) k none) (get_or shown k None)

module _ (m k : ℕ) (ss : Shapes) (lt : k < elements_in ss) where
  abbrev here : Shapes
  here = get_or (all_cuts ss) k none

  within : k < length (all_cuts ss)
  within = let size = all_cuts_counted ss in omega (arith, size, lt)

  flip_at : get_or (flips m ss) k false ≡ differ (some_holds m here) (some_holds m ss)
  flip_at = get_or-map (λ c. differ (some_holds m c) (some_holds m ss)) (all_cuts ss) k none false within

  flips_long : k < length (flips m ss)
  flips_long = let size = length-map (all_cuts ss) (λ c. differ (some_holds m c) (some_holds m ss)) in omega (arith, size, within)

  -- a place that is named is one where the mask comes out otherwise
  changed : Contains (trues_from 0 (flips m ss)) k → differ (some_holds m here) (some_holds m ss) ≡ true
  changed named =
      let w = All-contains (IsTrueAt 0 (flips m ss)) (trues_from 0 (flips m ss)) k (are_trues 0 (flips m ss)) named in
      let e : k - 0 ≡ k = omega arith in
      sym flip_at ∙ ap (λ n. get_or (flips m ss) n false) (sym e) ∙ w.2

  unchanged : (places : List ℕ) (witness : Witness) (old new : List (Option Witness)) → places ≡ trues_from 0 (flips m ss) → IsFilled places witness old new → get_or new k None ≡ None → differ (some_holds m here) (some_holds m ss) ≡ false
  unchanged places witness old new e filled is_none = false_from_ne_true (differ (some_holds m here) (some_holds m ss)) (λ changes.
      let named : Contains places k = subst (λ (ps : List ℕ). Contains ps k) (sym e) (let e : 0 + k ≡ k = omega arith in subst (Contains (trues_from 0 (flips m ss))) e (true_at 0 (flips m ss) k flips_long (flip_at ∙ changes))) in
      false≢true (subst IsSome is_none (All-contains (λ place. IsSome (get_or new place None)) places k filled.none_left named)))

differ_true : (b : Bool) → differ b true ≡ true → b ≡ false
differ_true true e = absurd (false≢true e)
differ_true false e = refl

same_true : (b : Bool) → differ b true ≡ false → b ≡ true
same_true true e = refl
same_true false e = absurd (true≢false e)

differ_false : (b : Bool) → differ b false ≡ true → b ≡ true
differ_false true e = refl
differ_false false e = absurd (false≢true e)

same_false : (b : Bool) → differ b false ≡ false → b ≡ false
same_false true e = absurd (true≢false e)
same_false false e = refl

-- the named places are within the list
pub named_within : (m : ℕ) (ss : Shapes) (places : List ℕ) (shown : List (Option Witness)) → places ≡ trues_from 0 (flips m ss) → length shown ≡ elements_in ss → All (λ p. p < length shown) places
named_within m ss places shown e long =
    subst (λ (ps : List ℕ). All (λ p. p < length shown) ps) (sym e)
    (All-weaker (IsTrueAt 0 (flips m ss)) (λ p. p < length shown)
    (λ p h. let size = length-map (all_cuts ss) (λ c. differ (some_holds m c) (some_holds m ss)) in let counted = all_cuts_counted ss in omega (arith, h.1, size, counted, long))
    (trues_from 0 (flips m ss))
    (are_trues 0 (flips m ss)))

-- ---- an element after one mask more
module _ (inside outside : List ℕ) (ss : Shapes) (places : List ℕ) (old new : List (Option Witness)) where
  kept_inside : (i j : ℕ) (cut : Shapes) (o : Option Witness) → i < length inside → IsSoFar inside outside i j cut o → (o ≡ None → some_holds (get_or inside i 0) cut ≡ true) → IsSoFar inside outside (i + 1) j cut o
  kept_inside i j cut None lt h free = (All-more (λ m. some_holds m cut ≡ true) inside i 0 lt h.0 (free refl), h.1)
  kept_inside i j cut (Some w) lt h free = h

  kept_outside : (i j : ℕ) (cut : Shapes) (o : Option Witness) → j < length outside → IsSoFar inside outside i j cut o → (o ≡ None → some_holds (get_or outside j 0) cut ≡ false) → IsSoFar inside outside i (j + 1) cut o
  kept_outside i j cut None lt h free = (h.0, All-more (λ m. some_holds m cut ≡ false) outside j 0 lt h.1 (free refl))
  kept_outside i j cut (Some w) lt h free = h

  shown_at : (masks : List ℕ) (place : ℕ) (P : ℕ → Type 0) → place < length masks → P (get_or masks place 0) → IsSomeAnd (slice_get masks place) P
  shown_at masks place P lt h = subst (λ (o : Option ℕ). IsSomeAnd o P) (sym (slice_get-get_or masks place 0 lt)) h

  pub inside_step : (i j : ℕ) → i < length inside → AreHeld inside ss → places ≡ trues_from 0 (flips (get_or inside i 0) ss) → IsFilled places (Inside i) old new → AreSoFar inside outside i j ss old → AreSoFar inside outside (i + 1) j ss new
  inside_step i j lt held e filled before =
      let m = get_or inside i 0 in
      let yes_held : some_holds m ss ≡ true = held i 0 lt in
      record {
        long = filled.long ∙ before.long;
        each = λ k less.
            let c = get_or (all_cuts ss) k none in
            ⊎_elim
            (λ same.
            subst (IsSoFar inside outside (i + 1) j c) (sym same)
            (kept_inside i j c (get_or old k None) lt (before.each k less)
            (λ is_none. same_true (some_holds m c) (ap (differ (some_holds m c)) (sym yes_held) ∙ unchanged m k ss less places (Inside i) old new e filled (same ∙ is_none)))))
            (λ named.
            subst (IsSoFar inside outside (i + 1) j c) (sym named.0)
            (shown_at inside i (λ x. some_holds x c ≡ false) lt
            (differ_true (some_holds m c) (ap (differ (some_holds m c)) (sym yes_held) ∙ changed m k ss less (subst (λ (ps : List ℕ). Contains ps k) e named.1)))))
            (filled.each k);
      }

  pub outside_step : (i j : ℕ) → j < length outside → NoneHeld outside ss → places ≡ trues_from 0 (flips (get_or outside j 0) ss) → IsFilled places (Outside j) old new → AreSoFar inside outside i j ss old → AreSoFar inside outside i (j + 1) ss new
  outside_step i j lt free e filled before =
      let m = get_or outside j 0 in
      let not_held : some_holds m ss ≡ false = free j 0 lt in
      record {
        long = filled.long ∙ before.long;
        each = λ k less.
            let c = get_or (all_cuts ss) k none in
            ⊎_elim
            (λ same.
            subst (IsSoFar inside outside i (j + 1) c) (sym same)
            (kept_outside i j c (get_or old k None) lt (before.each k less)
            (λ is_none. same_false (some_holds m c) (ap (differ (some_holds m c)) (sym not_held) ∙ unchanged m k ss less places (Outside j) old new e filled (same ∙ is_none)))))
            (λ named.
            subst (IsSoFar inside outside i (j + 1) c) (sym named.0)
            (shown_at outside j (λ x. some_holds x c ≡ true) lt
            (differ_false (some_holds m c) (ap (differ (some_holds m c)) (sym not_held) ∙ changed m k ss less (subst (λ (ps : List ℕ). Contains ps k) e named.1)))))
            (filled.each k);
      }

zipped : {A B : Type 0} (R : A → B → Type 0) (xs : List A) (ys : List B) (d : A) (e : B) → length ys ≡ length xs → ((k : ℕ) → k < length xs → R (get_or xs k d) (get_or ys k e)) → AllZip R xs ys
zipped R [] [] d e long each = tt
zipped R [] (y ∷ ys) d e long each = absurd (omega (arith, long))
zipped R (x ∷ xs) [] d e long each = absurd (omega (arith, long))
zipped R (x ∷ xs) (y ∷ ys) d e long each = (each 0 (omega arith), zipped R xs ys d e (omega (arith, long)) (λ k lt. each (suc k) (omega arith)))

at_end : (inside outside : List ℕ) (i j : ℕ) (cut : Shapes) (o : Option Witness) → length inside ≤ i → length outside ≤ j → IsSoFar inside outside i j cut o → IsShown inside outside cut o
at_end inside outside i j cut None le lo h = (all_taken (λ m. some_holds m cut ≡ true) inside i le h.0, all_taken (λ m. some_holds m cut ≡ false) outside j lo h.1)
at_end inside outside i j cut (Some w) le lo h = h

pub all_shown : (inside outside : List ℕ) (i j : ℕ) (ss : Shapes) (shown : List (Option Witness)) → length inside ≤ i → length outside ≤ j → AreSoFar inside outside i j ss shown → AllZip (IsShown inside outside) (all_cuts ss) shown
all_shown inside outside i j ss shown le lo h =
    let size = all_cuts_counted ss in
    zipped (IsShown inside outside) (all_cuts ss) shown none None (omega (arith, size, h.long))
    (λ k lt. at_end inside outside i j (get_or (all_cuts ss) k none) (get_or shown k None) le lo (h.each k (omega (arith, size, lt))))
