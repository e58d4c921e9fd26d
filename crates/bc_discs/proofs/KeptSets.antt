-- Lists of the sets that stay: one number, one list behind another, and the sets of one disc more.
use Rattle.std.proofs.Common.{◌≡◌, ℕ, zero, suc, ◌+◌, ◌-◌, ◌*◌, ◌/◌, ◌%◌, ◌^◌, ◌<◌, ◌≤◌, true, false, ◌⊎◌, inl, inr, List, [], ◌∷◌, ◌++◌, length, take, drop, get_or, nat_eq, refl, sym, ap, ◌∙◌, subst, arith}
use Rattle.std.proofs.Math.Nat.{pow-succ'}
use Rattle.std.proofs.Math.Seq.{drop-length}
use Rattle.std.proofs.lemmas.List.{take_all, take_more, drop_more, get_or-take, length-take-le, length-drop}
use Rattle.std.proofs.lemmas.Option.{slice_get-get_or, get_or_from_slice_get}
use Rattle.std.proofs.lemmas.List.Elements.{All-nil, All-cons, All-append, All-contains, Contains-push, Contains-append_left, Contains-append_right, Contains-push_cases}
use Rattle.std.specs.List.{AllPairs, Contains}
use Rattle.bc_num.specs.declared.p2.P2.{P2}
use Rattle.bc_num.specs.declared.disc2.Disc2.{Disc2}
use Rattle.bc_cells.proofs.Lists.{contains_none}
use Rattle.bc_discs.specs.declared.choice.Choice.{Choice}
use Rattle.bc_discs.specs.declared.sieve.Sieve.{Sieve}
use Rattle.bc_discs.specs.declared.wall.Wall.{Wall}
use Rattle.bc_discs.specs.Rules.{choices_of}
use Rattle.bc_discs.specs.Sieves.{Fires, FiresFirst, AreListed, AreSets}
use Rattle.bc_discs.proofs.Firsts.{fires_first, fires_case}
use Rattle.bc_discs.proofs.Found.{all_pairs_append}

-- ---- lists

pub listed_none : (Wanted : ℕ → Type 0) (n : ℕ) → (Wanted n → ⊥) → AreListed Wanted (λ k. k ≡ n) []
listed_none Wanted n none = record {
  each = All-nil Wanted;
  within = All-nil (λ k. k ≡ n);
  every = λ k e w. absurd (none (subst Wanted e w));
  order = λ i j d l m. absurd (omega arith);
}

pub listed_one : (Wanted : ℕ → Type 0) (n : ℕ) → Wanted n → AreListed Wanted (λ k. k ≡ n) (n ∷ [])
listed_one Wanted n w = record {
  each = All-cons Wanted n [] w (All-nil Wanted);
  within = All-cons (λ k. k ≡ n) n [] refl (All-nil (λ k. k ≡ n));
  every = λ k e v. (0, omega arith, sym e);
  order = λ i j d l m. absurd (omega arith);
}

pub listed_append : (Wanted S T : ℕ → Type 0) (xs ys : List ℕ) → ((m n : ℕ) → S m → T n → m < n) → AreListed Wanted S xs → AreListed Wanted T ys → AreListed Wanted (λ n. S n ⊎ T n) (xs ++ ys)
listed_append Wanted S T xs ys less a b = record {
  each = All-append Wanted xs ys a.each b.each;
  within = All-append (λ n. S n ⊎ T n) xs ys (λ k d l. inl (a.within k d l)) (λ k d l. inr (b.within k d l));
  every = λ n s w. elim s [
    | inl m ↦ Contains-append_left xs ys n (a.every n m w)
    | inr m ↦ Contains-append_right xs ys n (b.every n m w)
  ];
  order = all_pairs_append ◌<◌ xs ys a.order b.order (λ i j d l m. less (get_or xs i d) (get_or ys j d) (a.within i d l) (b.within j d m));
}

-- said of the same numbers otherwise
pub listed_same : (V W S T : ℕ → Type 0) (xs : List ℕ) → ((n : ℕ) → S n → V n → W n) → ((n : ℕ) → S n → V n → T n) → ((n : ℕ) → T n → W n → S n) → ((n : ℕ) → T n → W n → V n) → AreListed V S xs → AreListed W T xs
listed_same V W S T xs wanted scope back_scope back_wanted a = record {
  each = λ k d l. wanted (get_or xs k d) (a.within k d l) (a.each k d l);
  within = λ k d l. scope (get_or xs k d) (a.within k d l) (a.each k d l);
  every = λ n t w. a.every n (back_scope n t w) (back_wanted n t w);
  order = a.order;
}

-- ---- one disc more

bit_true : (m : ℕ) → nat_eq ((2 * m + 1) % 2) 1 ≡ true
bit_true m = let e : (2 * m + 1) % 2 ≡ 1 = omega arith in ap (λ k. nat_eq k 1) e

bit_false : (m : ℕ) → nat_eq ((2 * m) % 2) 1 ≡ false
bit_false m = let e : (2 * m) % 2 ≡ 0 = omega arith in ap (λ k. nat_eq k 1) e

pub choices_taken : (d : Disc2) (ds : List Disc2) (m : ℕ) → choices_of (2 * m + 1) (d ∷ ds) ≡ record { disc = d; is_in = true } ∷ choices_of m ds
choices_taken d ds m =
    let e : (2 * m + 1) / 2 ≡ m = omega arith in
    ap (λ b. record { disc = d; is_in = b } ∷ choices_of ((2 * m + 1) / 2) ds) (bit_true m) ∙ ap (λ k. record { disc = d; is_in = true } ∷ choices_of k ds) e

pub choices_left : (d : Disc2) (ds : List Disc2) (m : ℕ) → choices_of (2 * m) (d ∷ ds) ≡ record { disc = d; is_in = false } ∷ choices_of m ds
choices_left d ds m =
    let e : (2 * m) / 2 ≡ m = omega arith in
    ap (λ b. record { disc = d; is_in = b } ∷ choices_of ((2 * m) / 2) ds) (bit_false m) ∙ ap (λ k. record { disc = d; is_in = false } ∷ choices_of k ds) e

halves : (n m : ℕ) → n / 2 ≡ m → (n ≡ 2 * m) ⊎ (n ≡ 2 * m + 1)
halves n m e = parts (n % 2) refl
  where
    parts : (b : ℕ) → n % 2 ≡ b → (n ≡ 2 * m) ⊎ (n ≡ 2 * m + 1)
    parts zero f = inl (omega arith)
    parts (suc b) f = inr (omega arith)

module _ (Rule : List Choice → Type 0) (d : Disc2) (ds : List Disc2) where
  -- both numbers of a set: without the disc and with it
  pub listed_both : (m : ℕ) (xs ys : List ℕ) → AreListed (λ _. Rule (record { disc = d; is_in = false } ∷ choices_of m ds) → ⊥) (λ n. n ≡ 2 * m) xs → AreListed (λ _. Rule (record { disc = d; is_in = true } ∷ choices_of m ds) → ⊥) (λ n. n ≡ 2 * m + 1) ys → AreListed (λ n. Rule (choices_of n (d ∷ ds)) → ⊥) (λ n. n / 2 ≡ m) (xs ++ ys)
  listed_both m xs ys a b =
      let V : ℕ → Type 0 = λ n. Rule (choices_of n (d ∷ ds)) → ⊥ in
      let c = listed_same (λ _. Rule (record { disc = d; is_in = false } ∷ choices_of m ds) → ⊥) V (λ n. n ≡ 2 * m) (λ n. n ≡ 2 * m) xs
      (λ n s none h. none (subst Rule (left n s) h)) (λ n s _. s) (λ n s _. s) (λ n s none h. none (subst Rule (sym (left n s)) h)) a in
      let e = listed_same (λ _. Rule (record { disc = d; is_in = true } ∷ choices_of m ds) → ⊥) V (λ n. n ≡ 2 * m + 1) (λ n. n ≡ 2 * m + 1) ys
      (λ n s none h. none (subst Rule (taken n s) h)) (λ n s _. s) (λ n s _. s) (λ n s none h. none (subst Rule (sym (taken n s)) h)) b in
      listed_same V V (λ n. (n ≡ 2 * m) ⊎ (n ≡ 2 * m + 1)) (λ n. n / 2 ≡ m) (xs ++ ys) (λ n _ v. v) (λ n s _. whole n s) (λ n s _. halves n m s) (λ n _ v. v)
      (listed_append V (λ n. n ≡ 2 * m) (λ n. n ≡ 2 * m + 1) xs ys (λ i j s t. omega arith) c e)
    where
      left : (n : ℕ) → n ≡ 2 * m → choices_of n (d ∷ ds) ≡ record { disc = d; is_in = false } ∷ choices_of m ds
      left n s = ap (λ k. choices_of k (d ∷ ds)) s ∙ choices_left d ds m

      taken : (n : ℕ) → n ≡ 2 * m + 1 → choices_of n (d ∷ ds) ≡ record { disc = d; is_in = true } ∷ choices_of m ds
      taken n s = ap (λ k. choices_of k (d ∷ ds)) s ∙ choices_taken d ds m

      whole : (n : ℕ) → (n ≡ 2 * m) ⊎ (n ≡ 2 * m + 1) → n / 2 ≡ m
      whole n (inl e) = omega arith
      whole n (inr e) = omega arith

  -- the numbers of the first sets
  abbrev pub AreOf : List ℕ → List ℕ → Type 0
  AreOf sets more = AreListed (λ n. Rule (choices_of n (d ∷ ds)) → ⊥) (λ n. Contains sets (n / 2)) more

  pub of_none : AreOf [] []
  of_none = record {
    each = All-nil (λ n. Rule (choices_of n (d ∷ ds)) → ⊥);
    within = All-nil (λ n. Contains [] (n / 2));
    every = λ n s w. absurd (contains_none (n / 2) s);
    order = λ i j d l m. absurd (omega arith);
  }

  pub of_more : (sets more extra : List ℕ) (i : ℕ) → i < length sets → AllPairs ◌<◌ sets → AreOf (take i sets) more → AreListed (λ n. Rule (choices_of n (d ∷ ds)) → ⊥) (λ n. n / 2 ≡ get_or sets i 0) extra → AreOf (take (i + 1) sets) (more ++ extra)
  of_more sets more extra i within rising a b =
      let V : ℕ → Type 0 = λ n. Rule (choices_of n (d ∷ ds)) → ⊥ in
      let m = get_or sets i 0 in
      subst (λ (xs : List ℕ). AreOf xs (more ++ extra)) (sym (take_more sets i 0 within))
      (listed_same V V (λ n. Contains (take i sets) (n / 2) ⊎ (n / 2 ≡ get_or sets i 0)) (λ n. Contains (take i sets ++ get_or sets i 0 ∷ []) (n / 2)) (more ++ extra)
      (λ n _ v. v)
      (λ n s _. elim s [ inl h ↦ Contains-append_left (take i sets) (get_or sets i 0 ∷ []) (n / 2) h | inr e ↦ subst (λ k. Contains (take i sets ++ get_or sets i 0 ∷ []) k) (sym e) (Contains-push (take i sets) (get_or sets i 0)) ])
      (λ n s _. elim (Contains-push_cases (take i sets) (get_or sets i 0) (n / 2) s) [ inl h ↦ inl h | inr e ↦ inr (sym e) ])
      (λ n _ v. v)
      (listed_append V (λ n. Contains (take i sets) (n / 2)) (λ n. n / 2 ≡ get_or sets i 0) more extra (λ j k s t. half_lt j k (below j s) t) a b))
    where
      half_lt : (j k : ℕ) → j / 2 < get_or sets i 0 → k / 2 ≡ get_or sets i 0 → j < k
      half_lt j k l e = omega arith

      below : (j : ℕ) → Contains (take i sets) (j / 2) → j / 2 < get_or sets i 0
      below j h =
          let l : h.0 < i = (let t : length (take i sets) ≡ i = length-take-le i sets (omega arith) in let u : h.0 < length (take i sets) = h.1 in omega arith) in
          let at : get_or sets i (j / 2) ≡ get_or sets i 0 = get_or_from_slice_get sets i (get_or sets i 0) (j / 2) (slice_get-get_or sets i 0 within) in
          let first : get_or sets h.0 (j / 2) ≡ j / 2 = sym (get_or-take i sets h.0 (j / 2) l) ∙ h.2 in
          let r : get_or sets h.0 (j / 2) < get_or sets i (j / 2) = rising h.0 i (j / 2) l within in
          omega arith

  -- the sets of these discs, where what fires at some choices fires at one more in front
  pub sets_more : (sets more : List ℕ) (i : ℕ) → ((c : Choice) (cs : List Choice) → Rule cs → Rule (c ∷ cs)) → length sets ≤ i → AreSets Rule ds sets → AreOf (take i sets) more → AreSets Rule (d ∷ ds) more
  sets_more sets more i grow over are of =
      let V : ℕ → Type 0 = λ n. Rule (choices_of n (d ∷ ds)) → ⊥ in
      let whole : AreOf sets more = subst (λ (xs : List ℕ). AreOf xs more) (take_all i sets over) of in
      let two : 2 ^ suc (length ds) ≡ 2 * 2 ^ length ds = pow-succ' 2 (length ds) in
      listed_same V V (λ n. Contains sets (n / 2)) (λ n. n < 2 ^ length (d ∷ ds)) more
      (λ n _ v. v)
      (λ n s _. let l : n / 2 < 2 ^ length ds = All-contains (λ k. k < 2 ^ length ds) sets (n / 2) are.within s in omega arith)
      (λ n l v. are.every (n / 2) (let m : n < 2 ^ suc (length ds) = l in omega arith) (λ h. v (grow (record { disc = d; is_in = nat_eq (n % 2) 1 }) (choices_of (n / 2) ds) h)))
      (λ n _ v. v)
      whole

-- where no rule takes out the choices behind the first, what takes out all does so because of the first
pub listed_first : (s : Sieve) (corners : List P2) (walls : List Wall) (c : Choice) (cs : List Choice) (Scope : ℕ → Type 0) (xs : List ℕ) → (Fires s corners walls cs → ⊥) → AreListed (λ _. FiresFirst s corners walls c cs → ⊥) Scope xs → AreListed (λ _. Fires s corners walls (c ∷ cs) → ⊥) Scope xs
listed_first s corners walls c cs Scope xs kept a =
    listed_same (λ _. FiresFirst s corners walls c cs → ⊥) (λ _. Fires s corners walls (c ∷ cs) → ⊥) Scope Scope xs
    (λ n _ v h. elim (fires_case corners walls c cs s h) [ inl f ↦ v f | inr more ↦ kept more ])
    (λ n t _. t)
    (λ n t _. t)
    (λ n _ w h. w (fires_first corners walls c cs s h))
    a

-- no discs have one set
pub sets_none : (Rule : List Choice → Type 0) → (Rule [] → ⊥) → AreSets Rule [] (0 ∷ [])
sets_none Rule none = listed_same (λ n. Rule (choices_of n []) → ⊥) (λ n. Rule (choices_of n []) → ⊥) (λ n. n ≡ 0) (λ n. n < 2 ^ length {A = Disc2} []) (0 ∷ []) (λ n _ v. v) (λ n e _. omega arith) (λ n l _. omega arith) (λ n _ v. v)
    (listed_one (λ n. Rule (choices_of n []) → ⊥) 0 none)

-- ---- the discs from the last one on

pub tail_whole : (ds : List Disc2) (k : ℕ) → take (length ds - k) (drop k ds) ≡ drop k ds
tail_whole ds k = take_all (length ds - k) (drop k ds) (let e = length-drop k ds in omega arith)

-- the disc before those of the last turn, and these
pub tail_more : (ds : List Disc2) (i : ℕ) (d : Disc2) → i < length ds → d ≡ get_or ds (length ds - 1 - i) d → d ∷ take (length ds - (length ds - 1 - i + 1)) (drop (length ds - 1 - i + 1) ds) ≡ drop (length ds - (i + 1)) ds
tail_more ds i d l is =
    let k : length ds - (i + 1) ≡ length ds - 1 - i = omega arith in
    ap (λ xs. d ∷ xs) (tail_whole ds (length ds - 1 - i + 1))
    ∙ ap (λ e. e ∷ drop (length ds - 1 - i + 1) ds) is
    ∙ sym (drop_more ds (length ds - 1 - i) d (omega arith))
    ∙ ap (λ n. drop n ds) (sym k)

pub tail_before : (ds : List Disc2) (i : ℕ) → i < length ds → take (length ds - (length ds - 1 - i + 1)) (drop (length ds - 1 - i + 1) ds) ≡ drop (length ds - i) ds
tail_before ds i l =
    let k : length ds - 1 - i + 1 ≡ length ds - i = omega arith in
    tail_whole ds (length ds - 1 - i + 1) ∙ ap (λ n. drop n ds) k

pub tail_none : (ds : List Disc2) → drop (length ds - 0) ds ≡ []
tail_none ds = let e : length ds - 0 ≡ length ds = omega arith in ap (λ n. drop n ds) e ∙ drop-length ds

pub tail_all : (ds : List Disc2) (i : ℕ) → length ds ≤ i → drop (length ds - i) ds ≡ ds
tail_all ds i l = let e : length ds - i ≡ 0 = omega arith in ap (λ n. drop n ds) e
