-- Places that pass a test, and the groups of masks in which they are looked for.
use Rattle.std.proofs.Common.{ℕ, zero, suc, ◌≡◌, ◌+◌, ◌-◌, ◌<◌, ◌≤◌, true, false, Bool, List, [], ◌∷◌, ◌++◌, drop, take, length, get_or, set, get_or-set_same, get_or-set_other, sym, ◌∙◌, ap, refl, subst, arith, ⊎_elim, cond, eqb}
use Rattle.std.specs.Prelude.{slice_index, count_by}
use Rattle.std.specs.List.{All, Contains}
use Rattle.std.specs.Int.{bit_at}
use Rattle.std.specs.Int.Bits.{bit_and, bit_xor}
use Rattle.std.proofs.lemmas.Bool.{cases_Bool, cases_eq, cases_lt, eqb-true, eq-eqb, both_ways, false_from_ne_true}
use Rattle.std.proofs.Math.ListN.{drop_of_length-le}
use Rattle.std.proofs.lemmas.List.{drop_more}
use Rattle.std.proofs.lemmas.List.Elements.{All-nil, All-push, All-weaker, Contains-push, Contains-append_left}
use Rattle.std.proofs.lemmas.List.Sums.{sum_by_push, sum_by_more, sum_by_more_le}
use Rattle.std.proofs.lemmas.Nat.Bits.{bit_at_and, bit_at_xor, bit_at-lt}
use Rattle.bc_cover.specs.declared.groups.Group.{Group}
use Rattle.bc_cover.specs.Masks.{admits, agrees}
use Rattle.bc_cover.specs.Groups.{IsGroup, AreGroupsTo, places_where, held_below, held_places}
use Rattle.bc_cover.proofs.BitFacts.{bits_from_agrees, agrees_from_bits, agrees_fewer, bits_from_admits, admits_from_bits}

-- ---- places
abbrev pub one_where : Bool → ℕ
one_where b = cond b 1 0

module _ (test : ℕ → Bool) where
  pub where_next : (n : ℕ) → test n ≡ true → places_where test (suc n) ≡ places_where test n ++ n ∷ []
  where_next n told = ap (λ b. cond b (places_where test n ++ n ∷ []) (places_where test n)) told

  pub where_same : (n : ℕ) → test n ≡ false → places_where test (suc n) ≡ places_where test n
  where_same n told = ap (λ b. cond b (places_where test n ++ n ∷ []) (places_where test n)) told

  -- where nothing passes between two places, nothing is added
  pub where_skips : (from to : ℕ) → from ≤ to → ((i : ℕ) → from ≤ i → i < to → test i ≡ false) → places_where test to ≡ places_where test from
  where_skips from zero le none = let first : zero ≡ from = omega (arith, le) in ap (places_where test) first
  where_skips from (suc n) le none =
      ⊎_elim
      (λ same. ap (places_where test) (sym same))
      (λ other. where_same n (none n (omega (arith, le, other)) (omega arith)) ∙ where_skips from n (omega (arith, le, other)) (λ i low high. none i low (omega (arith, high))))
      (cases_eq from (suc n))

  pub where_all : (n : ℕ) → All (λ p. (p < n) × (test p ≡ true)) (places_where test n)
  where_all zero = All-nil (λ p. (p < zero) × (test p ≡ true))
  where_all (suc n) =
      let P : ℕ → Type 0 = λ p. (p < suc n) × (test p ≡ true) in
      let Q : ℕ → Type 0 = λ p. (p < n) × (test p ≡ true) in
      let before : All P (places_where test n) = All-weaker Q P (λ p h. (omega (arith, h), h.1)) (places_where test n) (where_all n) in
      let W : List ℕ → Type 0 = λ xs. All P xs in
      ⊎_elim
      (λ yes. subst W (sym (where_next n yes)) (All-push P (places_where test n) n before (omega arith, yes)))
      (λ no. subst W (sym (where_same n no)) before)
      (cases_Bool (test n))

  pub where_has : (n i : ℕ) → i < n → test i ≡ true → Contains (places_where test n) i
  where_has zero i lt told = absurd (omega (arith, lt))
  where_has (suc n) i lt told =
      let W : List ℕ → Type 0 = λ xs. Contains xs i in
      ⊎_elim
      (λ same.
      let P : ℕ → Type 0 = λ k. Contains (places_where test n ++ k ∷ []) i in
      subst W (sym (where_next n (ap test (sym same) ∙ told))) (subst P same (Contains-push (places_where test n) i)))
      (λ other.
      let before : Contains (places_where test n) i = where_has n i (omega (arith, lt, other)) told in
      ⊎_elim
      (λ there. subst W (sym (where_next n there)) (Contains-append_left (places_where test n) (n ∷ []) i before))
      (λ no. subst W (sym (where_same n no)) before)
      (cases_Bool (test n)))
      (cases_eq i n)

  count_next : (n i : ℕ) → test n ≡ true → count_by (λ p. eqb p i) (places_where test (suc n)) ≡ count_by (λ p. eqb p i) (places_where test n) + one_where (eqb n i)
  count_next n i told = ap (count_by (λ p. eqb p i)) (where_next n told) ∙ sum_by_push (λ p. one_where (eqb p i)) (places_where test n) n

  pub count_out : (n i : ℕ) → n ≤ i → count_by (λ p. eqb p i) (places_where test n) ≡ 0
  count_out zero i le = refl
  count_out (suc n) i le =
      let before = count_out n i (omega (arith, le)) in
      ⊎_elim
      (λ yes.
      let other : one_where (eqb n i) ≡ 0 = ap one_where (false_from_ne_true (eqb n i) (λ e. let same : n ≡ i = eqb-true _ _ e in omega (arith, le, same))) in
      omega (arith, before, other, count_next n i yes))
      (λ no. ap (count_by (λ p. eqb p i)) (where_same n no) ∙ before)
      (cases_Bool (test n))

  pub count_within : (n i : ℕ) → i < n → count_by (λ p. eqb p i) (places_where test n) ≡ one_where (test i)
  count_within zero i lt = absurd (omega (arith, lt))
  count_within (suc n) i lt =
      ⊎_elim
      (λ same.
      let none = count_out n i (omega (arith, same)) in
      ⊎_elim
      (λ yes.
      let here : one_where (eqb n i) ≡ 1 = ap one_where (eq-eqb n i (sym same)) in
      let told : one_where (test i) ≡ 1 = ap one_where (ap test same ∙ yes) in
      omega (arith, none, here, told, count_next n i yes))
      (λ no.
      let told : one_where (test i) ≡ 0 = ap one_where (ap test same ∙ no) in
      ap (count_by (λ p. eqb p i)) (where_same n no) ∙ (none ∙ sym told))
      (cases_Bool (test n)))
      (λ ne.
      let before = count_within n i (omega (arith, lt, ne)) in
      ⊎_elim
      (λ yes.
      let other : one_where (eqb n i) ≡ 0 = ap one_where (false_from_ne_true (eqb n i) (λ e. ne (sym (eqb-true n i e)))) in
      omega (arith, before, other, count_next n i yes))
      (λ no. ap (count_by (λ p. eqb p i)) (where_same n no) ∙ before)
      (cases_Bool (test n)))
      (cases_eq i n)

  one_at_most : (b : Bool) → one_where b ≤ 1
  one_at_most true = omega arith
  one_at_most false = omega arith

  pub count_once : (n i : ℕ) → count_by (λ p. eqb p i) (places_where test n) ≤ 1
  count_once n i =
      ⊎_elim
      (λ lt. omega (arith, count_within n i lt, one_at_most (test i)))
      (λ le. omega (arith, count_out n i le))
      (cases_lt i n)

-- where each place stands once, none before one of them is like it
pub none_before : (places : List ℕ) (k i : ℕ) → k < length places → get_or places k 0 ≡ i → count_by (λ p. eqb p i) places ≤ 1 → count_by (λ p. eqb p i) (take k places) ≡ 0
none_before places k i lt at once =
    let more = sum_by_more_le (λ p. one_where (eqb p i)) places k 0 lt in
    let here : one_where (eqb (get_or places k 0) i) ≡ 1 = ap one_where (eq-eqb (get_or places k 0) i at) in
    omega (arith, more, here, once)

-- a count is changed at one place
pub count_set : (old counts places : List ℕ) (k : ℕ) → k < length places → get_or places k 0 < length counts → ((i : ℕ) → get_or counts i 0 ≡ get_or old i 0 + count_by (λ p. eqb p i) (take k places)) → (i : ℕ) → get_or (set counts (get_or places k 0) (get_or counts (get_or places k 0) 0 + 1)) i 0 ≡ get_or old i 0 + count_by (λ p. eqb p i) (take (k + 1) places)
count_set old counts places k lt within so_far i =
    let p : ℕ = get_or places k 0 in
    let more = sum_by_more (λ p. one_where (eqb p i)) places k 0 lt in
    ⊎_elim
    (λ same.
    let here : one_where (eqb p i) ≡ 1 = ap one_where (eq-eqb p i (sym same)) in
    let read : get_or (set counts p (get_or counts p 0 + 1)) i 0 ≡ get_or counts p 0 + 1 = ap (λ j. get_or (set counts p (get_or counts p 0 + 1)) j 0) same ∙ get_or-set_same counts p (get_or counts p 0 + 1) 0 within in
    let now : get_or counts p 0 ≡ get_or counts i 0 = ap (λ j. get_or counts j 0) (sym same) in
    omega (arith, more, here, read, now, so_far i))
    (λ other.
    let none : one_where (eqb p i) ≡ 0 = ap one_where (false_from_ne_true (eqb p i) (λ e. other (sym (eqb-true p i e)))) in
    let read = get_or-set_other counts p i (get_or counts p 0 + 1) 0 other in
    omega (arith, more, none, read, so_far i))
    (cases_eq i p)

pub uncount_set : (old counts places : List ℕ) (k : ℕ) → k < length places → get_or places k 0 < length counts → 0 < get_or counts (get_or places k 0) 0 → ((i : ℕ) → get_or old i 0 ≡ get_or counts i 0 + count_by (λ p. eqb p i) (take k places)) → (i : ℕ) → get_or old i 0 ≡ get_or (set counts (get_or places k 0) (get_or counts (get_or places k 0) 0 - 1)) i 0 + count_by (λ p. eqb p i) (take (k + 1) places)
uncount_set old counts places k lt within some so_far i =
    let p : ℕ = get_or places k 0 in
    let more = sum_by_more (λ p. one_where (eqb p i)) places k 0 lt in
    ⊎_elim
    (λ same.
    let here : one_where (eqb p i) ≡ 1 = ap one_where (eq-eqb p i (sym same)) in
    let read : get_or (set counts p (get_or counts p 0 - 1)) i 0 ≡ get_or counts p 0 - 1 = ap (λ j. get_or (set counts p (get_or counts p 0 - 1)) j 0) same ∙ get_or-set_same counts p (get_or counts p 0 - 1) 0 within in
    let now : get_or counts p 0 ≡ get_or counts i 0 = ap (λ j. get_or counts j 0) (sym same) in
    omega (arith, more, here, read, now, some, so_far i))
    (λ other.
    let none : one_where (eqb p i) ≡ 0 = ap one_where (false_from_ne_true (eqb p i) (λ e. other (sym (eqb-true p i e)))) in
    let read = get_or-set_other counts p i (get_or counts p 0 - 1) 0 other in
    omega (arith, more, none, read, so_far i))
    (cases_eq i p)

-- ---- groups
pub alike_fewer : (alike mask other any : ℕ) → agrees alike mask any ≡ true → agrees (bit_xor alike (bit_and alike (bit_xor mask other))) mask any ≡ true
alike_fewer alike mask other any h =
    agrees_fewer alike (bit_xor alike (bit_and alike (bit_xor mask other))) mask any
    (λ i one.
    let x = bit_at_xor alike (bit_and alike (bit_xor mask other)) i in
    let a = bit_at_and alike (bit_xor mask other) i in
    omega (arith, x, a, one, bit_at-lt alike i, bit_at-lt (bit_xor mask other) i))
    h

pub alike_both : (alike mask other : ℕ) → agrees (bit_xor alike (bit_and alike (bit_xor mask other))) mask other ≡ true
alike_both alike mask other =
    agrees_from_bits (bit_xor alike (bit_and alike (bit_xor mask other))) mask other
    (λ i one.
    let x = bit_at_xor alike (bit_and alike (bit_xor mask other)) i in
    let a = bit_at_and alike (bit_xor mask other) i in
    let d = bit_at_xor mask other i in
    omega (arith, x, a, d, one, bit_at-lt alike i, bit_at-lt mask i, bit_at-lt other i))

-- a group that has a mask with these bits may have one, as its own mask tells
pub may_hold_told : (pos neg alike first mask : ℕ) → agrees alike first mask ≡ true → admits pos neg mask ≡ true → admits (bit_and pos alike) (bit_and neg alike) first ≡ true
may_hold_told pos neg alike first mask like held =
    admits_from_bits (bit_and pos alike) (bit_and neg alike) first
    (λ i one.
    let a = bit_at_and pos alike i in
    let p : bit_at pos i ≡ 1 = omega (arith, a, one, bit_at-lt pos i) in
    let k : bit_at alike i ≡ 1 = omega (arith, a, one, bit_at-lt alike i) in
    sym (bits_from_agrees alike first mask like i k) ∙ (bits_from_admits pos neg mask held i).0 p)
    (λ i one.
    let a = bit_at_and neg alike i in
    let q : bit_at neg i ≡ 1 = omega (arith, a, one, bit_at-lt neg i) in
    let k : bit_at alike i ≡ 1 = omega (arith, a, one, bit_at-lt alike i) in
    sym (bits_from_agrees alike first mask like i k) ∙ (bits_from_admits pos neg mask held i).1 q)

pub groups_push : (masks : List ℕ) (from to : ℕ) (groups : List Group) (g : Group) → AreGroupsTo masks from groups to → IsGroup masks to g → AreGroupsTo masks from (groups ++ g ∷ []) g.end
groups_push masks from to [] g e is = (let P : ℕ → Type 0 = λ s. IsGroup masks s g in subst P (sym e) is, refl)
groups_push masks from to (h ∷ hs) g are is = (are.0, groups_push masks h.end to hs g are.1 is)

-- the group at a place, and those behind it
pub group_at : (masks : List ℕ) (from to k : ℕ) (groups seen : List Group) (d : Group) → seen ≡ groups → k < length seen → AreGroupsTo masks from (drop k groups) to → IsGroup masks from (get_or seen k d) × AreGroupsTo masks (get_or seen k d).end (drop (k + 1) groups) to
group_at masks from to k groups seen d same lt are =
    let P : List Group → Type 0 = λ gs. AreGroupsTo masks from gs to in
    let Q : List Group → Type 0 = λ gs. IsGroup masks from (get_or gs k d) × AreGroupsTo masks (get_or gs k d).end (drop (k + 1) groups) to in
    subst Q (sym same) (subst P (drop_more groups k d (omega (arith, lt, ap length same))) are)

-- behind the last group there is none
pub groups_done : (masks : List ℕ) (from to k : ℕ) (groups : List Group) → length groups ≤ k → AreGroupsTo masks from (drop k groups) to → from ≡ to
groups_done masks from to k groups le are = let P : List Group → Type 0 = λ gs. AreGroupsTo masks from gs to in subst P (drop_of_length-le groups le) are

pub places_within_list : (masks places : List ℕ) (pos neg : ℕ) → places ≡ held_places masks pos neg → All (λ p. p < length masks) places
places_within_list masks places pos neg e =
    let P : List ℕ → Type 0 = λ xs. All (λ p. p < length masks) xs in
    subst P (sym e)
    (All-weaker (λ p. (p < length masks) × (admits pos neg (slice_index masks p) ≡ true)) (λ p. p < length masks) (λ p h. h.0) (held_places masks pos neg) (where_all (λ i. admits pos neg (slice_index masks i)) (length masks)))

-- the masks of a group that may hold none are passed over
pub places_skipped : (masks : List ℕ) (start : ℕ) (g : Group) (pos neg : ℕ) (may : Bool) (places : List ℕ) → IsGroup masks start g → may ≡ false → ((mask : ℕ) → agrees g.alike g.mask mask ≡ true → admits pos neg mask ≡ true → may ≡ true) → places ≡ held_below masks pos neg start → places ≡ held_below masks pos neg g.end
places_skipped masks start g pos neg may places is not_may told e =
    e ∙
    sym
    (where_skips (λ i. admits pos neg (slice_index masks i)) start g.end is.order
    (λ i low high. false_from_ne_true (admits pos neg (slice_index masks i)) (λ held. both_ways may not_may (told (slice_index masks i) (is.alike i low high) held))))
