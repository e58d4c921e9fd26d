-- Bits of a mask are marked as needed, and others dropped, until the needed ones keep each outside mask out.
use Rattle.std.proofs.Common.{ℕ, ◌≡◌, ◌≢◌, ◌+◌, ◌-◌, ◌^◌, ◌<◌, ◌≤◌, true, false, Bool, List, [], ◌∷◌, ◌++◌, take, length, get_or, set, sym, ◌∙◌, ap, refl, subst, arith, inl, inr, ⊎_elim, get_or-set_same, get_or-set_other, length-set, eqb, filter}
use Rattle.std.specs.Prelude.{slice_index}
use Rattle.std.specs.Int.{bit_at}
use Rattle.std.specs.Int.Bits.{bit_and, bit_xor}
use Rattle.std.specs.List.{All, Any, Contains}
use Rattle.std.proofs.lemmas.Bool.{cases_Bool, cases_eq, eqb-true, eq-eqb, both_ways, false_from_ne_true}
use Rattle.std.proofs.lemmas.Nat.{pow_pos, and_le_r}
use Rattle.std.proofs.lemmas.Nat.Bits.{bit_at_and, bit_at_xor, bit_at-zero, bit_at-lt, same_from_bits}
use Rattle.std.proofs.lemmas.List.Elements.{All-filter, All-push, All-more, All-weaker, filter_passes}
use Rattle.std.proofs.lemmas.List.{get_or_default}
use Rattle.std.proofs.lemmas.List.Quantifiers.{Any-push}
use Rattle.bc_cover.specs.declared.rows.Row.{Row}
use Rattle.bc_cover.specs.declared.rows.Kept.{Kept}
use Rattle.bc_cover.specs.Masks.{without_bit, admits, agrees}
use Rattle.bc_cover.specs.Groups.{held_places}
use Rattle.bc_cover.specs.Steps.{IsAlikeAt, KeepOut}
use Rattle.bc_cover.specs.Rows.{IsRow, HasRow, IsMarked, AreWitnessed, IsFaced, IsExpanding}
use Rattle.bc_cover.proofs.PlaceFacts.{where_has}
use Rattle.bc_cover.proofs.FilterFacts.{any_filter, any_longer}
use Rattle.bc_cover.proofs.BitFacts.{without-lt, without_left, without_other, without_same, agrees_all, agrees_fewer, term_from_agrees}

-- ---- words that share a bit
pub some_bit : (m i : ℕ) → bit_at m i ≡ 1 → m ≢ 0
some_bit m i one = λ e. let none : bit_at m i ≡ 0 = ap (λ k. bit_at k i) e ∙ bit_at-zero i in omega (arith, none, one)

pub shared_bit : (a b i : ℕ) → bit_at a i ≡ 1 → bit_at b i ≡ 1 → bit_and a b ≢ 0
shared_bit a b i one two = some_bit (bit_and a b) i (let e = bit_at_and a b i in omega (arith, e, one, two))

pub bits_of_and : (a b i : ℕ) → bit_at (bit_and a b) i ≡ 1 → (bit_at a i ≡ 1) × (bit_at b i ≡ 1)
bits_of_and a b i one = let e = bit_at_and a b i in (omega (arith, e, one, bit_at-lt a i), omega (arith, e, one, bit_at-lt b i))

-- what shares a bit with some bits shares one with more bits
pub shared_more : (d few more : ℕ) → ((i : ℕ) → bit_at few i ≡ 1 → bit_at more i ≡ 1) → bit_and d few ≢ 0 → bit_and d more ≢ 0
shared_more d few more sub ne = λ none.
    ne
    (same_from_bits (bit_and d few) 0
    (λ i.
    let a = bit_at_and d few i in
    let b = bit_at_and d more i in
    let n : bit_at (bit_and d more) i ≡ 0 = ap (λ k. bit_at k i) none ∙ bit_at-zero i in
    let z = bit_at-zero i in
    ⊎_elim
    (λ one. let two = sub i one in omega (arith, a, b, n, z, one, two))
    (λ no. omega (arith, a, z, no, bit_at-lt few i))
    (cases_eq (bit_at few i) 1)))

-- two bits met: one is left when another is taken out
pub several : (d bits i : ℕ) → bit_at (bit_and d bits) i ≡ 1 → bit_and d (without_bit bits i) ≢ 0 → (j : ℕ) → bit_and d (without_bit bits j) ≢ 0
several d bits i one ne j =
    ⊎_elim
    (λ same. let P : ℕ → Type 0 = λ k. bit_and d (without_bit bits k) ≢ 0 in subst P (sym same) ne)
    (λ other.
    let both = bits_of_and d bits i one in
    let apart : i ≢ j = λ e. other (sym e) in
    shared_bit d (without_bit bits j) i both.0 (without_other bits j i apart ∙ both.1))
    (cases_eq j i)

pub without_less : (m i : ℕ) → bit_at m i ≡ 1 → without_bit m i < m
without_less m i one =
    let sub : bit_and (without_bit m i) m ≡ without_bit m i =
    same_from_bits (bit_and (without_bit m i) m) (without_bit m i)
    (λ j.
    let a = bit_at_and (without_bit m i) m j in
    ⊎_elim
    (λ yes. let left = without_left m i j yes in let there = left.1 in omega (arith, a, yes, there))
    (λ no. omega (arith, a, no, bit_at-lt (without_bit m i) j))
    (cases_eq (bit_at (without_bit m i) j) 1)) in
    let le : bit_and (without_bit m i) m ≤ m = and_le_r (without_bit m i) m in
    let ne : without_bit m i ≢ m = λ e. let none : bit_at m i ≡ 0 = ap (λ k. bit_at k i) (sym e) ∙ without_same m i in omega (arith, none, one) in
    omega (arith, sub, le, ne)

-- ---- a row marks a bit
pub marked_more : (bits few more : ℕ) → ((i : ℕ) → bit_at few i ≡ 1 → bit_at more i ≡ 1) → (rows : List Row) → All (IsMarked bits few) rows → All (IsMarked bits more) rows
marked_more bits few more sub rows all =
    All-weaker (IsMarked bits few) (IsMarked bits more)
    (λ row h. ⊎_elim (λ ne. inl (shared_more row.difference few more sub ne)) (λ left. inr left) h)
    rows all

pub needed_more : (outside : List ℕ) (mask : ℕ) (kept : Kept) (needed i : ℕ) (row : Row) → i < 64 → bit_at kept.bits i ≡ 1 → bit_at needed i ≡ 1 → ((j : ℕ) → j ≢ i → bit_at needed j ≡ bit_at kept.needed j) → bit_and row.difference (without_bit kept.bits i) ≡ 0 → IsRow outside mask row → AreWitnessed outside mask kept → AreWitnessed outside mask (record kept { needed = needed; witnesses = set kept.witnesses i row.place })
needed_more outside mask kept needed i row low here one others alone is old = record {
  size = length-set kept.witnesses i row.place ∙ old.size;
  kept_too = λ j two.
      ⊎_elim
      (λ same. ap (λ k. bit_at kept.bits k) same ∙ here)
      (λ other. old.kept_too j (sym (others j other) ∙ two))
      (cases_eq j i);
  alike = λ j two.
      ⊎_elim
      (λ same.
      let alike : IsAlikeAt outside mask (without_bit kept.bits i) row.place = (is.0, eq-eqb _ _ (ap (λ d. bit_and d (without_bit kept.bits i)) (sym is.1) ∙ alone)) in
      let read : get_or (set kept.witnesses i row.place) j 0 ≡ row.place = ap (λ k. get_or (set kept.witnesses i row.place) k 0) same ∙ get_or-set_same kept.witnesses i row.place 0 (omega (arith, low, old.size)) in
      let Q : ℕ → Type 0 = λ k. IsAlikeAt outside mask (without_bit kept.bits k) row.place in
      let R : ℕ → Type 0 = λ w. IsAlikeAt outside mask (without_bit kept.bits j) w in
      subst R (sym read) (subst Q (sym same) alike))
      (λ other.
      let read : get_or (set kept.witnesses i row.place) j 0 ≡ get_or kept.witnesses j 0 = get_or-set_other kept.witnesses i j row.place 0 other in
      let R : ℕ → Type 0 = λ w. IsAlikeAt outside mask (without_bit kept.bits j) w in
      subst R (sym read) (old.alike j (sym (others j other) ∙ two)))
      (cases_eq j i);
}

-- ---- the loop that drops bits
pub none_needed : (outside : List ℕ) (mask : ℕ) (kept : Kept) → kept.needed ≡ 0 → length kept.witnesses ≡ 64 → AreWitnessed outside mask kept
none_needed outside mask kept none size =
    let never : (i : ℕ) → bit_at kept.needed i ≢ 1 = λ i one. let z : bit_at kept.needed i ≡ 0 = ap (λ k. bit_at k i) none ∙ bit_at-zero i in omega (arith, z, one) in
    record { size = size; kept_too = λ i one. absurd (never i one); alike = λ i one. absurd (never i one) }

-- all bits keep out each outside mask
pub all_met : (outside : List ℕ) (mask n bits : ℕ) (rows : List Row) → bits ≡ 2 ^ n - 1 → All (IsRow outside mask) rows → mask < 2 ^ n → All (λ o. o < 2 ^ n) outside → All (λ o. o ≢ mask) outside → All (λ row. bit_and row.difference bits ≢ 0) rows
all_met outside mask n bits rows all each below others ne =
    All-weaker (IsRow outside mask) (λ row. bit_and row.difference bits ≢ 0)
    (λ row is none.
    let o : ℕ = slice_index outside row.place in
    let out : agrees (2 ^ n - 1) mask o ≡ false = agrees_all n mask o below (others row.place 0 is.0) (ne row.place 0 is.0) in
    let come : bit_and (bit_xor o mask) (2 ^ n - 1) ≡ 0 = ap (λ b. bit_and (bit_xor o mask) b) (sym all) ∙ (ap (λ d. bit_and d bits) (sym is.1) ∙ none) in
    both_ways _ out (eq-eqb _ _ come))
    rows each

pub expanding_starts : (outside : List ℕ) (mask n : ℕ) (kept : Kept) (rows : List Row) → kept.bits ≡ 2 ^ n - 1 → AreWitnessed outside mask kept → All (IsRow outside mask) rows → All (IsFaced rows kept.needed mask) outside → mask < 2 ^ n → All (λ o. o < 2 ^ n) outside → All (λ o. o ≢ mask) outside → IsExpanding outside mask n kept rows
expanding_starts outside mask n kept rows all needed each faced below others ne = record {
  within = omega (arith, all, pow_pos n);
  needed = needed;
  faced = faced;
  each = each;
  met = all_met outside mask n kept.bits rows all each below others ne;
}

module _ (outside : List ℕ) (mask n : ℕ) (old kept : Kept) (rows seen left : List Row) (state : IsExpanding outside mask n old rows) (read : seen ≡ rows) (same : kept.bits ≡ old.bits) (marks : All (IsMarked kept.bits kept.needed) seen) (more : (i : ℕ) → bit_at old.needed i ≡ 1 → bit_at kept.needed i ≡ 1) (shows : All (IsRow outside mask) seen → AreWitnessed outside mask old → AreWitnessed outside mask kept) (aside : left ≡ filter (λ row. eqb (bit_and row.difference kept.needed) 0) rows) where
  marked : All (IsMarked kept.bits kept.needed) rows
  marked = let Q : List Row → Type 0 = λ rs. All (IsMarked kept.bits kept.needed) rs in subst Q read marks

  shown : AreWitnessed outside mask kept
  shown = shows (let Q : List Row → Type 0 = λ rs. All (IsRow outside mask) rs in subst Q (sym read) state.each) state.needed

  stays : (P : Row → Type 0) → All P rows → All P left
  stays P all = let Q : List Row → Type 0 = λ rs. All P rs in subst Q (sym aside) (All-filter (λ row. eqb (bit_and row.difference kept.needed) 0) P rows all)

  unmet : All (λ row. bit_and row.difference kept.needed ≡ 0) left
  unmet =
      let Q : List Row → Type 0 = λ rs. All (λ row. bit_and row.difference kept.needed ≡ 0) rs in
      subst Q (sym aside)
      (All-weaker (λ row. eqb (bit_and row.difference kept.needed) 0 ≡ true) (λ row. bit_and row.difference kept.needed ≡ 0) (λ row e. eqb-true _ _ e) (filter (λ row. eqb (bit_and row.difference kept.needed) 0) rows) (filter_passes (λ row. eqb (bit_and row.difference kept.needed) 0) rows))

  faced_left : All (IsFaced left kept.needed mask) outside
  faced_left =
      All-weaker (IsFaced rows old.needed mask) (IsFaced left kept.needed mask)
      (λ o h.
      ⊎_elim
      (λ ne. inl (shared_more (bit_xor o mask) old.needed kept.needed more ne))
      (λ has.
      ⊎_elim
      (λ (row, e, lost). inl (λ none. both_ways _ lost (eq-eqb _ _ (ap (λ d. bit_and d kept.needed) e ∙ none))))
      (λ there. inr (let Q : List Row → Type 0 = λ rs. HasRow rs (bit_xor o mask) in subst Q (sym aside) there))
      (any_filter (λ row. row.difference ≡ bit_xor o mask) (λ row. eqb (bit_and row.difference kept.needed) 0) rows has))
      h)
      outside state.faced

  pub kept_when_none_left : length left ≡ 0 → KeepOut outside mask n kept.needed kept.witnesses
  kept_when_none_left none = record {
    within =
        let sub : bit_and kept.needed kept.bits ≡ kept.needed =
        same_from_bits (bit_and kept.needed kept.bits) kept.needed
        (λ j.
        let a = bit_at_and kept.needed kept.bits j in
        ⊎_elim
        (λ yes. let there = shown.kept_too j yes in omega (arith, a, yes, there))
        (λ no. omega (arith, a, no, bit_at-lt kept.needed j))
        (cases_eq (bit_at kept.needed j) 1)) in
        let le : bit_and kept.needed kept.bits ≤ kept.bits = and_le_r kept.needed kept.bits in
        omega (arith, sub, le, same, state.within);
    apart =
        All-weaker (IsFaced left kept.needed mask) (λ o. agrees kept.needed mask o ≡ false)
        (λ o h.
        ⊎_elim
        (λ ne. false_from_ne_true _ (λ yes. ne (eqb-true _ _ yes)))
        (λ (k, row, within, at, e). absurd (omega (arith, within, none)))
        h)
        outside faced_left;
    needed = λ i one.
        let alike = shown.alike i one in (
          alike.0,
          agrees_fewer (without_bit kept.bits i) (without_bit kept.needed i) mask (get_or outside (get_or kept.witnesses i 0) 0)
              (λ k there. let at = without_left kept.needed i k there in without_other kept.bits i k at.0 ∙ shown.kept_too k at.1)
              alike.1,
        );
  }

  -- a bit that is kept and not needed
  pub free_bit : (i : ℕ) → bit_at (bit_xor kept.bits kept.needed) i ≡ 1 → (bit_at kept.bits i ≡ 1) × (bit_at kept.needed i ≡ 0)
  free_bit i one =
      let x = bit_at_xor kept.bits kept.needed i in
      ⊎_elim
      (λ yes. let too = shown.kept_too i yes in absurd (omega (arith, x, one, yes, too)))
      (λ no. (omega (arith, x, one, no, bit_at-lt kept.bits i, bit_at-lt kept.needed i), omega (arith, no, bit_at-lt kept.needed i)))
      (cases_eq (bit_at kept.needed i) 1)

  -- while a row is left there is such a bit
  pub some_free : 0 < length left → 0 < bit_xor kept.bits kept.needed
  some_free some =
      let d : Row = record { place = 0; difference = 0 } in
      let row : Row = get_or left 0 d in
      let out : bit_and row.difference kept.needed ≡ 0 = unmet 0 d some in
      let met : bit_and row.difference old.bits ≢ 0 = stays (λ row. bit_and row.difference old.bits ≢ 0) state.met 0 d some in
      ⊎_elim
      (λ none.
      absurd
      (met
      (ap (λ b. bit_and row.difference b) (sym same) ∙
      (ap (λ b. bit_and row.difference b)
      (same_from_bits kept.bits kept.needed
      (λ i.
      let x = bit_at_xor kept.bits kept.needed i in
      let z : bit_at (bit_xor kept.bits kept.needed) i ≡ 0 = ap (λ k. bit_at k i) none ∙ bit_at-zero i in
      omega (arith, x, z, bit_at-lt kept.bits i, bit_at-lt kept.needed i))) ∙
      out))))
      (λ some. omega (arith, some))
      (cases_eq (bit_xor kept.bits kept.needed) 0)

  pub expanding_drops : (i : ℕ) → bit_at (bit_xor kept.bits kept.needed) i ≡ 1 → IsExpanding outside mask n (record kept { bits = without_bit kept.bits i }) left
  expanding_drops i one =
      let free = free_bit i one in
      let other : (j : ℕ) → bit_at kept.needed j ≡ 1 → j ≢ i = λ j two e. let same : bit_at kept.needed j ≡ 0 = ap (λ k. bit_at kept.needed k) e ∙ free.1 in omega (arith, same, two) in
      record {
        within = without-lt n kept.bits i (omega (arith, same, state.within));
        needed = record {
          size = shown.size;
          kept_too = λ j two. without_other kept.bits i j (other j two) ∙ shown.kept_too j two;
          alike = λ j two.
              let alike = shown.alike j two in (
                alike.0,
                agrees_fewer (without_bit kept.bits j) (without_bit (without_bit kept.bits i) j) mask (get_or outside (get_or kept.witnesses j 0) 0)
                    (λ k there.
                    let one_less = without_left (without_bit kept.bits i) j k there in
                    let two_less = without_left kept.bits i k one_less.1 in
                    without_other kept.bits j k one_less.0 ∙ two_less.1)
                    alike.1,
              );
        };
        faced = faced_left;
        each = stays (IsRow outside mask) state.each;
        met = λ k d within.
            ⊎_elim
            (λ ne. absurd (ne (unmet k d within)))
            (λ several. several i)
            (stays (IsMarked kept.bits kept.needed) marked k d within);
      }

-- ---- rows of the outside masks that no needed bit keeps out
pub row_pushed : (outside : List ℕ) (mask : ℕ) (rows more : List Row) (row : Row) → more ≡ rows ++ row ∷ [] → row.place < length outside → row.difference ≡ bit_xor (slice_index outside row.place) mask → All (IsRow outside mask) rows → All (IsRow outside mask) more
row_pushed outside mask rows more row e lt is each = let Q : List Row → Type 0 = λ rs. All (IsRow outside mask) rs in subst Q (sym e) (All-push (IsRow outside mask) rows row each (lt, is))

pub rows_more : (outside : List ℕ) (mask k : ℕ) (places : List ℕ) (rows more : List Row) (row : Row) → k < length places → more ≡ rows ++ row ∷ [] → row.difference ≡ bit_xor (slice_index outside (get_or places k 0)) mask → All (λ p. HasRow rows (bit_xor (slice_index outside p) mask)) (take k places) → All (λ p. HasRow more (bit_xor (slice_index outside p) mask)) (take (k + 1) places)
rows_more outside mask k places rows more row lt e is every =
    let H : List Row → ℕ → Type 0 = λ rs p. HasRow rs (bit_xor (slice_index outside p) mask) in
    let Q : List Row → Type 0 = λ rs. All (H rs) (take (k + 1) places) in
    let P : ℕ → Type 0 = λ d. Any (λ r. r.difference ≡ d) (rows ++ row ∷ []) in
    subst Q (sym e)
    (All-more (H (rows ++ row ∷ [])) places k 0 lt
    (All-weaker (H rows) (H (rows ++ row ∷ [])) (λ p has. any_longer (λ r. r.difference ≡ bit_xor (slice_index outside p) mask) rows row has) (take k places) every)
    (subst P is (Any-push (λ r. r.difference ≡ row.difference) rows row refl)))

pub all_faced : (outside : List ℕ) (mask needed : ℕ) (places : List ℕ) (rows : List Row) → places ≡ held_places outside (bit_and mask needed) (bit_xor (bit_and mask needed) needed) → All (λ p. HasRow rows (bit_xor (slice_index outside p) mask)) places → All (IsFaced rows needed mask) outside
all_faced outside mask needed places rows e every = λ k d lt.
    let pos : ℕ = bit_and mask needed in
    let neg : ℕ = bit_xor (bit_and mask needed) needed in
    let test : ℕ → Bool = λ i. admits pos neg (slice_index outside i) in
    let o : ℕ = slice_index outside k in
    let F : ℕ → Type 0 = λ m. IsFaced rows needed mask m in
    subst F (get_or_default outside k 0 d lt)
    (⊎_elim
    (λ held.
    let C : List ℕ → Type 0 = λ xs. Contains xs k in
    let (j, within, same) = subst C (sym e) (where_has test (length outside) k lt held) in
    let H : ℕ → Type 0 = λ p. HasRow rows (bit_xor (slice_index outside p) mask) in
    inr (subst H same (every j k within)))
    (λ out. inl (λ none. both_ways _ out (term_from_agrees needed mask o (eq-eqb _ _ none))))
    (cases_Bool (admits pos neg o)))
