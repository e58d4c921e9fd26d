-- Which masks a product holds once a literal is taken out, by the bits that keep them out.
use Rattle.std.proofs.Common.{◌≡◌, ◌≢◌, ℕ, ◌+◌, ◌%◌, min, IsTrue, sym, ap, ◌∙◌, arith, ⊎_elim}
use Rattle.std.specs.Int.{bit_at}
use Rattle.std.specs.Int.Bits.{bit_and, bit_xor}
use Rattle.std.proofs.lemmas.Bool.{cases_eq}
use Rattle.std.proofs.lemmas.Nat.Bits.{bit_at_and, bit_at_xor, bit_at-zero, bit_at-lt, same_from_bits}
use Rattle.bc_cover.specs.Masks.{without_bit, admits}
use Rattle.bc_cover.proofs.BitFacts.{without_same, without_other, without_left, bits_from_admits, admits_from_bits}

-- the only bit of a word
pub only_bit : (word i j : ℕ) → bit_at word i ≡ 1 → without_bit word j ≡ 0 → j ≡ i
only_bit word i j one none =
    ⊎_elim
    (λ e. sym e)
    (λ ne.
    let left : bit_at (without_bit word j) i ≡ bit_at word i = without_other word j i ne in
    let zero : bit_at (without_bit word j) i ≡ 0 = ap (λ w. bit_at w i) none ∙ bit_at-zero i in
    absurd (let f : 0 ≡ 1 = sym zero ∙ (left ∙ one) in omega (arith, f)))
    (cases_eq i j)

module _ (p q m i : ℕ) where
  -- the bits of p that the mask lacks, and those of q that it has
  abbrev lacks : ℕ
  lacks = bit_xor p (bit_and p m)

  abbrev extra : ℕ
  extra = bit_and q m

  lacks_at : (j : ℕ) → bit_at lacks j ≡ (bit_at p j + min (bit_at p j) (bit_at m j)) % 2
  lacks_at j = bit_at_xor p (bit_and p m) j ∙ ap (λ b. (bit_at p j + b) % 2) (bit_at_and p m j)

  lacks_none : (j : ℕ) → (bit_at p j ≡ 1 → bit_at m j ≡ 1) → bit_at lacks j ≡ 0
  lacks_none j has =
      let l = lacks_at j in
      ⊎_elim (λ one. let at = has one in omega (arith, l, one, at)) (λ none. omega (arith, l, bit_at-lt p j, none)) (cases_eq (bit_at p j) 1)

  extra_none : (j : ℕ) → (bit_at q j ≡ 1 → bit_at m j ≡ 0) → bit_at extra j ≡ 0
  extra_none j out =
      let a = bit_at_and q m j in
      ⊎_elim (λ one. let at = out one in omega (arith, a, one, at)) (λ none. omega (arith, a, bit_at-lt q j, none)) (cases_eq (bit_at q j) 1)

  -- a word without bit i has no bit
  without_none : (word : ℕ) → ((j : ℕ) → j ≢ i → bit_at word j ≡ 0) → without_bit word i ≡ 0
  without_none word out =
      same_from_bits (without_bit word i) 0
      (λ j. ⊎_elim (λ e. ap (bit_at (without_bit word i)) e ∙ (without_same word i ∙ sym (bit_at-zero j))) (λ ne. without_other word i j ne ∙ (out j ne ∙ sym (bit_at-zero j))) (cases_eq j i))

  pub positive_parts : IsTrue (admits (without_bit p i) q m) → (extra ≡ 0) × (without_bit lacks i ≡ 0)
  positive_parts h =
      let said = bits_from_admits (without_bit p i) q m h in (
        same_from_bits extra 0 (λ j. extra_none j (said j).1 ∙ sym (bit_at-zero j)),
        without_none lacks (λ j ne. lacks_none j (λ one. (said j).0 (without_other p i j ne ∙ one))),
      )

  pub positive_whole : (extra ≡ 0) × (without_bit lacks i ≡ 0) → IsTrue (admits (without_bit p i) q m)
  positive_whole h =
      admits_from_bits (without_bit p i) q m
      (λ j one.
      let left = without_left p i j one in
      let w : bit_at (without_bit lacks i) j ≡ bit_at lacks j = without_other lacks i j left.0 in
      let zero : bit_at (without_bit lacks i) j ≡ 0 = ap (λ b. bit_at b j) h.1 ∙ bit_at-zero j in
      let l = lacks_at j in
      let at : bit_at p j ≡ 1 = left.1 in
      omega (arith, w, zero, l, at, bit_at-lt m j))
      (λ j one.
      let a = bit_at_and q m j in
      let zero : bit_at extra j ≡ 0 = ap (λ b. bit_at b j) h.0 ∙ bit_at-zero j in
      omega (arith, a, zero, one, bit_at-lt m j))

  pub negative_parts : IsTrue (admits p (without_bit q i) m) → (lacks ≡ 0) × (without_bit extra i ≡ 0)
  negative_parts h =
      let said = bits_from_admits p (without_bit q i) m h in (
        same_from_bits lacks 0 (λ j. lacks_none j (said j).0 ∙ sym (bit_at-zero j)),
        without_none extra (λ j ne. extra_none j (λ one. (said j).1 (without_other q i j ne ∙ one))),
      )

  pub negative_whole : (lacks ≡ 0) × (without_bit extra i ≡ 0) → IsTrue (admits p (without_bit q i) m)
  negative_whole h =
      admits_from_bits p (without_bit q i) m
      (λ j one.
      let l = lacks_at j in
      let zero : bit_at lacks j ≡ 0 = ap (λ b. bit_at b j) h.0 ∙ bit_at-zero j in
      omega (arith, l, zero, one, bit_at-lt m j))
      (λ j one.
      let left = without_left q i j one in
      let w : bit_at (without_bit extra i) j ≡ bit_at extra j = without_other extra i j left.0 in
      let zero : bit_at (without_bit extra i) j ≡ 0 = ap (λ b. bit_at b j) h.1 ∙ bit_at-zero j in
      let a = bit_at_and q m j in
      let at : bit_at q j ≡ 1 = left.1 in
      omega (arith, w, zero, a, at, bit_at-lt m j))
