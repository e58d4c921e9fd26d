-- The bits of masks: each tells whether the point is Above one half-space, and a table's mask has those of its lines below
-- those of its discs.
use Rattle.std.specs.Prelude.{◌≡◌, ◌↔◌, ℕ, zero, suc, ◌+◌, ◌*◌, ◌/◌, ◌^◌, ◌<◌, ◌-◌, List, [], ◌∷◌, length, Some, slice_get}
use Rattle.std.specs.Int.{bit_at}
use Rattle.std.proofs.Common.{refl, sym, ap, ◌∙◌, arith, pow-suc}
use Rattle.std.proofs.lemmas.Nat.{same_from_place}
use Rattle.std.proofs.lemmas.Nat.Bits.{bit_at_lowest, bit_at-suc, bit_at_cat_low, bit_at_cat_high}
use Rattle.std.proofs.lemmas.List.{length-map}
use Rattle.std.proofs.lemmas.Option.{slice_get_within}
use Rattle.bc_num.specs.declared.p2.P2.{P2}
use Rattle.bc_num.specs.declared.disc2.Disc2.{Disc2}
use Rattle.bc_num.specs.declared.v2.V2.{V2}
use Rattle.bc_space.specs.declared.line2.Line2.{Line2}
use Rattle.bc_space.specs.declared.side.Side.{Side}
use Rattle.bc_space.specs.declared.side.Side.TheVariants.{Below, On, Above}
use Rattle.bc_space.specs.Lines.{line_side}
use Rattle.bc_space.specs.Discs.{disc_side}
use Rattle.bc_space.specs.Regions.{mask_of, bit_of_side}
use Rattle.bc_natural.specs.Curves.{Curves, lines_of}
use Rattle.bc_natural.specs.Masks.{curve_mask}

-- ---- any half-spaces

bit_below : (s : Side) → bit_of_side s < 2
bit_below Below = omega arith
bit_below On = omega arith
bit_below Above = omega arith

bit_tells : (s : Side) → (bit_of_side s ≡ 1) ↔ (s ≡ Above)
bit_tells Below = (λ e. absurd (omega arith), λ e. absurd (cc))
bit_tells On = (λ e. absurd (omega arith), λ e. absurd (cc))
bit_tells Above = (λ e. refl, λ e. refl)

low_bit : (b m : ℕ) → b < 2 → bit_at (b + 2 * m) 0 ≡ b
low_bit b m h = bit_at_lowest (b + 2 * m) ∙ omega arith

high_bit : (b m i : ℕ) → b < 2 → bit_at (b + 2 * m) (suc i) ≡ bit_at m i
high_bit b m i h =
    let half : (b + 2 * m) / 2 ≡ m = omega arith in
    bit_at-suc (b + 2 * m) i ∙ ap (λ n. bit_at n i) half

as_bit : (n b : ℕ) (P : Type 0) → n ≡ b → (b ≡ 1) ↔ P → (n ≡ 1) ↔ P
as_bit n b P e h = (λ k. h.0 (sym e ∙ k), λ k. e ∙ h.1 k)

module _ {P H : Type 0} (side : H → P → Side) where
  pub mask_below : (hs : List H) (p : P) → mask_of side hs p < 2 ^ length hs
  mask_below [] p = omega arith
  mask_below (h ∷ hs) p =
      let e = mask_below hs p in
      let b = bit_below (side h p) in
      let t : 2 ^ suc (length hs) ≡ 2 * 2 ^ length hs = rw pow-suc (grind arith) in
      omega arith

  -- bit i is set where p is Above half-space i
  pub bit_of_mask : (hs : List H) (p : P) (i : ℕ) (h : H) → slice_get hs i ≡ Some h → (bit_at (mask_of side hs p) i ≡ 1) ↔ (side h p ≡ Above)
  bit_of_mask [] p i h e = absurd (cc)
  bit_of_mask (g ∷ hs) p zero h e =
      let s : g ≡ h = cc in
      as_bit _ (bit_of_side (side g p)) (side h p ≡ Above) (low_bit (bit_of_side (side g p)) (mask_of side hs p) (bit_below (side g p)))
      (rw (← s) (bit_tells (side g p)))
  bit_of_mask (g ∷ hs) p (suc i) h e =
      as_bit _ (bit_at (mask_of side hs p) i) (side h p ≡ Above) (high_bit (bit_of_side (side g p)) (mask_of side hs p) i (bit_below (side g p)))
      (bit_of_mask hs p i h e)

  -- points with one mask are Above the same half-spaces
  pub same_bits : (hs : List H) (p q : P) → mask_of side hs p ≡ mask_of side hs q → (i : ℕ) (h : H) → slice_get hs i ≡ Some h → (side h p ≡ Above) ↔ (side h q ≡ Above)
  same_bits hs p q e i h k =
      let a = bit_of_mask hs p i h k in
      let b = bit_of_mask hs q i h k in
      let s : bit_at (mask_of side hs p) i ≡ bit_at (mask_of side hs q) i = ap (λ m. bit_at m i) e in
      (λ x. b.0 (sym s ∙ a.1 x), λ x. a.0 (s ∙ b.1 x))

-- ---- the half-spaces of a table

pub lines_below : (t : Curves) (p : P2) → mask_of line_side (lines_of t) p < 2 ^ length t.lines
lines_below t p =
    let e : length (lines_of t) ≡ length t.lines = length-map t.lines (λ (e : Line2 × V2). e.0) in
    rw (← e) (mask_below line_side (lines_of t) p)

two_parts : (t : Curves) (p : P2) → curve_mask t p ≡ mask_of disc_side t.discs p * 2 ^ length t.lines + mask_of line_side (lines_of t) p
two_parts t p = grind arith

pub curve_bit_line : (t : Curves) (p : P2) (i : ℕ) (l : Line2) → slice_get (lines_of t) i ≡ Some l → (bit_at (curve_mask t p) i ≡ 1) ↔ (line_side l p ≡ Above)
curve_bit_line t p i l e =
    let long : length (lines_of t) ≡ length t.lines = length-map t.lines (λ (e : Line2 × V2). e.0) in
    let within : i < length (lines_of t) = slice_get_within (lines_of t) i l e in
    as_bit _ (bit_at (mask_of line_side (lines_of t) p) i) (line_side l p ≡ Above)
    (ap (λ n. bit_at n i) (two_parts t p) ∙ bit_at_cat_low (mask_of disc_side t.discs p) (length t.lines) (mask_of line_side (lines_of t) p) i (omega arith))
    (bit_of_mask line_side (lines_of t) p i l e)

pub curve_bit_disc : (t : Curves) (p : P2) (j : ℕ) (d : Disc2) → slice_get t.discs j ≡ Some d → (bit_at (curve_mask t p) (length t.lines + j) ≡ 1) ↔ (disc_side d p ≡ Above)
curve_bit_disc t p j d e =
    let back : length t.lines + j - length t.lines ≡ j = omega arith in
    as_bit _ (bit_at (mask_of disc_side t.discs p) j) (disc_side d p ≡ Above)
    (ap (λ n. bit_at n (length t.lines + j)) (two_parts t p)
    ∙ bit_at_cat_high (mask_of disc_side t.discs p) (length t.lines) (mask_of line_side (lines_of t) p) (length t.lines + j) (lines_below t p) (omega arith)
    ∙ ap (bit_at (mask_of disc_side t.discs p)) back)
    (bit_of_mask disc_side t.discs p j d e)

-- a mask with these bits of lines and discs is told by its two parts
pub same_parts : (t : Curves) (p : P2) (m set : ℕ) → m < 2 ^ length t.lines → curve_mask t p ≡ m + 2 ^ length t.lines * set → (m ≡ mask_of line_side (lines_of t) p) × (set ≡ mask_of disc_side t.discs p)
same_parts t p m set h e =
    let whole : set * 2 ^ length t.lines + m ≡ mask_of disc_side t.discs p * 2 ^ length t.lines + mask_of line_side (lines_of t) p = grind arith in
    let r = same_from_place set m (mask_of disc_side t.discs p) (mask_of line_side (lines_of t) p) (2 ^ length t.lines) h (lines_below t p) whole in
    (r.1, r.0)
