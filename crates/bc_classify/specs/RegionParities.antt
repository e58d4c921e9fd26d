-- What is told of all masks of a region at once: the parity of the chords, and which discs flip it.
use Rattle.std.specs.Prelude.{◌≡◌, ℕ, Bool, List, bit_and, count_ones}
use Rattle.bc_num.specs.declared.p2.P2.{P2}
use Rattle.bc_solid.specs.declared.element.Element.{Element}
use Rattle.bc_parity.specs.Parity.{xor, is_odd}
use Rattle.bc_parity.specs.Sums.{odd}
use Rattle.bc_natural.specs.Curves.{Curves}
use Rattle.bc_classify.specs.declared.region_parity.RegionParity.{RegionParity}
use Rattle.bc_classify.specs.OddMasks.{flips, is_odd_mask}

-- an odd number of bits is set in both
abbrev pub is_odd_overlap : ℕ → ℕ → Bool
is_odd_overlap mask word = is_odd (count_ones (bit_and mask word))

-- the parity that is told of a mask
abbrev pub told : RegionParity → ℕ → Bool
told r mask = xor r.straight (is_odd_overlap mask r.flips)

-- of each mask its parity at q is told
abbrev pub IsParityAt : List Element → Curves → P2 → RegionParity → Type 0
IsParityAt es t q r = (mask : ℕ) → told r mask ≡ is_odd_mask es t q mask

-- the bits of the word are those of the discs that flip the parity at q
abbrev pub AreFlipsAt : List Element → Curves → P2 → ℕ → Type 0
AreFlipsAt es t q word = (mask : ℕ) → is_odd_overlap mask word ≡ odd (flips t q mask) es
