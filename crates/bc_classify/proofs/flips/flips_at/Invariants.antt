use Rattle.std.proofs.Common.{◌≡◌, ℕ, drop}
use Rattle.bc_parity.specs.Parity.{xor}
use Rattle.bc_parity.specs.Sums.{odd}
use Rattle.bc_classify.specs.OddMasks.{flips}
use Rattle.bc_classify.specs.RegionParities.{is_odd_overlap}
use Rattle.bc_classify.proofs.flips.flips_at.Given as goal

abbrev pub invariant-loop-i : goal.invariant-loop-i
invariant-loop-i l = (mask : ℕ) → xor (is_odd_overlap mask l.flips) (odd (flips l.table l.q mask) (drop l.i l.s)) ≡ odd (flips l.table l.q mask) l.s
