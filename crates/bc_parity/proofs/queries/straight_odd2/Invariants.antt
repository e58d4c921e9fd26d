use Rattle.std.proofs.Common.{◌≡◌, drop}
use Rattle.bc_parity.specs.Parity.{xor, is_odd}
use Rattle.bc_parity.specs.Sums.{odd}
use Rattle.bc_parity.specs.StraightOdd.{straight_crossings_of}
use Rattle.bc_parity.proofs.queries.straight_odd2.Given as goal

abbrev pub invariant-loop-i : goal.invariant-loop-i
invariant-loop-i l = xor l.odd (odd (λ e. is_odd (straight_crossings_of e l.p)) (drop l.i l.s)) ≡ odd (λ e. is_odd (straight_crossings_of e l.p)) l.s
