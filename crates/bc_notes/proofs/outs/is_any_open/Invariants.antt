use Rattle.std.proofs.Common.{◌≡◌, ◌<◌, ℕ, get_or}
use Rattle.std.specs.Prelude.{IsSome}
use Rattle.std.specs.Int.{bit_at}
use Rattle.bc_notes.specs.declared.best.Best.{Best}
use Rattle.bc_notes.proofs.outs.is_any_open.Given as goal

abbrev pub invariant-loop-i : goal.invariant-loop-i
invariant-loop-i l = (j : ℕ) (d : Best) → j < l.i → bit_at l.word j ≡ 1 → IsSome (get_or l.bests j d).spot
