use Rattle.std.proofs.Common.{◌≡◌, take, map}
use Rattle.bc_audit.proofs.verdict.masks_of.Given as goal

abbrev pub invariant-loop-cell : goal.invariant-loop-cell
invariant-loop-cell l = l.masks.items ≡ map (λ c. c.mask) (take l.cell-index l.cells)
