use Rattle.std.proofs.Common.{◌≡◌, take, map}
use Rattle.bc_audit.proofs.holds.everywhere.Given as goal

abbrev pub invariant-loop-mask : goal.invariant-loop-mask
invariant-loop-mask l = l.found.items ≡ map (λ m. l.holds) (take l._mask-index l.masks)
