use Rattle.std.proofs.Common.{◌≡◌, Some, take, map}
use Rattle.bc_audit.specs.Told.{told_by}
use Rattle.bc_audit.proofs.holds.side_holds.Given as goal

abbrev pub invariant-loop-mask : goal.invariant-loop-mask
invariant-loop-mask l = l.found.items ≡ map (λ m. told_by m (Some l.literal)) (take l.mask-index l.masks)
