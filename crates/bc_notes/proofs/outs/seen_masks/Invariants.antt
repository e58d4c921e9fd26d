use Rattle.std.proofs.Common.{◌≡◌, take}
use Rattle.bc_notes.specs.Chosen.{seen_of}
use Rattle.bc_notes.proofs.outs.seen_masks.Given as goal

abbrev pub invariant-loop-m : goal.invariant-loop-m
invariant-loop-m l = l.seen.items ≡ seen_of (take l.m-index l.masks)
