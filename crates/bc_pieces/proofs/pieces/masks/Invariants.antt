use Rattle.std.proofs.Common.{◌≡◌, take}
use Rattle.bc_formula.specs.Shown.{masks_of}
use Rattle.bc_pieces.proofs.pieces.masks.Given as goal

abbrev pub invariant-loop-part : goal.invariant-loop-part
invariant-loop-part l = l.masks.items ≡ masks_of (take l.part-index l.parts)
