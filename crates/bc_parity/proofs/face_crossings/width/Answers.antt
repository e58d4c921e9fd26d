use Rattle.std.proofs.Common.{refl}
use Rattle.bc_algebra.proofs.Sizes.{smalls, fits, plainly}
use Rattle.bc_parity.proofs.face_crossings.width.Goals as goal

pub overflow_sub-result : goal.overflow_sub-result
overflow_sub-result c = fits (search (smalls, c.requires) depth 30) refl

pub returns : goal.returns
returns c = plainly (search (smalls, c.requires) depth 30) refl
