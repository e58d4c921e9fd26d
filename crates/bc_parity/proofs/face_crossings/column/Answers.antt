use Rattle.std.proofs.Common.{refl}
use Rattle.bc_algebra.proofs.Sizes.{smalls, fits, plainly}
use Rattle.bc_parity.proofs.face_crossings.column.Goals as goal

pub overflow_mul-result : goal.overflow_mul-result
overflow_mul-result c = fits (search (smalls, c.requires) depth 30) refl

pub returns : goal.returns
returns c = plainly (search (smalls, c.requires) depth 30) refl
