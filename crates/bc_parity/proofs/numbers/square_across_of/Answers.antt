use Rattle.std.proofs.Common.{refl}
use Rattle.bc_algebra.proofs.Sizes.{smalls, fits, plainly}
use Rattle.bc_parity.proofs.numbers.square_across_of.Goals as goal

pub overflow_mul-across : goal.overflow_mul-across
overflow_mul-across c = fits (search (smalls, c.requires) depth 30) refl

pub overflow_sub-across : goal.overflow_sub-across
overflow_sub-across c = fits (search (smalls, c.requires) depth 30) refl

pub overflow_mul-result : goal.overflow_mul-result
overflow_mul-result c = fits (search (smalls, c.requires) depth 30) refl

pub returns : goal.returns
returns c = plainly (search (smalls, c.requires) depth 30) refl
