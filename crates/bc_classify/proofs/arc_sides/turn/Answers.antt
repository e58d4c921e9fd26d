use Rattle.std.proofs.Common.{refl}
use Rattle.bc_algebra.proofs.Sizes.{smalls, fits, plainly}
use Rattle.bc_classify.proofs.arc_sides.turn.Goals as goal

pub overflow_sub-result-2 : goal.overflow_sub-result-2
overflow_sub-result-2 c = fits (search (smalls, c.requires) depth 30) refl

pub overflow_sub-result-4 : goal.overflow_sub-result-4
overflow_sub-result-4 c = fits (search (smalls, c.requires) depth 30) refl

pub overflow_sub-result-5 : goal.overflow_sub-result-5
overflow_sub-result-5 c = fits (search (smalls, c.requires) depth 30) refl

pub overflow_mul-result-2 : goal.overflow_mul-result-2
overflow_mul-result-2 c = fits (search (smalls, c.requires) depth 30) refl

pub overflow_mul-result-3 : goal.overflow_mul-result-3
overflow_mul-result-3 c = fits (search (smalls, c.requires) depth 30) refl

pub overflow_mul-result-4 : goal.overflow_mul-result-4
overflow_mul-result-4 c = fits (search (smalls, c.requires) depth 30) refl

pub returns : goal.returns
returns c = plainly (search (smalls, c.requires) depth 30) refl

pub overflow_sub-result : goal.overflow_sub-result
overflow_sub-result c = fits (search (smalls, c.requires) depth 30) refl

pub overflow_cast-result : goal.overflow_cast-result
overflow_cast-result c = fits (search (smalls, c.requires) depth 30) refl

pub overflow_cast-result-2 : goal.overflow_cast-result-2
overflow_cast-result-2 c = fits (search (smalls, c.requires) depth 30) refl

pub overflow_mul-result : goal.overflow_mul-result
overflow_mul-result c = fits (search (smalls, c.requires) depth 30) refl

pub overflow_sub-result-3 : goal.overflow_sub-result-3
overflow_sub-result-3 c = fits (search (smalls, c.requires) depth 30) refl

pub overflow_cast-result-3 : goal.overflow_cast-result-3
overflow_cast-result-3 c = fits (search (smalls, c.requires) depth 30) refl

pub overflow_cast-result-4 : goal.overflow_cast-result-4
overflow_cast-result-4 c = fits (search (smalls, c.requires) depth 30) refl
