use Rattle.std.proofs.Common.{refl}
use Rattle.bc_algebra.proofs.Sizes.{smalls, fits, plainly, within}
use Rattle.bc_solid.proofs.squares.square_of.Goals as goal

pub overflow_sub-x : goal.overflow_sub-x
overflow_sub-x c = fits (search (smalls, c.requires) depth 30) refl

pub overflow_sub-y : goal.overflow_sub-y
overflow_sub-y c = fits (search (smalls, c.requires) depth 30) refl

pub overflow_mul-result : goal.overflow_mul-result
overflow_mul-result c = fits (search (smalls, c.requires) depth 30) refl

pub overflow_mul-result-2 : goal.overflow_mul-result-2
overflow_mul-result-2 c = fits (search (smalls, c.requires) depth 30) refl

pub overflow_add-result : goal.overflow_add-result
overflow_add-result c = fits (search (smalls, c.requires) depth 30) refl

pub returns-clause-square : goal.returns-clause-square
returns-clause-square c = plainly (search (smalls, c.requires) depth 30) refl

pub returns-clause-near : goal.returns-clause-near
returns-clause-near c = within (search (smalls, c.requires) depth 30) refl
