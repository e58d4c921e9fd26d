use Rattle.std.proofs.Common.{refl}
use Rattle.bc_algebra.proofs.Sizes.{smalls, fits, plainly}
use Rattle.bc_solid.proofs.face_plane.along_normal.Goals as goal

pub overflow_mul-result : goal.overflow_mul-result
overflow_mul-result c = fits (search (smalls, c.requires.sized.a_near, c.requires.near.x_near) depth 30) refl

pub overflow_mul-result-2 : goal.overflow_mul-result-2
overflow_mul-result-2 c = fits (search (smalls, c.requires.sized.b_near, c.requires.near.y_near) depth 30) refl

pub overflow_mul-result-3 : goal.overflow_mul-result-3
overflow_mul-result-3 c = fits (search (smalls, c.requires.sized.c_near, c.requires.near.z_near) depth 30) refl

pub overflow_add-result : goal.overflow_add-result
overflow_add-result c = fits (search (smalls, c.requires.sized.a_near, c.requires.sized.b_near, c.requires.near.x_near, c.requires.near.y_near) depth 30) refl

pub overflow_add-result-2 : goal.overflow_add-result-2
overflow_add-result-2 c =
    fits (search (smalls, c.requires.sized.a_near, c.requires.sized.b_near, c.requires.sized.c_near, c.requires.near.x_near, c.requires.near.y_near, c.requires.near.z_near) depth 30) refl

pub returns : goal.returns
returns c =
    plainly (search (smalls, c.requires.sized.a_near, c.requires.sized.b_near, c.requires.sized.c_near, c.requires.near.x_near, c.requires.near.y_near, c.requires.near.z_near) depth 30) refl
