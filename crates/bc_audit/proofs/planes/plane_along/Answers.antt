use Rattle.std.proofs.Common.{[], ◌∷◌, refl}
use Rattle.bc_algebra.proofs.Ring.{ring, quotes}
use Rattle.bc_algebra.proofs.Sizes.{smalls, fits, tidy, within}
use Rattle.bc_audit.proofs.planes.plane_along.Goals as goal

pub overflow_mul-d : goal.overflow_mul-d
overflow_mul-d c = fits (search (smalls, c.requires.x_near, c.requires.a_near.x_near) depth 30) refl

pub overflow_mul-d-2 : goal.overflow_mul-d-2
overflow_mul-d-2 c = fits (search (smalls, c.requires.y_near, c.requires.a_near.y_near) depth 30) refl

pub overflow_mul-d-3 : goal.overflow_mul-d-3
overflow_mul-d-3 c = fits (search (smalls, c.requires.z_near, c.requires.a_near.z_near) depth 30) refl

pub overflow_add-d : goal.overflow_add-d
overflow_add-d c = fits (search (smalls, c.requires.x_near, c.requires.y_near, c.requires.a_near.x_near, c.requires.a_near.y_near) depth 30) refl

pub overflow_add-d-2 : goal.overflow_add-d-2
overflow_add-d-2 c = fits (search (smalls, c.requires.x_near, c.requires.y_near, c.requires.z_near, c.requires.a_near.x_near, c.requires.a_near.y_near, c.requires.a_near.z_near) depth 30) refl

pub returns-clause-d_is : goal.returns-clause-d_is
returns-clause-d_is c =
    tidy (search (smalls, c.requires.x_near, c.requires.y_near, c.requires.z_near, c.requires.a_near.x_near, c.requires.a_near.y_near, c.requires.a_near.z_near) depth 30) refl
    (ring (c.args.u.x ∷ c.args.u.y ∷ c.args.u.z ∷ c.args.a.x ∷ c.args.a.y ∷ c.args.a.z ∷ []) (search quotes depth 30) refl)

pub returns-clause-sized : goal.returns-clause-sized
returns-clause-sized c = record {
  a_near = within (search (smalls, c.requires.x_near) depth 30) refl;
  b_near = within (search (smalls, c.requires.y_near) depth 30) refl;
  c_near = within (search (smalls, c.requires.z_near) depth 30) refl;
  d_near = within (search (smalls, c.requires.x_near, c.requires.y_near, c.requires.z_near, c.requires.a_near.x_near, c.requires.a_near.y_near, c.requires.a_near.z_near) depth 30) refl;
}
