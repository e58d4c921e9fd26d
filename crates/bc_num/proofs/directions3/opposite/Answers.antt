use Rattle.std.proofs.Common.{[], ◌∷◌, refl}
use Rattle.bc_algebra.proofs.Ring.{ring, quotes}
use Rattle.bc_algebra.proofs.Sizes.{smalls, tidy}
use Rattle.bc_num.proofs.Same.{v3_same}
use Rattle.bc_num.proofs.directions3.opposite.Goals as goal

pub returns : goal.returns
returns c =
    v3_same _ _ (tidy (search (smalls, c.requires.x_near) depth 30) refl (ring (c.args.u.x ∷ []) (search quotes depth 30) refl))
    (tidy (search (smalls, c.requires.y_near) depth 30) refl (ring (c.args.u.y ∷ []) (search quotes depth 30) refl))
    (tidy (search (smalls, c.requires.z_near) depth 30) refl (ring (c.args.u.z ∷ []) (search quotes depth 30) refl))
