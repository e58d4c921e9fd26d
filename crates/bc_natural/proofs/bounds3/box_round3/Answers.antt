use Rattle.std.proofs.Common.{[], ◌∷◌, refl}
use Rattle.bc_algebra.proofs.Ring.{ring, quotes}
use Rattle.bc_algebra.proofs.Sizes.{smalls, tidy}
use Rattle.bc_natural.proofs.bounds3.box_round3.Goals as goal

pub returns-clause-x0 : goal.returns-clause-x0
returns-clause-x0 c = tidy (search (smalls, c.args.all.x.low_near) depth 30) refl (ring (c.args.all.x.low ∷ []) (search quotes depth 30) refl)

pub returns-clause-x1 : goal.returns-clause-x1
returns-clause-x1 c = tidy (search (smalls, c.args.all.x.high_near) depth 30) refl (ring (c.args.all.x.high ∷ []) (search quotes depth 30) refl)

pub returns-clause-y0 : goal.returns-clause-y0
returns-clause-y0 c = tidy (search (smalls, c.args.all.y.low_near) depth 30) refl (ring (c.args.all.y.low ∷ []) (search quotes depth 30) refl)

pub returns-clause-y1 : goal.returns-clause-y1
returns-clause-y1 c = tidy (search (smalls, c.args.all.y.high_near) depth 30) refl (ring (c.args.all.y.high ∷ []) (search quotes depth 30) refl)

pub returns-clause-z0 : goal.returns-clause-z0
returns-clause-z0 c = tidy (search (smalls, c.args.all.z.low_near) depth 30) refl (ring (c.args.all.z.low ∷ []) (search quotes depth 30) refl)

pub returns-clause-z1 : goal.returns-clause-z1
returns-clause-z1 c = tidy (search (smalls, c.args.all.z.high_near) depth 30) refl (ring (c.args.all.z.high ∷ []) (search quotes depth 30) refl)
