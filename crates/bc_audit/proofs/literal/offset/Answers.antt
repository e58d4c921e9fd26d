use Rattle.std.proofs.Common.{[], ◌∷◌, refl}
use Rattle.bc_algebra.proofs.Ring.{ring, quotes}
use Rattle.bc_algebra.proofs.Sizes.{smalls, fits, tidy, within}
use Rattle.bc_audit.proofs.literal.offset.Goals as goal

pub overflow_mul-result : goal.overflow_mul-result
overflow_mul-result c = fits (search (smalls, c.requires.normal_x, c.requires.origin_x) depth 30) refl

pub overflow_mul-result-2 : goal.overflow_mul-result-2
overflow_mul-result-2 c = fits (search (smalls, c.requires.normal_y, c.requires.origin_y) depth 30) refl

pub overflow_mul-result-3 : goal.overflow_mul-result-3
overflow_mul-result-3 c = fits (search (smalls, c.requires.normal_z, c.requires.origin_z) depth 30) refl

pub overflow_add-result : goal.overflow_add-result
overflow_add-result c = fits (search (smalls, c.requires.normal_x, c.requires.normal_y, c.requires.origin_x, c.requires.origin_y) depth 30) refl

pub overflow_add-result-2 : goal.overflow_add-result-2
overflow_add-result-2 c = fits (search (smalls, c.requires.normal_x, c.requires.normal_y, c.requires.normal_z, c.requires.origin_x, c.requires.origin_y, c.requires.origin_z) depth 30) refl

pub returns-clause-offset : goal.returns-clause-offset
returns-clause-offset c =
    tidy (search (smalls, c.requires.normal_x, c.requires.normal_y, c.requires.normal_z, c.requires.origin_x, c.requires.origin_y, c.requires.origin_z) depth 30) refl
    (ring (c.args.f.now.n.x ∷ c.args.f.now.n.y ∷ c.args.f.now.n.z ∷ c.args.f.now.o.x ∷ c.args.f.now.o.y ∷ c.args.f.now.o.z ∷ []) (search quotes depth 30) refl)

pub returns-clause-near : goal.returns-clause-near
returns-clause-near c = within (search (smalls, c.requires.normal_x, c.requires.normal_y, c.requires.normal_z, c.requires.origin_x, c.requires.origin_y, c.requires.origin_z) depth 30) refl
