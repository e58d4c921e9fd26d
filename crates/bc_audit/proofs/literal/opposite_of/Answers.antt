use Rattle.std.proofs.Common.{refl}
use Rattle.bc_algebra.proofs.Sizes.{smalls, within}
use Rattle.bc_audit.proofs.literal.opposite_of.Goals as goal

pub returns-clause-near : goal.returns-clause-near
returns-clause-near c = within (search (smalls, c.requires) depth 30) refl
