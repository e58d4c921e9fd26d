use Rattle.std.proofs.Common.{refl, rules}
use Rattle.bc_space.proofs.SamePlanes.{plane3_same}
use Rattle.bc_space.proofs.Walls.{turned_fits, turned_is}
use Rattle.bc_space.proofs.solid.high_of.Goals as goal

pub overflow_sub-result : goal.overflow_sub-result
overflow_sub-result c = turned_fits c.args.b.z0 c.args.b.z1 (search rules) (search rules) c.args.b.high

pub returns : goal.returns
returns c = plane3_same _ _ refl refl refl (turned_is c.args.b.z0 c.args.b.z1 (search rules) (search rules) c.args.b.high)
