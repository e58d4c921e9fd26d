use Rattle.std.proofs.Common.{refl, rules}
use Rattle.bc_space.proofs.SamePlanes.{plane3_same}
use Rattle.bc_space.proofs.Walls.{turned_fits, turned_is}
use Rattle.bc_space.proofs.solid.rear_of.Goals as goal

pub overflow_sub-result : goal.overflow_sub-result
overflow_sub-result c = turned_fits c.args.b.y0 c.args.b.y1 (search rules) (search rules) c.args.b.deep

pub returns : goal.returns
returns c = plane3_same _ _ refl refl refl (turned_is c.args.b.y0 c.args.b.y1 (search rules) (search rules) c.args.b.deep)
