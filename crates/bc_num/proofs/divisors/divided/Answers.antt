use Rattle.bc_num.proofs.Dividing.{divided_is}
use Rattle.bc_num.proofs.divisors.divided.Goals as goal

pub returns : goal.returns
returns c = divided_is c.args.a c.args.g c.ranges.a c.ranges.g c.requires.positive c.requires.multiple
