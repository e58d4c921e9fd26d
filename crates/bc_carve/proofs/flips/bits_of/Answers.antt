use Rattle.std.proofs.Common.{arith}
use Rattle.bc_carve.proofs.FlipFacts.{bits_counted}
use Rattle.bc_carve.proofs.flips.bits_of.Goals as goal

pub returns : goal.returns
returns c = let e = bits_counted c.args.word (omega arith) in omega (arith, e)
