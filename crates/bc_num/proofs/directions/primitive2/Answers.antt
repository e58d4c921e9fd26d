use Rattle.bc_num.proofs.Turning.{IsPrimitiveOf2_of-over}
use Rattle.bc_num.proofs.directions.primitive2.Goals as goal

pub returns-else-is_zero-clause-primitive : goal.returns-else-is_zero-clause-primitive
returns-else-is_zero-clause-primitive c =
    IsPrimitiveOf2_of-over c.args.v c.over_gcd.result c.turned.result c.over_gcd.ensures.over c.turned.ensures.leading c.turned.ensures.either
