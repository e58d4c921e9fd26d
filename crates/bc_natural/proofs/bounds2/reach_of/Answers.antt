use Rattle.std.proofs.Common.{arith}
use Rattle.std.proofs.lemmas.Int.{ints}
use Rattle.bc_natural.proofs.Spans2.{reach_near}
use Rattle.bc_natural.proofs.bounds2.reach_of.Goals as goal

pub returns-clause-near : goal.returns-clause-near
returns-clause-near c =
    let h = c.square_of.ensures.near.within in
    reach_near _ c.reach.result (omega (arith, ints)) c.reach.ensures.least
