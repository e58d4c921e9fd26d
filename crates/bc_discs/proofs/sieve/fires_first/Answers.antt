use Rattle.std.proofs.Common.{◌↔◌, IsTrue, sym, subst}
use Rattle.bc_discs.specs.declared.sieve.Sieve.{Sieve}
use Rattle.bc_discs.specs.Sieves.{FiresFirst}
use Rattle.bc_discs.proofs.sieve.fires_first.Goals as goal

pub returns-in-Fine : goal.returns-in-Fine
returns-in-Fine c = subst (λ (s : Sieve). IsTrue c.fires_fine.result ↔ FiresFirst s c.args.corners.now c.args.walls.now c.args.first.now c.args.rest.now) (sym c.in-Fine.is) c.fires_fine.ensures
