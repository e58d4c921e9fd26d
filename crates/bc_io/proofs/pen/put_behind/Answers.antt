use Rattle.std.proofs.Common.{◌++◌, [], take, refl, arith, rules}
use Rattle.std.proofs.lemmas.Result.{err_from_is_err_and}
use Rattle.bc_io.proofs.Known.{taken}
use Rattle.bc_io.proofs.Taken.{takes_on, takes_more, filled}
use Rattle.bc_io.proofs.pen.put_behind.Goals as goal

pub returns-in_err-room-clause-err : goal.returns-in_err-room-clause-err
returns-in_err-room-clause-err g c =
    let p = err_from_is_err_and c.from_residual.result c.from_residual.ensures.1 in
    let lost = c.in_err-room.ensures.err in
    rw p.1 (lost.0 ++ c.loop-rest.rest.now, takes_on _ _ _ _ _ _ c.loop-rest.invariant.bytes (takes_more _ _ _ _ c.loop-rest.rest.now lost.1))

pub loop-rest-preserved : goal.loop-rest-preserved
loop-rest-preserved g c =
    let rest = c.loop-rest.rest.now in
    let waiting = take c.in_ok-room.room c.loop-rest.buf in
    record {
      bytes = rw c.fill-count.ensures.bytes (filled _ _ _ _ (take c.loop-rest.len c.loop-rest.buf) rest waiting (take c.fill-count.result rest) _ c.loop-rest.invariant.bytes c.in_ok-room.ensures.ok (taken rest [] rest c.fill-count.result c.fill-count.ensures.count refl));
      within = c.fill-count.ensures.within;
      room = search rules;
      later = omega (arith, c.loop-rest.invariant.later, c.in_ok-room.ensures.cause.later);
    }
