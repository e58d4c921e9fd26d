use Rattle.std.proofs.Common.{refl}
use Rattle.bc_io.proofs.Taken.{put_on, put_lost}
use Rattle.bc_io.proofs.pen.Pen.put.Goals as goal

pub returns-in-Ok : goal.returns-in-Ok
returns-in-Ok g c =
    record {
      sink = refl;
      buffer = refl;
      put = λ start before done h. put_on start _ _ before _ _ done _ _ _ _ c.if-self.false c.in-Ok.ensures.ok c.in-Ok.ensures.cause.later h;
      stays = λ t. absurd (cc (t, c.if-self.false));
    }

pub returns-in-Err : goal.returns-in-Err
returns-in-Err g c =
    record {
      sink = refl;
      buffer = refl;
      put = λ start before done h. put_lost start _ _ before _ _ done _ _ _ c.in-Err.ensures.err.0 _ c.if-self.false c.in-Err.ensures.err.1 c.in-Err.ensures.cause.failed c.in-Err.ensures.cause.later h;
      stays = λ t. absurd (cc (t, c.if-self.false));
    }
