use Rattle.std.proofs.Common.{sym}
use Rattle.bc_io.proofs.Taken.{put_out}
use Rattle.bc_io.proofs.pen.Pen.finish.Goals as goal

pub returns-clause-text : goal.returns-clause-text
returns-clause-text g c = record { put = λ start before done h. put_out _ start _ _ before _ _ done _ _ c.if-self.false (rw (sym c.first.ensures) c.put_all.ensures.bytes) c.put_all.ensures.cause h }
