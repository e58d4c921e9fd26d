use Rattle.bc_read.proofs.BadFrames.{bad_frame_exactly}
use Rattle.bc_read.proofs.laws.frame_law.Goals as goal

pub returns : goal.returns
returns c = bad_frame_exactly
