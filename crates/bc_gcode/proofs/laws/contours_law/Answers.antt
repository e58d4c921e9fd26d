use Rattle.bc_gcode.proofs.Kept.{read_are_contours}
use Rattle.bc_gcode.proofs.laws.contours_law.Goals as goal

pub returns : goal.returns
returns c = read_are_contours
