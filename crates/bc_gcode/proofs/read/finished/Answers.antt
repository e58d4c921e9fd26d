use Rattle.std.proofs.Common.{◌≡◌, ◌≤◌, List, length, Ok, ap, arith}
use Rattle.bc_solid.specs.declared.element.Element.{Element}
use Rattle.bc_solid.specs.Closed.{joined}
use Rattle.bc_gcode.specs.declared.program.Program.{Program}
use Rattle.bc_gcode.specs.Answers.{◌>>=◌}
use Rattle.bc_gcode.specs.Gcode.{finish}
use Rattle.bc_gcode.specs.Laws.{AreContours}
use Rattle.bc_gcode.proofs.Sound.{yes}
use Rattle.bc_gcode.proofs.read.finished.Goals as goal

pub invariant_of-result : goal.invariant_of-result
invariant_of-result c =
    let contours : List (List Element) = c.close_contour.new.program.contours in
    let kept : finish c.args.line c.args.program ≡ Ok contours = ap (λ r. r >>= (λ (s : Program). yes s.contours)) c.in_ok-close_contour.ensures in
    let are : AreContours contours = c.requires contours kept in
    let few : length (joined contours) ≤ 512 = are.few in
    record { are_closed = are.closed; are_drawn = are.drawn; are_few = omega arith }
