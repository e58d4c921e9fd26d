use Rattle.std.proofs.Common.{◌≡◌, ◌*◌, ◌≤◌, length, true}
use Rattle.std.specs.Prelude.{All}
use Rattle.std.specs.List.{list_all}
use Rattle.bc_solid.specs.Closed.{IsContour, joined}
use Rattle.bc_solid.specs.Contours.{is_drawn}
use Rattle.bc_shape_tests.proofs.natural_tests.figures.Given as goal

abbrev pub invariant-loop-k : goal.invariant-loop-k
invariant-loop-k l = record {
  closed : All IsContour l.contours;
  drawn : list_all is_drawn (joined l.contours) ≡ true;
  few : length (joined l.contours) ≤ 2 * l.k;
}
