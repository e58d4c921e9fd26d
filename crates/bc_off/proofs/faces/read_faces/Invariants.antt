-- The faces that came and those that are left are those of the whole.
use Rattle.std.proofs.Common.{◌≡◌, ◌-◌, drop}
use Rattle.bc_off.specs.Left.{rows_left, end_left}
use Rattle.bc_off.specs.Faces.{faces}
use Rattle.bc_off.proofs.Runs.{joined}
use Rattle.bc_off.proofs.faces.read_faces.Given as goal

abbrev pub invariant-loop : goal.invariant-loop
invariant-loop l = record {
  all : joined l.faces (faces (end_left l.fn.lines) l.vertices (l.count - l.counter) (rows_left l.lines)) ≡ faces (end_left l.fn.lines) l.vertices l.count (rows_left l.fn.lines);
  rest : rows_left l.lines ≡ drop l.counter (rows_left l.fn.lines);
  text_is : l.lines.text ≡ l.fn.lines.text;
  end_is : end_left l.lines ≡ end_left l.fn.lines;
}
