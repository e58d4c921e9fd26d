use Rattle.std.specs.Prelude.{All}
use Rattle.bc_cover.specs.Rows.{IsRow}
use Rattle.bc_cover.proofs.rows.add_neighbours.Given as goal

abbrev pub invariant-loop-place : goal.invariant-loop-place
invariant-loop-place l = All (IsRow l.outside l.mask) l.rows.items
