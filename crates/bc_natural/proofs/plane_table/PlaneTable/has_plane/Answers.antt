use Rattle.std.proofs.Common.{◌∙◌}
use Rattle.bc_natural.specs.Planes.{is_same_plane}
use Rattle.bc_natural.proofs.Added.{has}
use Rattle.bc_natural.proofs.plane_table.PlaneTable.has_plane.Goals as goal

pub returns : goal.returns
returns c = rw (← c.self.view_is) (c.contains_key.ensures ∙ has is_same_plane c.self.inside.planes c.args.plane)
