use Rattle.std.proofs.Common.{◌∙◌, sym}
use Rattle.bc_natural.specs.Planes.{is_same_plane}
use Rattle.bc_natural.proofs.Added.{kept, added}
use Rattle.bc_natural.proofs.plane_table.PlaneTable.add_plane.Goals as goal

pub returns-in_ok-insert : goal.returns-in_ok-insert
returns-in_ok-insert c =
    c.in_ok-insert.ensures.entries
    ∙ added is_same_plane c.self.inside.planes c.args.self.now c.args.plane c.args.origin c.self.view_is (sym c.has_plane.ensures ∙ c.if-not-has_plane.true)

pub returns-else-not-has_plane : goal.returns-else-not-has_plane
returns-else-not-has_plane c = kept is_same_plane c.args.self.now c.args.plane c.args.origin (sym c.has_plane.ensures ∙ c.if-not-has_plane.false)
