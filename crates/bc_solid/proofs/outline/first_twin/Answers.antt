use Rattle.std.proofs.Common.{below_more, sym, ◌∙◌}
use Rattle.bc_solid.specs.EdgeTables.{edge_of}
use Rattle.bc_solid.proofs.Outlines.{not_twin, apart_of}
use Rattle.bc_solid.proofs.outline.first_twin.Goals as goal

pub loop-place-preserved : goal.loop-place-preserved
loop-place-preserved c =
    below_more _ _ c.loop-place.invariant
    (not_twin c.args.corners.now c.loop-place.place (edge_of c.edge_at-edge.result) c.edge_at-edge.ensures (sym c.is_same_place.ensures ∙ c.if-is_same_place.false))

pub returns-clause-none : goal.returns-clause-none
returns-clause-none c = λ _. apart_of c.args.corners.now c.loop-place.place c.loop-place-test.false c.loop-place.invariant
