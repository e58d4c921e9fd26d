use Rattle.std.proofs.Common.{◌∙◌}
use Rattle.std.proofs.lemmas.List.Elements.{All-map, All-same}
use Rattle.bc_num.specs.declared.v3.V3.{V3}
use Rattle.bc_space.specs.declared.plane3.Plane3.{Plane3}
use Rattle.bc_space.specs.Planes.{IsSizedPlane}
use Rattle.bc_natural.specs.Planes.{planes_of}
use Rattle.bc_shape_tests.proofs.classify_tests.split3_of.Goals as goal

pub cells-requires-clause-sized : goal.cells-requires-clause-sized
cells-requires-clause-sized c =
    All-same IsSizedPlane c.as_slice.result.now (planes_of c.in_ok-table.table) (c.as_slice.ensures ∙ c.in_ok-halves.ensures)
    (All-map IsSizedPlane (λ (e : Plane3 × V3). e.0) c.in_ok-table.table c.in_ok-table.ensures.sized.planes)

pub classify3-requires : goal.classify3-requires
classify3-requires c = λ i d l. (c.in_ok-all.ensures.cells.each i d l).fits
