use Rattle.std.proofs.Common.{rules, ◌∙◌, map, arith}
use Rattle.bc_solid.specs.Meshes.{corners_of}
use Rattle.bc_solid.specs.Facets.{facet_of}
use Rattle.bc_solid.specs.MeshFaults.{IsMeshFault}
use Rattle.bc_solid.proofs.Kept.{few_corners, count_more, outlines_more, facets_more}
use Rattle.bc_solid.proofs.MeshFaults.{first_face_fault}
use Rattle.bc_solid.proofs.mesh_check.facets_of.Goals as goal

pub facet-requires-clause-few : goal.facet-requires-clause-few
facet-requires-clause-few c =
    let n = few_corners c.args.points.now c.args.faces.now c.loop-face.face-index c.face-item.result c.in_ok-corners.corners c.loop-face-test.true c.face-item.is c.in_ok-corners.ensures.corners in
    omega (arith, n, c.requires.few_corners)

pub returns-in_err-facet-clause-fault : goal.returns-in_err-facet-clause-fault
returns-in_err-facet-clause-fault c =
    let f : IsMeshFault (map (corners_of c.args.points.now) c.args.faces.now) c.in_err-facet.field-0.0 =
    first_face_fault c.args.points.now c.args.faces.now (map facet_of c.loop-face.facets) c.loop-face.face-index c.len.result c.face-item.result c.in_ok-corners.corners c.in_err-facet.field-0.0
    c.loop-face-test.true c.face-item.is c.in_ok-corners.ensures.corners (c.len.ensures ∙ c.loop-face.invariant.count) c.loop-face.invariant.corners c.loop-face.invariant.sound c.in_err-facet.ensures.fault in
    search rules

pub loop-face-preserved : goal.loop-face-preserved
loop-face-preserved c = record {
  count = count_more c.loop-face.facets c.push.new.self c.in_ok-facet.field-0 c.loop-face.face-index c.loop-face.invariant.count c.in_ok-push.ensures.ok;
  corners =
      outlines_more c.args.points.now c.args.faces.now c.loop-face.facets c.push.new.self c.in_ok-facet.field-0 c.loop-face.face-index c.face-item.result c.in_ok-corners.corners
      c.loop-face-test.true c.face-item.is c.in_ok-corners.ensures.corners c.in_ok-facet.ensures.corners c.loop-face.invariant.corners c.in_ok-push.ensures.ok;
  sound = facets_more c.loop-face.facets c.push.new.self c.in_ok-facet.field-0 c.loop-face.invariant.sound c.in_ok-facet.ensures.sound c.in_ok-push.ensures.ok;
}
