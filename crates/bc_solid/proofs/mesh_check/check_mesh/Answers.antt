use Rattle.std.proofs.Common.{rules, refl, ◌≢◌, ◌∙◌, ap, map, subst, List, All}
use Rattle.bc_solid.specs.declared.solid.Facet.{Facet as Stored}
use Rattle.bc_solid.specs.declared.mesh_fault.MeshFault.TheVariants.{OddEdge, Memory}
use Rattle.bc_solid.specs.Meshes.{all_edges, faces_of}
use Rattle.bc_solid.specs.RawMeshes.{mesh_of}
use Rattle.bc_solid.specs.Facets.{facet_of, outlines, IsClosedMesh, IsSoundFace}
use Rattle.bc_solid.specs.EdgeTables.{edge_of}
use Rattle.bc_solid.specs.MeshFaults.{IsMeshFault}
use Rattle.bc_solid.proofs.Kept.{same_faces, apart, few_edges, odd_edge, closed, solid, few_outlines, few_facets}
use Rattle.bc_solid.proofs.MeshFaults.{all_sound, not_closed}
use Rattle.bc_solid.proofs.mesh_check.check_mesh.Goals as goal

pub returns-in_err-facets-clause-open : goal.returns-in_err-facets-clause-open
returns-in_err-facets-clause-open c =
    let s = same_faces c.as_slice.result.now c.args.raw.points c.as_slice-2.result.now c.args.raw.faces c.as_slice.ensures c.as_slice-2.ensures in
    let f : c.in_err-facets.field-0.0 ≢ Memory → IsClosedMesh (faces_of (mesh_of c.args.raw)) → ⊥ =
    λ m. not_closed (faces_of (mesh_of c.args.raw)) c.in_err-facets.field-0.0 (subst (λ faces. IsMeshFault faces c.in_err-facets.field-0.0) s (c.in_err-facets.ensures.fault m)) in
    search rules

pub of_edges-requires-clause-apart : goal.of_edges-requires-clause-apart
of_edges-requires-clause-apart c =
    let s = same_faces c.as_slice.result.now c.args.raw.points c.as_slice-2.result.now c.args.raw.faces c.as_slice.ensures c.as_slice-2.ensures in
    let k = ap (map edge_of) c.as_slice-4.ensures ∙ c.in_ok-edges.ensures ∙ ap (λ (fs : List Stored). all_edges (outlines (map facet_of fs))) c.as_slice-3.ensures in
    apart (map facet_of c.in_ok-facets.facets) (faces_of (mesh_of c.args.raw)) c.as_slice-4.result.now c.in_ok-facets.ensures.sound (c.in_ok-facets.ensures.corners ∙ s) k

pub of_edges-requires-clause-few : goal.of_edges-requires-clause-few
of_edges-requires-clause-few c =
    let s = same_faces c.as_slice.result.now c.args.raw.points c.as_slice-2.result.now c.args.raw.faces c.as_slice.ensures c.as_slice-2.ensures in
    let k = ap (map edge_of) c.as_slice-4.ensures ∙ c.in_ok-edges.ensures ∙ ap (λ (fs : List Stored). all_edges (outlines (map facet_of fs))) c.as_slice-3.ensures in
    few_edges (map facet_of c.in_ok-facets.facets) (faces_of (mesh_of c.args.raw)) c.as_slice-4.result.now c.in_ok-facets.ensures.sound (c.in_ok-facets.ensures.corners ∙ s) k
    (few_outlines c.args.raw.points c.args.raw.faces c.args.raw.few_corners)

pub returns-in-Some-clause-fault : goal.returns-in-Some-clause-fault
returns-in-Some-clause-fault c = λ _.
    let s = same_faces c.as_slice.result.now c.args.raw.points c.as_slice-2.result.now c.args.raw.faces c.as_slice.ensures c.as_slice-2.ensures in
    let k = ap (map edge_of) c.as_slice-4.ensures ∙ c.in_ok-edges.ensures ∙ ap (λ (fs : List Stored). all_edges (outlines (map facet_of fs))) c.as_slice-3.ensures in (
      subst (λ faces. All IsSoundFace faces) (c.in_ok-facets.ensures.corners ∙ s) (all_sound (map facet_of c.in_ok-facets.facets) c.in_ok-facets.ensures.sound),
      odd_edge (map facet_of c.in_ok-facets.facets) (faces_of (mesh_of c.args.raw)) c.as_slice-4.result.now c.in_ok-facets.ensures.sound (c.in_ok-facets.ensures.corners ∙ s) k c.in_ok-table.table (c.in-Some.edge, c.in-Some.count)
          c.in_ok-table.ensures c.in-Some.ensures.odd,
    )

pub returns-in-Some-clause-open : goal.returns-in-Some-clause-open
returns-in-Some-clause-open c = λ _.
    let s = same_faces c.as_slice.result.now c.args.raw.points c.as_slice-2.result.now c.args.raw.faces c.as_slice.ensures c.as_slice-2.ensures in
    let k = ap (map edge_of) c.as_slice-4.ensures ∙ c.in_ok-edges.ensures ∙ ap (λ (fs : List Stored). all_edges (outlines (map facet_of fs))) c.as_slice-3.ensures in
    not_closed (faces_of (mesh_of c.args.raw)) (OddEdge c.in-Some.edge.from c.in-Some.edge.to c.in-Some.count) (
      subst (λ faces. All IsSoundFace faces) (c.in_ok-facets.ensures.corners ∙ s) (all_sound (map facet_of c.in_ok-facets.facets) c.in_ok-facets.ensures.sound),
      odd_edge (map facet_of c.in_ok-facets.facets) (faces_of (mesh_of c.args.raw)) c.as_slice-4.result.now c.in_ok-facets.ensures.sound (c.in_ok-facets.ensures.corners ∙ s) k c.in_ok-table.table (c.in-Some.edge, c.in-Some.count)
          c.in_ok-table.ensures c.in-Some.ensures.odd,
    )

pub invariant_of-result : goal.invariant_of-result
invariant_of-result c =
    let s = same_faces c.as_slice.result.now c.args.raw.points c.as_slice-2.result.now c.args.raw.faces c.as_slice.ensures c.as_slice-2.ensures in
    let k = ap (map edge_of) c.as_slice-4.ensures ∙ c.in_ok-edges.ensures ∙ ap (λ (fs : List Stored). all_edges (outlines (map facet_of fs))) c.as_slice-3.ensures in
    solid (map facet_of c.in_ok-facets.facets) (faces_of (mesh_of c.args.raw)) c.as_slice-4.result.now c.in_ok-facets.ensures.sound (c.in_ok-facets.ensures.corners ∙ s) k c.in_ok-table.table c.in_ok-table.ensures (c.in-None.ensures.none refl)
    (few_facets (map facet_of c.in_ok-facets.facets) c.args.raw.points c.args.raw.faces (c.in_ok-facets.ensures.corners ∙ s) c.args.raw.few_faces)
    (few_outlines c.args.raw.points c.args.raw.faces c.args.raw.few_corners)

pub returns-clause-closed : goal.returns-clause-closed
returns-clause-closed c =
    let s = same_faces c.as_slice.result.now c.args.raw.points c.as_slice-2.result.now c.args.raw.faces c.as_slice.ensures c.as_slice-2.ensures in
    let k = ap (map edge_of) c.as_slice-4.ensures ∙ c.in_ok-edges.ensures ∙ ap (λ (fs : List Stored). all_edges (outlines (map facet_of fs))) c.as_slice-3.ensures in
    closed (map facet_of c.in_ok-facets.facets) (faces_of (mesh_of c.args.raw)) c.as_slice-4.result.now c.in_ok-facets.ensures.sound (c.in_ok-facets.ensures.corners ∙ s) k c.in_ok-table.table c.in_ok-table.ensures (c.in-None.ensures.none refl)
