use Rattle.std.proofs.Common.{◌≡◌, map, take, length, All}
use Rattle.bc_solid.specs.Meshes.{corners_of}
use Rattle.bc_solid.specs.Facets.{facet_of, outlines, IsFacet}
use Rattle.bc_solid.proofs.mesh_check.facets_of.Given as goal

abbrev pub invariant-loop-face : goal.invariant-loop-face
invariant-loop-face l = record {
  count : length l.facets ≡ l.face-index;
  corners : outlines (map facet_of l.facets) ≡ map (corners_of l.points) (take l.face-index l.faces);
  sound : All IsFacet (map facet_of l.facets);
}
