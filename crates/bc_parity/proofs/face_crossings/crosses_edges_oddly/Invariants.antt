use Rattle.std.proofs.Common.{◌≡◌, slice_get, Some, drop}
use Rattle.bc_num.specs.Sizes.{AreCoords3}
use Rattle.bc_solid.specs.Meshes.{edges}
use Rattle.bc_solid.specs.Facets.{Facet}
use Rattle.bc_parity.specs.Parity.{xor}
use Rattle.bc_parity.specs.Sums.{odd}
use Rattle.bc_parity.specs.Faces.{is_edge_crossed}
use Rattle.bc_parity.proofs.Rounds.{left}
use Rattle.bc_parity.proofs.face_crossings.crosses_edges_oddly.Given as goal

abbrev pub invariant-loop-i : goal.invariant-loop-i
invariant-loop-i l =
    AreCoords3 l.before
    × ((facet : Facet) → slice_get l.s l.f ≡ Some facet → xor l.odd (left (λ e. is_edge_crossed e l.p) l.before (drop l.i facet.corners) l.first) ≡ odd (λ e. is_edge_crossed e l.p) (edges facet.corners))
