use Rattle.std.proofs.Common.{length}
use Rattle.bc_solid.specs.Meshes.{edges}
use Rattle.bc_parity.specs.Sums.{odd}
use Rattle.bc_parity.specs.Faces.{is_edge_crossed}
use Rattle.bc_solid.proofs.Facets.{some_corner}
use Rattle.bc_parity.proofs.Places.{place_in, no_place_in}
use Rattle.bc_parity.proofs.Rounds.{start, step, finish}
use Rattle.bc_parity.proofs.face_crossings.crosses_edges_oddly.Goals as goal

pub loop-i-init : goal.loop-i-init
loop-i-init c =
    (c.corner-first.ensures.near, λ facet e. start (λ k. is_edge_crossed k c.args.p.now) facet.corners c.corner-first.result (c.corner-first.ensures.at facet e))

pub loop-i-preserved : goal.loop-i-preserved
loop-i-preserved c = (
  c.corner-corner.ensures.near,
  λ facet e.
      step (λ k. is_edge_crossed k c.args.p.now) facet.corners c.loop-i.i c.loop-i.before c.corner-corner.result c.corner-first.result
      c.loop-i.odd c.crosses_edge.result c.exactly_one-odd.result (odd (λ k. is_edge_crossed k c.args.p.now) (edges facet.corners))
      (c.corner-corner.ensures.at facet e) c.crosses_edge.ensures c.exactly_one-odd.ensures (c.loop-i.invariant.1 facet e),
)

pub returns : goal.returns
returns c = λ facet e.
    finish (λ k. is_edge_crossed k c.args.p.now) facet.corners c.loop-i.i c.loop-i.before c.corner-first.result
    c.loop-i.odd c.crosses_edge-2.result c.exactly_one.result (odd (λ k. is_edge_crossed k c.args.p.now) (edges facet.corners))
    (no_place_in c.corners-i-end.result (length facet.corners) c.loop-i.i (c.corners-i-end.ensures facet e) c.loop-i-test.false)
    c.crosses_edge-2.ensures c.exactly_one.ensures (c.loop-i.invariant.1 facet e)

pub corner-first-requires-clause-place : goal.corner-first-requires-clause-place
corner-first-requires-clause-place c = λ facet e. some_corner c.args.s.now c.args.f facet c.law.ensures e

pub corner-corner-requires-clause-place : goal.corner-corner-requires-clause-place
corner-corner-requires-clause-place c = λ facet e. place_in c.corners-i-end.result (length facet.corners) c.loop-i.i (c.corners-i-end.ensures facet e) c.loop-i-test.true
