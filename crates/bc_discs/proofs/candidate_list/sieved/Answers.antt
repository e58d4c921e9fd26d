use Rattle.std.proofs.Common.{sym, subst, arith}
use Rattle.bc_discs.specs.Sieves.{keeps}
use Rattle.bc_discs.proofs.Found.{keeps_free, AreOfRegions, regions_more, are_candidates}
use Rattle.bc_discs.proofs.candidate_list.sieved.Goals as goal

pub loop-r-preserved : goal.loop-r-preserved
loop-r-preserved c =
    let made = c.in_ok-add_region.ensures in
    subst (AreOfRegions (keeps c.args.sieve) c.args.bounds.now c.args.lines.now c.args.discs.now c.args.regions.now _) (sym made.1)
    (regions_more (keeps c.args.sieve) c.args.bounds.now c.args.lines.now c.args.discs.now c.args.regions.now c.loop-r.r c.loop-r.found made.0 c.get.result.now c.get.ensures c.loop-r.invariant made.2)

pub returns : goal.returns
returns c = are_candidates (keeps c.args.sieve) c.args.bounds.now c.args.lines.now c.args.discs.now c.args.regions.now c.requires.cells
    (keeps_free c.args.sieve c.args.bounds.now c.args.lines.now c.args.discs.now) c.loop-r.r c.loop-r.found (omega arith) c.loop-r.invariant
