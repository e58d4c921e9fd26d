use Rattle.std.proofs.Common.{length, ap, ◌∙◌, arith}
use Rattle.std.specs.Prelude.{filter}
use Rattle.bc_discs.specs.declared.candidate.Candidate.{Candidate}
use Rattle.bc_discs.specs.Candidates.{Region, IsKept}
use Rattle.bc_discs.proofs.Drops.{drop_law}
use Rattle.bc_discs.proofs.Found.{are_candidates}
use Rattle.bc_classify.specs.RegionParities.{told, IsParityAt}
use Rattle.bc_classify.proofs.Walks.{zip_length}
use Rattle.bc_formula.proofs.RegionCounts.{none_counted, counted_more}
use Rattle.bc_formula.proofs.part_counts.count_regions.Goals as goal

pub loop-r-init : goal.loop-r-init
loop-r-init c = (none_counted c.args.tile.now c.args.lines.now c.args.discs.now c.args.regions.now c.args.profile.now c.args.table.now, omega arith, omega arith)

pub get-requires-in-loop-r : goal.get-requires-in-loop-r
get-requires-in-loop-r c =
    omega (arith, c.loop-r-test.true, c.len-r-end.ensures, zip_length (λ (region : Region). IsParityAt c.args.profile.now c.args.table.now region.inner) c.args.regions.now c.in_ok-parities.parities c.in_ok-parities.ensures)

pub loop-r-preserved : goal.loop-r-preserved
loop-r-preserved c =
    let old = c.loop-r.invariant in
    let odd = c.odd_among-odd.ensures ∙ ap (λ cs. length (filter (λ (k : Candidate). told c.get-in-loop-r.result.now k.mask) cs)) c.as_slice.ensures in (
      counted_more c.args.tile.now c.args.lines.now c.args.discs.now c.args.regions.now c.args.profile.now c.args.table.now c.loop-r.r c.loop-r.parts c.loop-r.inside
          c.get.result.now c.in_ok-parities.parities c.get-in-loop-r.result.now c.in_ok-found.found c.len.result c.odd_among-odd.result
          c.get.ensures c.in_ok-parities.ensures c.get-in-loop-r.ensures c.in_ok-found.ensures c.len.ensures odd old.0,
      omega (arith, old.1, c.len.type_inv),
      omega (arith, old.2, c.odd_among-odd.type_inv),
    )

pub overflow_add-parts : goal.overflow_add-parts
overflow_add-parts c = omega (arith, c.loop-r.invariant.1, c.loop-r-test.true, c.len-r-end.type_inv, c.len.type_inv)

pub overflow_add-inside : goal.overflow_add-inside
overflow_add-inside c = omega (arith, c.loop-r.invariant.2, c.loop-r-test.true, c.len-r-end.type_inv, c.odd_among-odd.type_inv)

pub returns : goal.returns
returns c =
    let counted = c.loop-r.invariant.0 in (
      counted.all,
      are_candidates IsKept c.args.tile.now c.args.lines.now c.args.discs.now c.args.regions.now c.requires.cells
          (drop_law c.args.tile.now c.args.lines.now c.args.discs.now) c.loop-r.r counted.all (omega (arith, c.loop-r-test.false, c.len-r-end.ensures)) counted.of_regions,
      counted.parts_are,
      counted.inside_are,
    )
