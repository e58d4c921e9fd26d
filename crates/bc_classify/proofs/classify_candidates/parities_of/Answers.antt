use Rattle.std.proofs.Common.{◌≡◌, ◌<◌, ◌+◌, take, length, get_or, ap, ◌∙◌, sym, subst, arith}
use Rattle.std.specs.List.{AllZip}
use Rattle.bc_discs.specs.Candidates.{Region}
use Rattle.bc_classify.specs.RegionParities.{IsParityAt}
use Rattle.bc_classify.proofs.Walks.{zip_more}
use Rattle.bc_classify.proofs.classify_candidates.parities_of.Goals as goal

pub loop-region-preserved : goal.loop-region-preserved
loop-region-preserved c =
    let i = c.loop-region.region-index in
    let within : i < length c.args.regions.now = omega (arith, ap length c.as_slice-region-items.ensures) in
    let at : c.region-item.result ≡ get_or c.args.regions.now i c.region-item.result = c.region-item.is ∙ ap (λ rs. get_or rs i c.region-item.result) c.as_slice-region-items.ensures in
    subst (AllZip (λ (region : Region). IsParityAt c.args.s.now c.args.c.now region.inner) (take (i + 1) c.args.regions.now)) (sym c.in_ok-push.ensures.ok)
    (zip_more (λ (region : Region). IsParityAt c.args.s.now c.args.c.now region.inner) c.args.regions.now c.loop-region.parities i c.region-item.result c.at.result within at c.loop-region.invariant c.at.ensures)
