use Rattle.std.proofs.Common.{◌≡◌, ◌<◌, length, get_or, ap, ◌∙◌, sym, subst, arith}
use Rattle.bc_discs.specs.Candidates.{Region}
use Rattle.bc_discs.specs.declared.candidate.Candidate.{Candidate}
use Rattle.bc_classify.specs.OddMasks.{is_odd_candidate}
use Rattle.bc_classify.specs.RegionParities.{IsParityAt}
use Rattle.bc_classify.proofs.Walks.{zip_length, told_is, put_inside, put_outside}
use Rattle.bc_classify.proofs.classify_candidates.classify2.Goals as goal
use Rattle.bc_classify.proofs.classify_candidates.classify2.Goals.{then-is_odd+in_ok-push, else-is_odd+in_ok-push-2}

pub get-requires : goal.get-requires
get-requires c =
    let i = c.loop-candidate.candidate-index in
    let k = c.candidate-item.result in
    let within : i < length c.args.all.now = omega (arith, ap length c.as_slice-candidate-items.ensures) in
    let at : k ≡ get_or c.args.all.now i k = c.candidate-item.is ∙ ap (λ cs. get_or cs i k) c.as_slice-candidate-items.ensures in
    let placed : k.region < length c.args.regions.now =
    subst (λ (z : Candidate). z.region < length c.args.regions.now) (sym at) (c.requires.places i k within) in
    omega (arith, zip_length (λ (region : Region). IsParityAt c.args.s.now c.args.c.now region.inner) c.args.regions.now c.in_ok-parities.parities c.in_ok-parities.ensures)

pub loop-candidate-preserved : goal.loop-candidate-preserved
loop-candidate-preserved c =
    let i = c.loop-candidate.candidate-index in
    let k = c.candidate-item.result in
    let within : i < length c.args.all.now = omega (arith, ap length c.as_slice-candidate-items.ensures) in
    let at : k ≡ get_or c.args.all.now i k = c.candidate-item.is ∙ ap (λ cs. get_or cs i k) c.as_slice-candidate-items.ensures in
    let told : c.is_odd.result ≡ is_odd_candidate c.args.s.now c.args.c.now c.args.regions.now k =
    told_is c.args.s.now c.args.c.now c.args.regions.now c.in_ok-parities.parities k c.get.result.now c.is_odd.result c.in_ok-parities.ensures c.get.ensures c.is_odd.ensures in
    elim c.if-is_odd.branch [
      | then-is_odd+in_ok-push w ↦
          put_inside c.args.s.now c.args.c.now c.args.regions.now c.args.all.now i k within at (record { inside = c.loop-candidate.inside; outside = c.loop-candidate.outside }) (record { inside = c.if-is_odd.inside; outside = c.if-is_odd.outside }) c.loop-candidate.invariant
          (sym told ∙ w.if-is_odd.true) (w.inside-is ∙ w.in_ok-push.ensures.ok) w.outside-is
      | else-is_odd+in_ok-push-2 w ↦
          put_outside c.args.s.now c.args.c.now c.args.regions.now c.args.all.now i k within at (record { inside = c.loop-candidate.inside; outside = c.loop-candidate.outside }) (record { inside = c.if-is_odd.inside; outside = c.if-is_odd.outside }) c.loop-candidate.invariant
          (sym told ∙ w.if-is_odd.false) w.inside-is (w.outside-is ∙ w.in_ok-push-2.ensures.ok)
    ]
