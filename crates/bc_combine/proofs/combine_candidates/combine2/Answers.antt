use Rattle.std.proofs.Common.{◌≡◌, ◌<◌, Bool, length, get_or, ap, ◌∙◌, sym, subst, arith}
use Rattle.bc_discs.specs.Candidates.{Region}
use Rattle.bc_discs.specs.declared.candidate.Candidate.{Candidate}
use Rattle.bc_classify.specs.OddMasks.{is_odd_candidate}
use Rattle.bc_classify.specs.RegionParities.{IsParityAt}
use Rattle.bc_classify.specs.Splits.{marked}
use Rattle.bc_classify.proofs.Walks.{zip_length, told_is}
use Rattle.bc_combine.specs.Combined.{is_true_of, is_chosen}
use Rattle.bc_combine.proofs.Lists.{one_inside, one_outside}
use Rattle.bc_combine.proofs.combine_candidates.combine2.Goals as goal
use Rattle.bc_combine.proofs.combine_candidates.combine2.Goals.{then-is_true+in_ok-push, else-is_true+in_ok-push-2}

pub get-requires : goal.get-requires
get-requires c =
    let i = c.loop-candidate.candidate-index in
    let k = c.candidate-item.result in
    let within : i < length c.args.all.now = omega (arith, ap length c.as_slice-candidate-items.ensures) in
    let at : k ≡ get_or c.args.all.now i k = c.candidate-item.is ∙ ap (λ cs. get_or cs i k) c.as_slice-candidate-items.ensures in
    let placed : k.region < length c.args.regions.now = subst (λ (z : Candidate). z.region < length c.args.regions.now) (sym at) (c.requires.places i k within) in
    omega (arith, zip_length (λ (region : Region). IsParityAt c.args.a.now c.args.c.now region.inner) c.args.regions.now c.in_ok-of_first.of_first c.in_ok-of_first.ensures)

pub get-requires-in-loop-candidate : goal.get-requires-in-loop-candidate
get-requires-in-loop-candidate c =
    let i = c.loop-candidate.candidate-index in
    let k = c.candidate-item.result in
    let within : i < length c.args.all.now = omega (arith, ap length c.as_slice-candidate-items.ensures) in
    let at : k ≡ get_or c.args.all.now i k = c.candidate-item.is ∙ ap (λ cs. get_or cs i k) c.as_slice-candidate-items.ensures in
    let placed : k.region < length c.args.regions.now = subst (λ (z : Candidate). z.region < length c.args.regions.now) (sym at) (c.requires.places i k within) in
    omega (arith, zip_length (λ (region : Region). IsParityAt c.args.b.now c.args.c.now region.inner) c.args.regions.now c.in_ok-of_second.of_second c.in_ok-of_second.ensures)

pub loop-candidate-preserved : goal.loop-candidate-preserved
loop-candidate-preserved c =
    let i = c.loop-candidate.candidate-index in
    let k = c.candidate-item.result in
    let a = c.args.a.now in
    let b = c.args.b.now in
    let t = c.args.c.now in
    let regions = c.args.regions.now in
    let within : i < length c.args.all.now = omega (arith, ap length c.as_slice-candidate-items.ensures) in
    let at : k ≡ get_or c.args.all.now i k = c.candidate-item.is ∙ ap (λ cs. get_or cs i k) c.as_slice-candidate-items.ensures in
    let first : c.is_odd-first.result ≡ is_odd_candidate a t regions k =
    told_is a t regions c.in_ok-of_first.of_first k c.get.result.now c.is_odd-first.result c.in_ok-of_first.ensures c.get.ensures c.is_odd-first.ensures in
    let second : c.is_odd-second.result ≡ is_odd_candidate b t regions k =
    told_is b t regions c.in_ok-of_second.of_second k c.get-in-loop-candidate.result.now c.is_odd-second.result c.in_ok-of_second.ensures c.get-in-loop-candidate.ensures c.is_odd-second.ensures in
    let chosen : c.is_true.result ≡ is_chosen c.args.op a b t regions k =
    c.is_true.ensures ∙ ap (λ (x : Bool). is_true_of c.args.op x c.is_odd-second.result) first ∙ ap (is_true_of c.args.op (is_odd_candidate a t regions k)) second in
    elim c.if-is_true.branch [
      | then-is_true+in_ok-push w ↦
          one_inside marked (is_chosen c.args.op a b t regions) c.args.all.now i k within at c.loop-candidate.inside c.loop-candidate.outside c.if-is_true.inside c.if-is_true.outside
          c.loop-candidate.invariant (sym chosen ∙ w.if-is_true.true) (w.inside-is ∙ w.in_ok-push.ensures.ok) w.outside-is
      | else-is_true+in_ok-push-2 w ↦
          one_outside marked (is_chosen c.args.op a b t regions) c.args.all.now i k within at c.loop-candidate.inside c.loop-candidate.outside c.if-is_true.inside c.if-is_true.outside
          c.loop-candidate.invariant (sym chosen ∙ w.if-is_true.false) w.inside-is (w.outside-is ∙ w.in_ok-push-2.ensures.ok)
    ]
