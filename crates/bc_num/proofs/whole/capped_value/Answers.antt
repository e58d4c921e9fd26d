use Rattle.std.proofs.Common.{◌≡◌, ℕ, ◌+◌, ◌*◌, ◌-◌, ◌^◌, ◌<◌, min, List, ◌∷◌, length, get_or, sym, ◌∙◌, ap, arith, drop, drop-cons, add-one}
use Rattle.bc_num.specs.Numbers.{value}
use Rattle.bc_num.proofs.Capped.{value-capped}
use Rattle.bc_num.proofs.whole.capped_value.Goals as goal

one : (i : ℕ) (bs : List ℕ) → i < length bs → drop i bs ≡ get_or bs i 0 ∷ drop (i + 1) bs
one i bs h = rw (add-one, drop-cons bs i 0)

pub loop-b-preserved : goal.loop-b-preserved
loop-b-preserved c =
    let i = c.loop-b.b-index in
    let bs = c.args.digits.now in
    record {
      small = omega arith;
      rest =
          value-capped (2 ^ 62) c.with_digit-size.result (10 * c.loop-b.size + (get_or bs i 0 - 48)) (drop (i + 1) bs) c.with_digit-size.ensures
          ∙ ap (λ (rest : List ℕ). min (2 ^ 62) (value c.loop-b.size rest)) (sym (one i bs c.loop-b-test.true))
          ∙ c.loop-b.invariant.rest;
    }
