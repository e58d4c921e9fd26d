use Rattle.std.proofs.Common.{◌≡◌, ◌+◌, ◌∷◌, [], ℕ, Option, length, sym, ap, ◌∙◌, subst, arith}
use Rattle.std.proofs.lemmas.List.{length-append}
use Rattle.bc_text.specs.declared.note.Spot.{Spot}
use Rattle.bc_notes.specs.Chosen.{IsAlone}
use Rattle.bc_notes.specs.Bests.{IsSpotOf, AllAt}
use Rattle.bc_notes.proofs.Stepping.{all_push}
use Rattle.bc_notes.proofs.owns.named_owns.Goals as goal

pub loop-i-preserved : goal.loop-i-preserved
loop-i-preserved c =
    let inside = c.args.inside.now in
    let bests = c.loop-i.bests.items in
    let len : length c.loop-i.bests.items ≡ c.loop-i.i = c.loop-i.invariant.len in
    let more : length c.push.new.self.items ≡ length c.loop-i.bests.items + 1 = ap length c.in_ok-push.ensures.items ∙ length-append c.loop-i.bests.items (c.new.result ∷ []) in
    record {
      len = omega (arith, len, more);
      each = λ products owns.
          let P : ℕ → Option Spot → Type 0 = λ i spot. IsSpotOf (IsAlone products i) inside spot in
          let named : IsSpotOf (IsAlone products c.loop-i.i) inside c.named_own-named.result = c.named_own-named.ensures products owns in
          let new = subst (λ k. P k c.new.result.spot) (sym len) (subst (P c.loop-i.i) (sym c.new.ensures) named) in
          subst (AllAt P) (sym c.in_ok-push.ensures.items) (all_push P bests c.new.result (c.loop-i.invariant.each products owns) new);
    }
