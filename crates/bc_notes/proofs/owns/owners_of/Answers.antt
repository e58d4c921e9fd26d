use Rattle.std.proofs.Common.{◌≡◌, ◌<◌, ◌+◌, ◌∷◌, [], ℕ, List, Option, length, get_or, sym, ap, ◌∙◌, subst, arith}
use Rattle.std.proofs.lemmas.List.{length-append}
use Rattle.bc_notes.specs.declared.shown.Shown.{Shown}
use Rattle.bc_notes.specs.Bests.{IsOwnerShown}
use Rattle.bc_notes.proofs.Holders.{owners_push}
use Rattle.bc_notes.proofs.owns.owners_of.Goals as goal

pub loop-m-preserved : goal.loop-m-preserved
loop-m-preserved c =
    let products = c.args.products.now in
    let inside = c.args.inside.now in
    let len : length c.loop-m.owners.items ≡ c.loop-m.m-index = c.loop-m.invariant.len in
    let more : length c.push.new.self.items ≡ length c.loop-m.owners.items + 1 = ap length c.in_ok-push.ensures.items ∙ length-append c.loop-m.owners.items (c.owner_shown.result ∷ []) in
    record {
      len = omega (arith, len, more);
      each = subst (λ (os : List (Option ℕ)). (k : ℕ) (x : Shown) (y : Option ℕ) → k < c.loop-m.m-index + 1 → IsOwnerShown products (get_or inside k x) (get_or os k y)) (sym c.in_ok-push.ensures.items)
          (owners_push products inside c.loop-m.owners.items c.loop-m.m-index c.owner_shown.result c.m-item.result c.loop-m-test.true c.m-item.is len c.owner_shown.ensures c.loop-m.invariant.each);
    }
