use Rattle.std.proofs.Common.{◌≡◌, ◌≤◌, Bool, true, false, length, get_or, sym, ◌∙◌, arith}
use Rattle.std.proofs.lemmas.Option.{slice_get-get_or}
use Rattle.bc_notes.proofs.Holders.{no_product, holders_kept, holders_first, holders_end, no_owner}
use Rattle.bc_notes.proofs.owns.owner_of.Goals as goal
use Rattle.bc_notes.proofs.owns.owner_of.Goals.{then-is_admitted+else-is_some, else-is_admitted}

pub returns-then-is_some : goal.returns-then-is_some
returns-then-is_some c =
    let products = c.args.products.now in
    let i = c.loop-i.i in
    no_owner products c.args.mask i (get_or products i no_product) (slice_get-get_or products i no_product c.loop-i-test.true) c.loop-i.owner
    (sym c.is_some.ensures ∙ c.if-is_some.true) (sym c.is_admitted.ensures ∙ c.if-is_admitted.true) c.loop-i.invariant

pub loop-i-preserved : goal.loop-i-preserved
loop-i-preserved c =
    let products = c.args.products.now in
    let i = c.loop-i.i in
    let p = get_or products i no_product in
    let at = slice_get-get_or products i no_product c.loop-i-test.true in
    elim c.if-is_admitted.branch [
      | then-is_admitted+else-is_some w ↦
          rw w.owner-is
          (holders_first products c.args.mask i p at c.loop-i.owner (sym w.is_some.ensures ∙ w.if-is_some.false) (sym c.is_admitted.ensures ∙ w.if-is_admitted.true) c.loop-i.invariant)
      | else-is_admitted w ↦ rw w.owner-is (holders_kept products c.args.mask i p at c.loop-i.owner (λ holds. clash (c.is_admitted.ensures ∙ holds) w.if-is_admitted.false) c.loop-i.invariant)
    ]
  where
    clash : {b : Bool} → b ≡ true → b ≡ false → ⊥
    clash e f = cc

pub returns : goal.returns
returns c =
    let end : c.loop-i.i ≤ length c.args.products.now = c.loop-i.auto.i-end in
    let all : c.loop-i.i ≡ length c.args.products.now = omega (arith, end, c.loop-i-test.false) in
    holders_end c.args.products.now c.args.mask c.loop-i.i c.loop-i.owner all c.loop-i.invariant
