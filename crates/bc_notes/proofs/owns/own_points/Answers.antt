use Rattle.std.proofs.Common.{◌≡◌, ◌<◌, ◌+◌, Some, List, length, take, sym, ◌∙◌, subst, arith}
use Rattle.std.proofs.lemmas.List.Elements.{All-contains_itself}
use Rattle.bc_tree.specs.declared.product.Product.{Product}
use Rattle.bc_notes.specs.declared.shown.Shown.{Shown}
use Rattle.bc_notes.specs.Products.{products_of}
use Rattle.bc_notes.specs.Chosen.{IsAlone, IsChosen}
use Rattle.bc_notes.specs.Bests.{IsSpotOf, AreSteps, IsOwnerShown, AreOwners}
use Rattle.bc_notes.proofs.Choosing.{IsBest, best_start, best_step, best_all}
use Rattle.bc_notes.proofs.Stepping.{all_as, all_step}
use Rattle.bc_notes.proofs.Holders.{owner_at, owner_within, products_len, step_owned}
use Rattle.bc_notes.proofs.owns.own_points.Goals as goal

pub loop-k-init : goal.loop-k-init
loop-k-init c =
    let products = products_of c.args.terms.now in
    let inside = c.args.inside.now in
    let owners : AreOwners (products_of c.args.terms.now) c.args.inside.now c.in_ok-owners.owners.items =
    subst (λ (ps : List Product). AreOwners ps c.args.inside.now c.in_ok-owners.owners.items) (c.deref.ensures.value ∙ c.in_ok-products.ensures) c.in_ok-owners.ensures in
    let lent : AreOwners (products_of c.args.terms.now) c.args.inside.now c.deref-2.result.now = subst (AreOwners products inside) (sym c.deref-2.ensures.value) owners in
    record {
      len = c.in_ok-bests.ensures.len;
      each = all_as (λ i spot. IsSpotOf (IsAlone products i) inside spot) (λ i spot. IsBest (IsAlone products i) inside (take 0 inside) spot) c.in_ok-bests.bests.items
          (λ i spot h. best_start (IsAlone products i) inside inside spot h)
          (c.in_ok-bests.ensures.each products lent);
    }

pub improve_owner-requires : goal.improve_owner-requires
improve_owner-requires c =
    let products = products_of c.args.terms.now in
    let owners : AreOwners (products_of c.args.terms.now) c.args.inside.now c.in_ok-owners.owners.items =
    subst (λ (ps : List Product). AreOwners ps c.args.inside.now c.in_ok-owners.owners.items) (c.deref.ensures.value ∙ c.in_ok-products.ensures) c.in_ok-owners.ensures in
    let m = c.index-inside-k.result in
    owner_within products m c.index.result.now (length c.loop-k.bests.items) (products_len c.args.terms.now ∙ sym c.loop-k.invariant.len)
    (owner_at products c.args.inside.now c.in_ok-owners.owners.items owners c.loop-k.k m c.loop-k-test.true c.index-inside-k.is c.index.result.now c.index.ensures)

pub loop-k-preserved : goal.loop-k-preserved
loop-k-preserved c =
    let products = products_of c.args.terms.now in
    let inside = c.args.inside.now in
    let owners : AreOwners (products_of c.args.terms.now) c.args.inside.now c.in_ok-owners.owners.items =
    subst (λ (ps : List Product). AreOwners ps c.args.inside.now c.in_ok-owners.owners.items) (c.deref.ensures.value ∙ c.in_ok-products.ensures) c.in_ok-owners.ensures in
    let m = c.index-inside-k.result in
    let owner = c.index.result.now in
    let of : IsOwnerShown (products_of c.args.terms.now) c.index-inside-k.result c.index.result.now = owner_at products inside c.in_ok-owners.owners.items owners c.loop-k.k m c.loop-k-test.true c.index-inside-k.is owner c.index.ensures in
    let len : length c.loop-k.bests.items ≡ length c.args.terms.now = c.loop-k.invariant.len in
    let same : length c.improve_owner.new.bests.items ≡ length c.loop-k.bests.items = c.improve_owner.ensures.len in
    let count = products_len c.args.terms.now in
    let steps = subst (λ (s : Shown). AreSteps (λ i. c.index.result.now ≡ Some i) s.spot c.loop-k.bests.items c.improve_owner.new.bests.items) (sym c.index-inside-k.is) c.improve_owner.ensures.each in
    record {
      len = same ∙ len;
      each = all_step (λ i spot. IsBest (IsAlone products i) inside (take c.loop-k.k inside) spot) (λ i spot. IsBest (IsAlone products i) inside (take (c.loop-k.k + 1) inside) spot) (λ i. owner ≡ Some i) m.spot c.loop-k.bests.items c.improve_owner.new.bests.items same
          (λ i a b l step h.
          let within : i < length (products_of c.args.terms.now) = omega (arith, l, len, count) in
          best_step (IsAlone products i) inside inside (All-contains_itself inside) c.loop-k.k m c.loop-k-test.true c.index-inside-k.is a b (step_owned products m owner i a b within of step) h)
          steps c.loop-k.invariant.each;
    }

pub returns-clause-each : goal.returns-clause-each
returns-clause-each c =
    let products = products_of c.args.terms.now in
    let inside = c.args.inside.now in
    all_as (λ i spot. IsBest (IsAlone products i) inside (take c.loop-k.k inside) spot) (λ i spot. IsChosen (IsAlone products i) inside spot) c.loop-k.bests.items
    (λ i spot h. best_all (IsAlone products i) inside spot c.loop-k.k c.loop-k-test.false h)
    c.loop-k.invariant.each
