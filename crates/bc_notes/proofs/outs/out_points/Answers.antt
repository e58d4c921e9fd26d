use Rattle.std.proofs.Common.{◌≡◌, List, Vec, Global, get_or, sym, subst}
use Rattle.std.specs.Prelude.{IsSome}
use Rattle.std.specs.Int.{bit_at}
use Rattle.bc_tree.specs.declared.product.Product.{Product}
use Rattle.bc_tree.specs.Cuts.{product_of}
use Rattle.bc_notes.specs.declared.best.Best.{Best}
use Rattle.bc_notes.specs.declared.sign.Sign.TheVariants.{Positive, Negative}
use Rattle.bc_notes.specs.Bests.{AllAt, AreOuts, LetsIn, word_of}
use Rattle.bc_notes.proofs.Choosing.{found_chosen}
use Rattle.bc_notes.proofs.outs.out_points.Goals as goal
use Rattle.bc_notes.proofs.outs.out_points.Goals.{then-is_any_open, else-is_any_open+else-is_any_open-2}

pub returns-clause-positive : goal.returns-clause-positive
returns-clause-positive c =
    let p = product_of c.args.t.now in
    let all = c.args.outside.now.all.now in
    elim c.if-is_any_open.branch [
      | then-is_any_open w ↦ subst (λ (v : Vec Best Global). AreOuts Positive p all v.items) (sym w.positive-is) (subst (λ (q : Product). AreOuts Positive q all w.improve_all.new.positive.items) w.of.ensures w.improve_all.ensures.positive)
      | else-is_any_open+else-is_any_open-2 w ↦
          subst (λ (v : Vec Best Global). AreOuts Positive p all v.items) (sym w.positive-is)
          (λ i d l one.
          found_chosen (LetsIn p Positive i) all (get_or c.in_ok-positive.positive.items i d).spot
          (subst (λ (bests : List Best). AllAt (λ i spot. bit_at (word_of Positive p) i ≡ 1 → IsSome spot) bests) c.deref.ensures.value (c.is_any_open.ensures w.if-is_any_open.false) i d l one)
          (c.in_ok-positive.ensures.each i d l))
    ]

pub returns-clause-negative : goal.returns-clause-negative
returns-clause-negative c =
    let p = product_of c.args.t.now in
    let all = c.args.outside.now.all.now in
    elim c.if-is_any_open.branch [
      | then-is_any_open w ↦ subst (λ (v : Vec Best Global). AreOuts Negative p all v.items) (sym w.negative-is) (subst (λ (q : Product). AreOuts Negative q all w.improve_all.new.negative.items) w.of.ensures w.improve_all.ensures.negative)
      | else-is_any_open+else-is_any_open-2 w ↦
          subst (λ (v : Vec Best Global). AreOuts Negative p all v.items) (sym w.negative-is)
          (λ i d l one.
          found_chosen (LetsIn p Negative i) all (get_or c.in_ok-negative.negative.items i d).spot
          (subst (λ (bests : List Best). AllAt (λ i spot. bit_at (word_of Negative p) i ≡ 1 → IsSome spot) bests) w.deref-else-is_any_open.ensures.value (w.is_any_open-else-is_any_open.ensures w.if-is_any_open-2.false) i d l one)
          (c.in_ok-negative.ensures.each i d l))
    ]
