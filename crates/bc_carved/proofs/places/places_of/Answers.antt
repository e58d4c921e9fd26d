use Rattle.std.proofs.Common.{◌≡◌, ◌++◌, ◌∷◌, [], Some, length, ℕ, sym, ap, ◌∙◌, subst, arith, Option, List}
use Rattle.bc_carve.specs.Shape.{Shapes as Pieces}
use Rattle.bc_carved.specs.Laws.{ArePlaces}
use Rattle.bc_carved.proofs.Placing.{only_one, lone_placed, all_placed}
use Rattle.bc_carved.proofs.places.places_of.Goals as goal

pub returns-in_ok-add_inner-in-len1 : goal.returns-in_ok-add_inner-in-len1
returns-in_ok-add_inner-in-len1 c =
    let one : length c.args.pieces.now ≡ 1 = omega (arith, c.in-len1.len_at_least, c.in-len1.len_below) in
    let short = c.add_inner.new.places.ok in
    subst (λ (ss : Pieces). ArePlaces ss c.add_inner.new.places.items) (sym (only_one c.args.pieces.now c.piece-item.result one c.piece-item.is))
    (lone_placed _ c.push.new.self.items _ c.in_ok-add_inner-in-len1.field-0
    (c.in_ok-push-in-len1.ensures.items ∙ ap (λ (ps : List (Option ℕ)). ps ++ Some 0 ∷ []) c.new-places.ensures.items) c.in_ok-add_inner-in-len1.ensures.added (omega (arith, c.in_ok-add_inner-in-len1.ensures.soon, short.0, c.add_inner.new.places.small)))

pub returns-in_ok-add_pieces-in_default : goal.returns-in_ok-add_pieces-in_default
returns-in_ok-add_pieces-in_default c =
    let short = c.add_pieces.new.places.ok in
    all_placed c.args.pieces.now c.new-places.result.items c.add_pieces.new.places.items c.in_ok-add_pieces-in_default.field-0 c.in_default.len_at_least c.new-places.ensures.items c.in_ok-add_pieces-in_default.ensures.added
    (omega (arith, c.in_ok-add_pieces-in_default.ensures.soon, short.0, c.add_pieces.new.places.small))
