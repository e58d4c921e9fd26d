use Rattle.std.proofs.Common.{◌≡◌, ◌+◌, ◌*◌, ◌++◌, true, false, sym, ap, ◌∙◌, subst}
use Rattle.std.proofs.lemmas.List.{append_assoc}
use Rattle.std.specs.Prelude.{All}
use Rattle.bc_space.specs.Discs.{IsSizedDisc}
use Rattle.bc_discs.specs.declared.choice.Choice.{Choice}
use Rattle.bc_discs.specs.Rules.{choices_of}
use Rattle.bc_discs.specs.Sieves.{Fires, FiresFirst, AreListed}
use Rattle.bc_discs.proofs.Sized.{sized_choices}
use Rattle.bc_discs.proofs.KeptSets.{listed_first, listed_both}
use Rattle.bc_discs.proofs.sieve.add_both.Goals as goal

pub add_set-requires-clause-discs : goal.add_set-requires-clause-discs
add_set-requires-clause-discs c = subst (λ choices. All (λ z. IsSizedDisc z.disc) choices) (sym (c.as_slice.ensures ∙ c.in_ok-choices.ensures)) (sized_choices c.args.set c.args.rest.now c.requires.rest_sized)

pub add_set-requires-2-clause-discs : goal.add_set-requires-2-clause-discs
add_set-requires-2-clause-discs c = subst (λ choices. All (λ z. IsSizedDisc z.disc) choices) (sym (c.as_slice-2.ensures ∙ c.in_ok-choices.ensures)) (sized_choices c.args.set c.args.rest.now c.requires.rest_sized)

pub returns : goal.returns
returns c =
    let d = c.args.disc.now in
    let left : Choice = record { disc = d; is_in = false } in
    let taken : Choice = record { disc = d; is_in = true } in
    let a = c.in_ok-add_set.ensures in
    let b = c.in_ok-add_set-2.ensures in
    let e : c.as_slice.result.now ≡ choices_of c.args.set c.args.rest.now = c.as_slice.ensures ∙ c.in_ok-choices.ensures in
    let f : c.as_slice-2.result.now ≡ choices_of c.args.set c.args.rest.now = c.as_slice-2.ensures ∙ c.in_ok-choices.ensures in
    let x = subst (λ cs. AreListed (λ _. FiresFirst c.args.sieve c.args.corners.now c.args.walls.now left cs → ⊥) (λ n. n ≡ 2 * c.args.set) a.0) e a.2 in
    let y = subst (λ cs. AreListed (λ _. FiresFirst c.args.sieve c.args.corners.now c.args.walls.now taken cs → ⊥) (λ n. n ≡ 2 * c.args.set + 1) b.0) f b.2 in (
      a.0 ++ b.0,
      b.1 ∙ ap (λ xs. xs ++ b.0) a.1 ∙ append_assoc c.args.sets.now a.0 b.0,
      λ kept.
          listed_both (Fires c.args.sieve c.args.corners.now c.args.walls.now) d c.args.rest.now c.args.set a.0 b.0
          (listed_first c.args.sieve c.args.corners.now c.args.walls.now left (choices_of c.args.set c.args.rest.now) (λ n. n ≡ 2 * c.args.set) a.0 kept x)
          (listed_first c.args.sieve c.args.corners.now c.args.walls.now taken (choices_of c.args.set c.args.rest.now) (λ n. n ≡ 2 * c.args.set + 1) b.0 kept y),
    )
