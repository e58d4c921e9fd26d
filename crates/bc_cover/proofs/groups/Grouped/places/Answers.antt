use Rattle.std.proofs.Common.{ℕ, ◌≡◌, List, ap, arith, subst, get_or, length}
use Rattle.bc_cover.specs.declared.groups.Group.{Group}
use Rattle.bc_cover.specs.Groups.{held_below}
use Rattle.bc_cover.proofs.PlaceFacts.{group_at, groups_done, places_skipped, places_within_list}
use Rattle.bc_cover.proofs.groups.Grouped.places.Goals as goal
use Rattle.bc_cover.proofs.groups.Grouped.places.Goals.{then-may_hold+in_ok-add_places, else-may_hold}

pub loop-group-preserved : goal.loop-group-preserved
loop-group-preserved c =
    let none : Group = record { end = 0; mask = 0; alike = 0 } in
    let masks : List ℕ = c.args.self.now.masks.now in
    let at = group_at masks c.loop-group.start (length masks) c.loop-group.group-index c.args.self.now.groups.items c.deref-group-items.result.now none c.deref-group-items.ensures.value c.loop-group-test.true c.loop-group.invariant.groups in
    elim c.if-may_hold.branch [
      | then-may_hold+in_ok-add_places w ↦ rw w.places-is record { groups = at.1; places = w.in_ok-add_places.ensures }
      | else-may_hold w ↦ rw w.places-is record {
        groups = at.1;
        places = places_skipped masks c.loop-group.start (get_or c.deref-group-items.result.now c.loop-group.group-index none) c.args.pos c.args.neg c.may_hold.result c.loop-group.places.items at.0 w.if-may_hold.false c.may_hold.ensures c.loop-group.invariant.places;
      }
    ]

pub returns-clause-within : goal.returns-clause-within
returns-clause-within c =
    let masks : List ℕ = c.args.self.now.masks.now in
    let done : c.loop-group.start ≡ length masks = groups_done masks c.loop-group.start (length masks) c.loop-group.group-index c.args.self.now.groups.items (omega (arith, c.loop-group-test.false, ap length c.deref-group-items.ensures.value)) c.loop-group.invariant.groups in
    let P : ℕ → Type 0 = λ e. c.loop-group.places.items ≡ held_below masks c.args.pos c.args.neg e in
    places_within_list masks c.loop-group.places.items c.args.pos c.args.neg (subst P done c.loop-group.invariant.places)

pub returns-clause-held : goal.returns-clause-held
returns-clause-held c =
    let masks : List ℕ = c.args.self.now.masks.now in
    let done : c.loop-group.start ≡ length masks = groups_done masks c.loop-group.start (length masks) c.loop-group.group-index c.args.self.now.groups.items (omega (arith, c.loop-group-test.false, ap length c.deref-group-items.ensures.value)) c.loop-group.invariant.groups in
    let P : ℕ → Type 0 = λ e. c.loop-group.places.items ≡ held_below masks c.args.pos c.args.neg e in
    subst P done c.loop-group.invariant.places
