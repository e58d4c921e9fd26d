use Rattle.std.proofs.Common.{◌≡◌, ◌+◌, ◌∷◌, [], length, map, refl, sym, subst, arith}
use Rattle.bc_cover.specs.Masks.{places_below}
use Rattle.bc_cover.specs.Covers.{positive, negative}
use Rattle.bc_tree.specs.Cuts.{product_of}
use Rattle.bc_text.specs.declared.note.Note.{Note}
use Rattle.bc_notes.specs.declared.sign.Sign.TheVariants.{Positive, Negative}
use Rattle.bc_notes.specs.Noted.{the_product, Noted, noted_literals}
use Rattle.bc_notes.specs.Chosen.{IsNoteOf, AddsNotes}
use Rattle.bc_notes.specs.Bests.{AreOuts}
use Rattle.bc_notes.proofs.Adding.{adds_more, bits_few, literals_parts, literals_count}
use Rattle.bc_notes.proofs.list.add_term.Goals as goal

pub returns-clause-added : goal.returns-clause-added
returns-clause-added c = λ inside products i own.
    let t = c.args.t.now in
    let outside = c.args.outside.now.all.now in
    let R = IsNoteOf inside outside products in
    let e : Noted = record { place = c.args.place; subject = the_product i (product_of t) } in
    let x : Note = record { place = c.args.place; mark = c.mark_own.result } in
    let pos = noted_literals (c.args.place + 3) (product_of t) (map positive (places_below c.args.n t.pos)) in
    let neg = noted_literals (c.args.place + 3 + length (places_below c.args.n t.pos)) (product_of t) (map negative (places_below c.args.n t.neg)) in
    let first : AddsNotes R (e ∷ []) c.args.notes.now.items c.push.new.self.items =
    record { more = x ∷ []; is = c.in_ok-push.ensures.items; each = (record { at = refl; says = (c.args.own, own, c.mark_own.ensures) }, tt) } in
    let second : AddsNotes R pos c.push.new.self.items c.add_literals.new.notes.items =
    c.in_ok-p.ensures.added inside outside products (product_of t) Positive refl (subst (AreOuts Positive (product_of t) outside) (sym c.deref.ensures.value) c.in_ok-outs.ensures.positive) in
    let third : AddsNotes R neg c.add_literals.new.notes.items c.add_literals-2.new.notes.items =
    subst (λ k. AddsNotes R (noted_literals (c.args.place + 3 + k) (product_of t) (map negative (places_below c.args.n t.neg))) c.add_literals.new.notes.items c.add_literals-2.new.notes.items) c.in_ok-p.ensures.count
    (c.in_ok-q.ensures.added inside outside products (product_of t) Negative refl (subst (AreOuts Negative (product_of t) outside) (sym c.deref-2.ensures.value) c.in_ok-outs.ensures.negative)) in
    subst (λ es. AddsNotes R (e ∷ es) c.args.notes.now.items c.add_literals-2.new.notes.items) (sym (literals_parts (c.args.place + 3) c.args.n (product_of t)))
    (adds_more R (e ∷ pos) neg c.args.notes.now.items c.add_literals.new.notes.items c.add_literals-2.new.notes.items
    (adds_more R (e ∷ []) pos c.args.notes.now.items c.push.new.self.items c.add_literals.new.notes.items first second) third)

pub returns-clause-next : goal.returns-clause-next
returns-clause-next c =
    let t = c.args.t.now in
    let p : c.in_ok-p.p ≡ length (places_below c.args.n c.args.t.now.pos) = c.in_ok-p.ensures.count in
    let q : c.in_ok-q.q ≡ length (places_below c.args.n c.args.t.now.neg) = c.in_ok-q.ensures.count in
    let all = literals_count c.args.n (product_of t) in
    omega (arith, p, q, all)

pub returns-clause-soon : goal.returns-clause-soon
returns-clause-soon c =
    let p : c.in_ok-p.p ≡ length (places_below c.args.n c.args.t.now.pos) = c.in_ok-p.ensures.count in
    let q : c.in_ok-q.q ≡ length (places_below c.args.n c.args.t.now.neg) = c.in_ok-q.ensures.count in
    let few = bits_few c.args.t.now.pos c.args.n in
    let few_more = bits_few c.args.t.now.neg c.args.n in
    omega (arith, p, q, few, few_more, c.requires.few)
