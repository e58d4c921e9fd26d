use Rattle.std.proofs.Common.{◌≡◌, ◌<◌, ◌+◌, ◌∷◌, [], Bool, true, false, length, get_or, map, sym, ap, ◌∙◌, subst, arith}
use Rattle.std.specs.Int.{bit_at}
use Rattle.std.proofs.lemmas.List.{length-append}
use Rattle.bc_cover.specs.Masks.{places_below}
use Rattle.bc_text.specs.declared.note.Note.{Note}
use Rattle.bc_notes.specs.Noted.{the_literal, Noted, noted_literals}
use Rattle.bc_notes.specs.Chosen.{IsNoteOf, AddsNotes}
use Rattle.bc_notes.specs.Bests.{literal_of}
use Rattle.bc_notes.proofs.Adding.{adds_one, bits_yes, bits_no, bits_few, literals_push}
use Rattle.bc_notes.proofs.list.add_literals.Goals as goal
use Rattle.bc_notes.proofs.list.add_literals.Goals.{then-has_bit+in_ok-push, else-has_bit}

pub overflow_add-k : goal.overflow_add-k
overflow_add-k c =
    let few = bits_few c.args.word c.loop-i.i in
    let count : c.loop-i.k ≡ length (places_below c.loop-i.i c.args.word) = c.loop-i.invariant.count in
    omega (arith, few, count, c.requires.few, c.loop-i-test.true)

pub loop-i-preserved : goal.loop-i-preserved
loop-i-preserved c =
    let word = c.args.word in
    let i = c.loop-i.i in
    let old : c.loop-i.k ≡ length (places_below c.loop-i.i c.args.word) = c.loop-i.invariant.count in
    elim c.if-has_bit.branch [
      | then-has_bit+in_ok-push w ↦
          let one : bit_at c.args.word c.loop-i.i ≡ 1 = c.has_bit.ensures.0 w.if-has_bit.true in
          let within : c.loop-i.i < length c.args.bests.now = let len : length c.args.bests.now ≡ c.args.n = c.requires.len in omega (arith, len, c.loop-i-test.true) in
          let x : Note = record { place = c.args.first + c.loop-i.k; mark = w.mark_out.result } in
          let more : length (places_below (c.loop-i.i + 1) c.args.word) ≡ length (places_below c.loop-i.i c.args.word) + 1 = ap length (bits_yes word i one) ∙ length-append (places_below i word) (i ∷ []) in
          rw (w.k-is, w.notes-is) record {
            count = omega (arith, old, more);
            added = λ inside outside products p sign is outs.
                let R = IsNoteOf inside outside products in
                let make = literal_of sign in
                let e : Noted = record { place = c.args.first + length (places_below i word); subject = the_literal p (make i) } in
                let best = get_or c.args.bests.now i w.index-bests-i.result in
                let chosen = outs i w.index-bests-i.result within (subst (λ v. bit_at v c.loop-i.i ≡ 1) is one) in
                subst (λ es. AddsNotes R es c.args.notes.now.items w.push.new.self.items) (sym (literals_push c.args.first p make word i one))
                (adds_one R (noted_literals c.args.first p (map make (places_below i word))) e x c.args.notes.now.items c.loop-i.notes.items w.push.new.self.items
                (c.loop-i.invariant.added inside outside products p sign is outs) w.in_ok-push.ensures.items
                (record { at = ap (λ k. c.args.first + k) old; says = (best.spot, chosen, w.mark_out.ensures) }));
          }
      | else-has_bit w ↦
          let same = bits_no word i (λ h. clash (c.has_bit.ensures.1 h) w.if-has_bit.false) in
          rw (w.k-is, w.notes-is) record {
            count = old ∙ ap length (sym same);
            added = λ inside outside products p sign is outs.
                subst (λ ps. AddsNotes (IsNoteOf inside outside products) (noted_literals c.args.first p (map (literal_of sign) ps)) c.args.notes.now.items c.loop-i.notes.items) (sym same) (c.loop-i.invariant.added inside outside products p sign is outs);
          }
    ]
  where
    clash : {b : Bool} → b ≡ true → b ≡ false → ⊥
    clash e f = cc
