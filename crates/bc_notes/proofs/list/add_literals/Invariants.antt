use Rattle.std.proofs.Common.{◌≡◌, List, map, length}
use Rattle.bc_cover.specs.Masks.{places_below}
use Rattle.bc_tree.specs.declared.product.Product.{Product}
use Rattle.bc_notes.specs.declared.shown.Shown.{Shown}
use Rattle.bc_notes.specs.declared.sign.Sign.{Sign}
use Rattle.bc_notes.specs.Noted.{noted_literals}
use Rattle.bc_notes.specs.Chosen.{IsNoteOf, AddsNotes}
use Rattle.bc_notes.specs.Bests.{literal_of, word_of, AreOuts}
use Rattle.bc_notes.proofs.list.add_literals.Given as goal

abbrev pub invariant-loop-i : goal.invariant-loop-i
invariant-loop-i l = record {
  count : l.k ≡ length (places_below l.i l.word);
  added : (inside outside : List Shown) (products : List Product) (p : Product) (sign : Sign) → l.word ≡ word_of sign p → AreOuts sign p outside l.bests → AddsNotes (IsNoteOf inside outside products) (noted_literals l.first p (map (literal_of sign) (places_below l.i l.word))) l.initial.notes.items l.notes.items;
}
