use Rattle.std.proofs.Common.{◌≡◌, ◌≤◌, ◌+◌, ◌*◌, [], take}
use Rattle.bc_notes.specs.Products.{products_of}
use Rattle.bc_notes.specs.Noted.{noted_products}
use Rattle.bc_notes.specs.Chosen.{IsNoteOf, AddsNotes}
use Rattle.bc_notes.proofs.Adding.{next}
use Rattle.bc_notes.proofs.list.notes_of.Given as goal

abbrev pub invariant-loop-i : goal.invariant-loop-i
invariant-loop-i l = record {
  place : l.place ≡ next l.n 1 (take l.i (products_of l.terms));
  early : l.place ≤ 1 + 131 * l.i;
  added : AddsNotes (IsNoteOf l.inside l.outside (products_of l.terms)) (noted_products l.n 1 0 (take l.i (products_of l.terms))) [] l.notes.items;
}
