use Rattle.std.proofs.Common.{◌≡◌, ◌+◌, ◌*◌, ◌<◌, ◌≤◌, ◌^◌, ℕ, suc, ◌++◌, ◌∷◌, [], List, length, take, Some, refl, sym, ap, ◌∙◌, subst, arith, rules}
use Rattle.std.specs.Prelude.{slice_get}
use Rattle.std.specs.List.{AllZip}
use Rattle.std.proofs.Math.Seq.{take-suc}
use Rattle.std.proofs.lemmas.List.{take_all, length-take-le, length-map}
use Rattle.std.proofs.lemmas.Option.{slice_get_read, slice_get_within, get_or_from_slice_get}
use Rattle.bc_cover.specs.declared.term.Term.{Term}
use Rattle.bc_tree.specs.declared.product.Product.{Product}
use Rattle.bc_tree.specs.Cuts.{product_of}
use Rattle.bc_text.specs.declared.note.Note.{Note}
use Rattle.bc_notes.specs.Products.{literals_of, products_of}
use Rattle.bc_notes.specs.Noted.{Noted, noted, noted_product, noted_products}
use Rattle.bc_notes.specs.declared.best.Best.{Best}
use Rattle.bc_notes.specs.Chosen.{IsAlone, IsChosen, IsNoteOf, AddsNotes}
use Rattle.bc_notes.proofs.Adding.{adds_more, next, next_push, products_push, rise_products, lower_start, from_rise, below_rise}
use Rattle.bc_notes.proofs.Mapped.{product_at}
use Rattle.bc_notes.proofs.list.notes_of.Goals as goal

-- the notes of one product more
module _ (R : Noted → Note → Type 0) (bits : ℕ) (products : List Product) (i place : ℕ) (old new : List Note) (p : Product) (at : slice_get products i ≡ Some p) (is : place ≡ next bits 1 (take i products)) where
  within : i < length products
  within = slice_get_within products i p at

  taken : take (i + 1) products ≡ take i products ++ p ∷ []
  taken =
      let e : i + 1 ≡ suc i = omega arith in
      ap (λ k. take k products) e ∙ take-suc products i p within ∙ ap (λ q. take i products ++ q ∷ []) (get_or_from_slice_get products i p p at)

  next_place : (place + 3 + length (literals_of bits p)) ≡ next bits 1 (take (i + 1) products)
  next_place = ap (λ n. n + 3 + length (literals_of bits p)) is ∙ sym (ap (next bits 1) taken ∙ next_push bits 1 (take i products) p)

  added_more : AddsNotes R (noted_products bits 1 0 (take i products)) [] old → AddsNotes R (noted_product bits place i p) old new → AddsNotes R (noted_products bits 1 0 (take (i + 1) products)) [] new
  added_more h k =
      let count : 0 + length (take i products) ≡ i = let l = length-take-le i products (omega (arith, within)) in omega (arith, l) in
      let whole : noted_products bits 1 0 (take (i + 1) products) ≡ noted_products bits 1 0 (take i products) ++ noted_product bits place i p =
      ap (noted_products bits 1 0) taken ∙ products_push bits 1 0 (take i products) p
      ∙ ap (λ m. noted_products bits 1 0 (take i products) ++ noted_product bits m (0 + length (take i products)) p) (sym is)
      ∙ ap (λ j. noted_products bits 1 0 (take i products) ++ noted_product bits place j p) count in
      subst (λ es. AddsNotes R es [] new) (sym whole) (adds_more R (noted_products bits 1 0 (take i products)) (noted_product bits place i p) [] old new h k)

pub loop-i-preserved : goal.loop-i-preserved
loop-i-preserved c =
    let products = products_of c.args.terms.now in
    let R = IsNoteOf c.args.inside.now c.args.outside.now products in
    let t = c.index-terms-i.result in
    let here : slice_get c.args.terms.now c.loop-i.i ≡ Some c.index-terms-i.result = slice_get_read c.args.terms.now (length c.args.terms.now) c.loop-i.i t refl c.loop-i-test.true c.index-terms-i.is in
    let at = product_at c.args.terms.now c.loop-i.i t here in
    let old = c.loop-i.invariant in
    let best = c.index.result.now in
    let within : c.loop-i.i < length c.in_ok-owns.owns.items = let len : length c.in_ok-owns.owns.items ≡ length c.args.terms.now = c.in_ok-owns.ensures.len in omega (arith, len, c.loop-i-test.true) in
    let own = subst (λ (b : Best). IsChosen (IsAlone (products_of c.args.terms.now) c.loop-i.i) c.args.inside.now b.spot) (sym c.index.ensures) (c.in_ok-owns.ensures.each c.loop-i.i best within) in
    let soon : c.in_ok-place.place ≤ c.loop-i.place + 131 = c.in_ok-place.ensures.soon in
    record {
      place = c.in_ok-place.ensures.next ∙ next_place R c.args.n products c.loop-i.i c.loop-i.place c.loop-i.notes.items c.add_term.new.notes.items (product_of t) at old.place;
      early = let e : c.loop-i.place ≤ 1 + 131 * c.loop-i.i = old.early in omega (arith, e, soon);
      added = added_more R c.args.n products c.loop-i.i c.loop-i.place c.loop-i.notes.items c.add_term.new.notes.items (product_of t) at old.place old.added (c.in_ok-place.ensures.added c.args.inside.now products c.loop-i.i own);
    }

-- the loop has come to the end
whole_list : (terms : List Term) (i : ℕ) → length terms ≤ i → take i (products_of terms) ≡ products_of terms
whole_list terms i over = let l = length-map terms product_of in take_all i (products_of terms) (omega (arith, l, over))

each_of : (R : Noted → Note → Type 0) (bits : ℕ) (terms : List Term) (i : ℕ) (notes : List Note) → length terms ≤ i → AddsNotes R (noted_products bits 1 0 (take i (products_of terms))) [] notes → AllZip R (noted bits (products_of terms)) notes
each_of R bits terms i notes over h = subst (λ ps. AllZip R (noted_products bits 1 0 ps) notes) (whole_list terms i over) (subst (AllZip R (noted_products bits 1 0 (take i (products_of terms)))) (sym h.is) h.each)

pub returns-clause-each : goal.returns-clause-each
returns-clause-each c = each_of (IsNoteOf c.args.inside.now c.args.outside.now (products_of c.args.terms.now)) c.args.n c.args.terms.now c.loop-i.i c.loop-i.notes.items c.loop-i-test.false c.loop-i.invariant.added

pub returns-clause-ascend : goal.returns-clause-ascend
returns-clause-ascend c =
    let products = products_of c.args.terms.now in
    let m = next c.args.n 1 products in
    from_rise c.args.inside.now c.args.outside.now products 0 m (noted c.args.n products) c.loop-i.notes.items (lower_start 0 1 m (noted c.args.n products) (omega arith) (rise_products c.args.n 1 0 products))
    (each_of (IsNoteOf c.args.inside.now c.args.outside.now products) c.args.n c.args.terms.now c.loop-i.i c.loop-i.notes.items c.loop-i-test.false c.loop-i.invariant.added)

pub returns-clause-early : goal.returns-clause-early
returns-clause-early c =
    let products = products_of c.args.terms.now in
    let m = next c.args.n 1 products in
    let is : c.loop-i.place ≡ next c.args.n 1 products = c.loop-i.invariant.place ∙ ap (next c.args.n 1) (whole_list c.args.terms.now c.loop-i.i c.loop-i-test.false) in
    let e : c.loop-i.place ≤ 1 + 131 * c.loop-i.i = c.loop-i.invariant.early in
    let i_fits : c.loop-i.i < 2 ^ 64 = search rules in
    let few : next c.args.n 1 products ≤ 2 ^ 100 = omega (arith, is, e, i_fits) in
    below_rise c.args.inside.now c.args.outside.now products 1 m (2 ^ 100) (noted c.args.n products) c.loop-i.notes.items few (rise_products c.args.n 1 0 products)
    (each_of (IsNoteOf c.args.inside.now c.args.outside.now products) c.args.n c.args.terms.now c.loop-i.i c.loop-i.notes.items c.loop-i-test.false c.loop-i.invariant.added)
