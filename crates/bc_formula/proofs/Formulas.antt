-- The tree of a cover means the boundary: at a free point it holds exactly where the crossings are odd.
use Rattle.std.proofs.Common.{◌≡◌, ◌+◌, ℕ, Bool, true, false, List, map, length, refl, sym, ap, ◌∙◌, subst, ◌⊎◌, inl, inr}
use Rattle.std.specs.Prelude.{IsTrue, slice_get, Some}
use Rattle.std.specs.List.{All, Any, Contains}
use mathlib.Core.List.{map-map}
use Rattle.std.proofs.lemmas.List.Elements.{All-contains, All-map}
use Rattle.bc_cover.specs.declared.term.Term.{Term}
use Rattle.bc_cover.specs.Covers.{Holds, TermPrecedes, IsCover}
use Rattle.bc_tree.specs.declared.tree.Leaf.{Leaf}
use Rattle.bc_tree.specs.Shape.{Shape, shape, union, shapes_of}
use Rattle.bc_tree.specs.declared.product.Product.{Product}
use Rattle.bc_tree.specs.Cuts.{product_shape, products_shape, product_of, cover_shape}
use Rattle.bc_tree.specs.Spells.{IsAllowed}
use Rattle.bc_tree.proofs.CoverHolds.{cover_holds, cover_in_block}
use Rattle.bc_formula.specs.declared.terms.Formula.{Formula}
use Rattle.bc_formula.specs.declared.terms.Division.{Division}
use Rattle.bc_text.specs.declared.note.Note.{Note}
use Rattle.bc_text.specs.Numbered.{Ascend, EndEarly}
use Rattle.bc_formula.specs.Geometry.{Geometry}
use Rattle.bc_formula.specs.Notes.{AreNotes, AreNeeded}
use Rattle.bc_formula.specs.Shown.{masks_of, TellsSides}
use Rattle.bc_formula.specs.Headline.{IsOfLeaves, ComesBefore, Means, IsFormula}
use Rattle.bc_formula.specs.Divisions.{AreBits, AreDivided, IsDivision, IsMadeOf}
use Rattle.bc_formula.proofs.Mapped.{unmapped_at}
use Rattle.bc_formula.proofs.Marks.{notes_say}
use Rattle.bc_formula.proofs.Needed.{are_notes, are_needed}

-- a test is passed or not
pub true_or_not : (b : Bool) → IsTrue b ⊎ (IsTrue b → ⊥)
true_or_not true = inl refl
true_or_not false = inr (λ h. cc)

-- a term holds a mask exactly where the mask is inside
held : (inside outside : List ℕ) (n : ℕ) (terms : List Term) (mask : ℕ) → IsCover inside outside n terms → Contains inside mask → Any (λ t. Holds t mask) terms
held inside outside n terms mask cover h = All-contains (λ mask. Any (λ t. Holds t mask) terms) inside mask cover.each_inside_held h

not_held : (inside outside : List ℕ) (n : ℕ) (terms : List Term) (mask : ℕ) → IsCover inside outside n terms → Contains outside mask → Any (λ t. Holds t mask) terms → ⊥
not_held inside outside n terms mask cover h (k, t, l, e, holds) =
    All-contains (λ mask. ¬ (Holds t mask)) outside mask (All-contains (λ t. All (λ mask. ¬ (Holds t mask)) outside) terms t cover.no_outside_held (k, l, e)) h holds

-- ---- products of terms

products_are : (block : Leaf) (leaves : List Leaf) (terms : List Term) → cover_shape block leaves terms ≡ products_shape block leaves (map product_of terms)
products_are block leaves terms = ap (λ (shapes : List Shape). union (shapes_of shapes)) (sym (map-map (product_shape block leaves) product_of terms))

of_terms : (leaves : List Leaf) (terms : List Term) → All (λ (t : Term). IsOfLeaves leaves (product_of t)) terms → All (IsOfLeaves leaves) (map product_of terms)
of_terms leaves terms h = All-map (IsOfLeaves leaves) product_of terms h

ascending : (terms : List Term) → ((i : ℕ) (t u : Term) → slice_get terms i ≡ Some t → slice_get terms (i + 1) ≡ Some u → TermPrecedes t u)
    → (i : ℕ) (one next : Product) → slice_get (map product_of terms) i ≡ Some one → slice_get (map product_of terms) (i + 1) ≡ Some next → ComesBefore one next
ascending terms h i one next e f =
    let a = unmapped_at product_of terms i one e in
    let b = unmapped_at product_of terms (i + 1) next f in
    subst (λ (p : Product). ComesBefore p next) (sym a.2) (subst (λ (q : Product). ComesBefore (product_of a.0) q) (sym b.2) (h i a.0 b.0 a.1 b.1))

-- ---- the formula

module _ {B P X : Type 0} (k : Geometry B P X) (b : B) (box : X) (leaves : List Leaf) (mask_at : P → ℕ) (inside outside : List ℕ) (terms : List Term)
    (facts : AreBits k b box leaves mask_at) (divided : AreDivided k b box mask_at inside outside) (cover : IsCover inside outside (length leaves) terms) where
  -- the tree of the terms means the boundary
  pub means : Means k b box (cover_shape (k.block box) leaves terms)
  means = record {
    free = λ p ins off.
        let tree = cover_holds k.in_leaf (k.block box) leaves terms p (mask_at p) (facts.in_block p ins) (facts.bits p ins off) cover.bits_below in (
          λ holds.
              elim (facts.decided p) [
                | inl odd ↦ odd
                | inr even ↦ absurd (not_held inside outside (length leaves) terms (mask_at p) cover (divided.even p ins off even) (tree.0 holds))
              ],
          λ odd. tree.1 (held inside outside (length leaves) terms (mask_at p) cover (divided.odd p ins off odd)),
        );
    outside_tree = λ p out holds. facts.off_block p out (cover_in_block k.in_leaf (k.block box) leaves terms p holds);
    outside_boundary = facts.even;
  }

  of_leaves : All (λ (t : Term). IsOfLeaves leaves (product_of t)) terms
  of_leaves = λ i d l.
      let below = cover.bits_below i d l in
      record { pos_below = below.0; neg_below = below.1; apart = cover.no_bit_shared i d l }

  formula_is : (tree : Shape) (notes : List Note) → tree ≡ cover_shape (k.block box) leaves terms → AreNotes k b box leaves (map product_of terms) notes → AreNeeded k b box (length leaves) (map product_of terms) → Ascend notes → EndEarly notes
      → IsFormula k b box tree notes
  formula_is tree notes is says needed rising early = record {
    within = facts.within;
    box_of = facts.box_of;
    allowed = subst IsAllowed (sym is) (facts.allowed terms);
    normal = record {
      leaves = leaves;
      of_input = facts.of_input;
      products = map product_of terms;
      of_leaves = of_terms leaves terms of_leaves;
      ascend = ascending terms cover.ascend;
      form = is ∙ products_are (k.block box) leaves terms;
    };
    means = subst (Means k b box) (sym is) means;
    says = says;
    needed = needed;
    rising = rising;
    early = early;
  }

-- what is made of a boundary's division is a formula of the boundary
pub formula_made : {B P X : Type 0} (k : Geometry B P X) (b : B) (box : X) (d : Division) (f : Formula) → IsDivision k k.lean_mask b box d → IsMadeOf d f → (f.head ≡ k.head box) × IsFormula k b box (shape f.tree) f.notes.items
formula_made k b box d f h made =
    let tells : TellsSides k b box d.leaves h.mask_at = record { in_block = h.bits.in_block; bits = h.bits.bits } in
    let products = map product_of made.terms in
    let each = notes_say k b box d.leaves h.mask_at d.inside.items d.outside.items made.terms tells h.parts.inside_shown h.parts.outside_shown made.cover f.notes.items made.notes in
    let says = are_notes k b box d.leaves products f.notes.items h.boxed h.half_spaces each in
    let needed = are_needed k b box (length d.leaves) d.inside.items d.outside.items made.terms h.parts.inside_masks h.parts.outside_masks made.cover in (
      made.head ∙ h.head,
      formula_is k b box d.leaves h.mask_at (masks_of d.inside.items) (masks_of d.outside.items) made.terms h.bits h.divided made.cover (shape f.tree) f.notes.items
          (made.form ∙ ap (λ (l : Leaf). cover_shape l d.leaves made.terms) h.block) says needed made.rising made.early,
    )
