-- A carved tree of a boundary's division means the boundary.
use Rattle.std.proofs.Common.{◌≡◌, ◌⊎◌, ℕ, Bool, true, false, List, length, refl, sym, ap, ◌∙◌, subst, inl, inr, All}
use Rattle.std.specs.Prelude.{◌↔◌, slice_get, Some}
use Rattle.std.specs.List.{Contains}
use Rattle.std.specs.Int.{bit_at}
use Rattle.std.proofs.lemmas.List.Elements.{All-map, All-contains}
use Rattle.bc_carve.specs.declared.piece.Piece.{Piece}
use Rattle.bc_carve.specs.Shape.{Shapes, shapes, some_holds}
use Rattle.bc_carve.specs.Carving.{IsCarving}
use Rattle.bc_carved.specs.Carved.{carved_shape}
use Rattle.bc_carved.specs.Meanings.{MeansBy}
use Rattle.bc_carved.proofs.Meaning.{carved_means}
use Rattle.bc_carved.specs.Counts.{all_blocks}
use Rattle.bc_carve.specs.Shape.{literals_in}
use Rattle.bc_factor.specs.Counts.{leaf_count}
use Rattle.bc_tree.specs.declared.tree.Leaf.{Leaf}
use Rattle.bc_tree.specs.Shape.{shape}
use Rattle.bc_tree.specs.Holds.{HoldsBy}
use Rattle.bc_factor.specs.Meanings.{AreOfOneKind}
use Rattle.bc_formula.specs.declared.terms.Division.{Division}
use Rattle.bc_formula.specs.declared.terms.Formula.{Formula}
use Rattle.bc_formula.specs.Geometry.{Geometry}
use Rattle.bc_formula.specs.Headline.{Means}
use Rattle.bc_formula.specs.Divisions.{AreBits, AreDivided, IsDivision}
use Rattle.bc_formula.specs.Shown.{masks_of}
use Rattle.bc_pieces.specs.Carved.{ArePiecesOf, IsCarvedFrom}
use Rattle.bc_pieces.specs.Carvings.{ArePieces, IsCarvedTree}
use Rattle.bc_pieces.proofs.OneKind.{of_one_kind}

not_both : (b : Bool) → b ≡ true → b ≡ false → ⊥
not_both true e f = cc
not_both false e f = cc

module _ {B P X : Type 0} (k : Geometry B P X) (b : B) (box : X) (leaves : List Leaf) (mask_at : P → ℕ) (inside outside : List ℕ) (bits : AreBits k b box leaves mask_at) (divided : AreDivided k b box mask_at inside outside) where
  -- the pieces hold each inside mask and no outside mask, so their tree means the boundary
  pub means_of : (pieces : List Piece) → IsCarving inside outside (length leaves) pieces → Means k b box (carved_shape (k.block box) leaves (shapes pieces))
  means_of pieces is =
      let ss = shapes pieces in
      let m = carved_means k.in_leaf (k.block box) leaves ss is.products in
      let at : (p : P) → k.inside box p → k.off b p → HoldsBy k.in_leaf (carved_shape (k.block box) leaves ss) p ↔ (some_holds (mask_at p) ss ≡ true) =
      λ p ins off. m.at_mask p (mask_at p) (bits.in_block p ins) (bits.bits p ins off) in
      record {
        free = λ p ins off. (
          λ h. elim (bits.decided p) [
            | inl odd ↦ odd
            | inr even ↦ absurd (not_both _ ((at p ins off).0 h) (All-contains (λ mask. some_holds mask ss ≡ false) outside (mask_at p) is.no_outside_held (divided.even p ins off even)))
          ],
          λ odd. (at p ins off).1 (All-contains (λ mask. some_holds mask ss ≡ true) inside (mask_at p) is.each_inside_held (divided.odd p ins off odd)),
        );
        outside_tree = λ p out h. bits.off_block p out (m.in_block p h);
        outside_boundary = bits.even;
      }

module _ {B P X : Type 0} (k : Geometry B P X) (b : B) (box : X) (d : Division) (f : Formula) (is : IsDivision k k.lean_mask b box d) (made : IsCarvedFrom d f) where
  -- a mask of the list is one of the boundary
  of_list : (odd : Bool) (ms : List ℕ) (mask : ℕ) → All (λ m. k.lean_mask b box odd m) ms → Contains ms mask → k.lean_mask b box odd mask
  of_list odd ms mask h c = All-contains (λ m. k.lean_mask b box odd m) ms mask h c

  form : shape f.tree ≡ carved_shape (k.block box) d.leaves (shapes made.pieces)
  form = made.form ∙ ap (λ (l : Leaf). carved_shape l d.leaves (shapes made.pieces)) is.block

  pub carved_tree : (f.head ≡ k.head box) × IsCarvedTree k b box (shape f.tree)
  carved_tree = (
    made.head ∙ is.head,
    record {
      within = is.bits.within;
      box_of = is.bits.box_of;
      leaves = d.leaves;
      pieces = made.pieces;
      of_boundary = record {
        of_input = is.bits.of_input;
        odd = masks_of d.inside.items;
        even = masks_of d.outside.items;
        odd_are = λ mask. (is.parts.every_inside mask, of_list true (masks_of d.inside.items) mask (All-map (λ m. k.lean_mask b box true m) (λ s. s.mask) d.inside.items is.parts.inside_masks));
        even_are = λ mask. (is.parts.every_outside mask, of_list false (masks_of d.outside.items) mask (All-map (λ m. k.lean_mask b box false m) (λ s. s.mask) d.outside.items is.parts.outside_masks));
        carving = made.of_division;
      };
      form = form;
      means = subst (Means k b box) (sym form) (means_of k b box d.leaves is.mask_at (masks_of d.inside.items) (masks_of d.outside.items) is.bits is.divided made.pieces made.of_division.carving);
      leaves_are = made.leaves_are;
      allowed = made.allowed (subst (λ (l : Leaf). AreOfOneKind l d.leaves) (sym is.block) (of_one_kind (k.block box) d.leaves is.bits.allowed));
    },
  )
