-- What a boundary divides its box into: the leaves of its half-spaces, and the masks inside and outside, of which a cover
-- makes the formula.
use Rattle.std.specs.Prelude.{◌≡◌, ◌≢◌, ◌↔◌, ◌⊎◌, ◌<◌, ◌≤◌, ◌^◌, ℕ, Bool, true, false, List, ◌++◌, length, slice_get, Some}
use Rattle.std.specs.List.{All, AllPairs, AllZip, Contains}
use Rattle.std.specs.Int.{bit_at}
use Rattle.bc_cover.specs.declared.term.Term.{Term}
use Rattle.bc_cover.specs.Covers.{IsCover}
use Rattle.bc_tree.specs.declared.tree.Leaf.{Leaf}
use Rattle.bc_tree.specs.Shape.{shape}
use Rattle.bc_tree.specs.Cuts.{cover_shape}
use Rattle.bc_tree.specs.Spells.{IsAllowed}
use Rattle.bc_text.specs.Numbered.{Ascend, EndEarly}
use Rattle.bc_notes.specs.Nodes.{is_half_space}
use Rattle.bc_notes.specs.Products.{products_of}
use Rattle.bc_notes.specs.Noted.{noted}
use Rattle.bc_notes.specs.Chosen.{IsNoteOf}
use Rattle.bc_formula.specs.declared.masks.Masks.{Masks}
use Rattle.bc_formula.specs.declared.masks.Masks.TheVariants.{Whole, Lean}
use Rattle.bc_formula.specs.declared.terms.Formula.{Formula}
use Rattle.bc_formula.specs.declared.terms.Division.{Division}
use Rattle.bc_formula.specs.Geometry.{Geometry}
use Rattle.bc_formula.specs.Shown.{masks_of, AreShownParts}

-- the masks are ones that a cover is found of: none stands twice, and none has a bit for which there is no leaf
pub record AreMasks (leaves : List Leaf) (inside outside : List ℕ) : Type 0 where
  pub few : length leaves ≤ 64
  pub distinct : AllPairs (λ one other. one ≢ other) (inside ++ outside)
  pub inside_below : All (λ mask. mask < 2 ^ length leaves) inside
  pub outside_below : All (λ mask. mask < 2 ^ length leaves) outside

-- the leaves are those of the boundary's half-spaces, and the mask of a point tells in which of them it is
pub record AreBits {B P X : Type 0} (k : Geometry B P X) (b : B) (box : X) (leaves : List Leaf) (mask_at : P → ℕ) : Type 0 where
  pub within : k.within b
  pub box_of : k.box_of b box
  pub of_input : k.leaves b leaves
  -- each tree of terms over these leaves is one that a text may spell
  pub allowed : (terms : List Term) → IsAllowed (cover_shape (k.block box) leaves terms)
  pub in_block : (p : P) → k.inside box p → k.in_leaf (k.block box) p
  pub off_block : (p : P) → k.outside box p → k.in_leaf (k.block box) p → ⊥
  pub bits : (p : P) → k.inside box p → k.off b p → (i : ℕ) (l : Leaf) → slice_get leaves i ≡ Some l → k.in_leaf l p ↔ (bit_at (mask_at p) i ≡ 1)
  pub decided : (p : P) → k.odd b p ⊎ (k.odd b p → ⊥)
  pub even : (p : P) → k.outside box p → k.odd b p → ⊥

-- each free point's mask is in one of the lists
pub record AreDivided {B P X : Type 0} (k : Geometry B P X) (b : B) (box : X) (mask_at : P → ℕ) (inside outside : List ℕ) : Type 0 where
  pub odd : (p : P) → k.inside box p → k.off b p → k.odd b p → Contains inside (mask_at p)
  pub even : (p : P) → k.inside box p → k.off b p → (k.odd b p → ⊥) → Contains outside (mask_at p)

-- the masks of all parts, or the lean ones
abbrev pub mask_kind : {B P X : Type 0} → Masks → Geometry B P X → B → X → Bool → ℕ → Type 0
mask_kind Whole k = k.has_mask
mask_kind Lean k = k.lean_mask

-- the division is that of the boundary within its box, with the masks of a kind
pub record IsDivision {B P X : Type 0} (k : Geometry B P X) (Has : B → X → Bool → ℕ → Type 0) (b : B) (box : X) (d : Division) : Type 0 where
  pub block : d.block ≡ k.block box
  pub head : d.head ≡ k.head box
  pub mask_at : P → ℕ
  pub bits : AreBits k b box d.leaves mask_at
  pub boxed : is_half_space (k.block box) ≡ false
  pub half_spaces : All (λ l. is_half_space l ≡ true) d.leaves
  pub masks : AreMasks d.leaves (masks_of d.inside.items) (masks_of d.outside.items)
  pub divided : AreDivided k b box mask_at (masks_of d.inside.items) (masks_of d.outside.items)
  pub parts : AreShownParts k Has b box mask_at d.inside.items d.outside.items

-- the formula is that of terms that cover the masks of the division
pub record IsMadeOf (d : Division) (f : Formula) : Type 0 where
  pub terms : List Term
  pub cover : IsCover (masks_of d.inside.items) (masks_of d.outside.items) (length d.leaves) terms
  pub form : shape f.tree ≡ cover_shape d.block d.leaves terms
  pub head : f.head ≡ d.head
  -- one note for each term and each literal, chosen by the masks; the places ascend, and are those of a tree
  pub notes : AllZip (IsNoteOf d.inside.items d.outside.items (products_of terms)) (noted (length d.leaves) (products_of terms)) f.notes.items
  pub rising : Ascend f.notes.items
  pub early : EndEarly f.notes.items
